-- The layers that can be written.
use Rattle.std.specs.Prelude.{◌≡◌, pos, ◌<◌, ◌^◌, ◌<ℤ◌, List, [], length, map, All, IsSome}
use Rattle.std.specs.Ordering.{nat_cmp}
use Rattle.std.specs.Cmp.Lexicographic.{slice_cmp}
use Rattle.std.specs.List.Sorted.{IsStrictlySortedBy}
use Rattle.geometry_commands.specs.Encodable.{CanSpell}
use Rattle.mvt_layer.specs.declared.layers.TheConstants.{CURRENT_VERSION, DEFAULT_EXTENT}
use Rattle.mvt_layer.specs.Tile.{TagView, text, natural, negative, truth, Tagged, FeatureView, LayerView}
use Rattle.mvt_layer.specs.Reads.{AreNamed}
use Rattle.mvt_write.specs.Written.{tags_of}

-- a whole number that is said to be negative is below 0, and no value is a floating point number
abbrev pub CanWriteValue : TagView → Type 0
CanWriteValue (text t) = Unit {0}
CanWriteValue (natural n) = Unit {0}
CanWriteValue (negative z) = z <ℤ pos 0
CanWriteValue (truth b) = Unit {0}
CanWriteValue _ = ⊥

-- each key comes before the next, byte by byte
abbrev pub HasAscendingKeys : List Tagged → Type 0
HasAscendingKeys tags = IsStrictlySortedBy (slice_cmp nat_cmp) (map (λ t. t.0) tags)

pub record CanWriteFeature (f : FeatureView) : Type 0 where
  pub id : IsSome f.id
  pub values : All (λ t. CanWriteValue t.1) f.tags
  pub keys : HasAscendingKeys f.tags
  pub shape : CanSpell f.shape

pub record CanWriteLayer (l : LayerView) : Type 0 where
  pub extent : l.extent ≡ DEFAULT_EXTENT
  pub version : l.version ≡ CURRENT_VERSION
  pub features : All CanWriteFeature l.features
  pub few : length (tags_of l.features) < 2 ^ 32

-- layers of different names, each of which can be written
pub record CanWriteAll (ls : List LayerView) : Type 0 where
  pub layers : All CanWriteLayer ls
  pub named : AreNamed [] ls
