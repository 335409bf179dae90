-- What a service keeps of the metadata of its map.
use Rattle.std.specs.Prelude.{◌≡◌, ◌<◌, ℕ, Bool, true, false}
use Rattle.std.specs.Rc.{rc_slice_items}
use Rattle.feature_store.specs.Store.{FeatureMap}
use Rattle.map_metadata.specs.Metadata.{IsMetadataOf}
use Rattle.tile_service.specs.declared.metadata_steps.MapMetadata.{MapMetadata}
use Rattle.tile_service.specs.declared.metadata_steps.MapMetadata.TheVariants.{Unread, Text}

-- they are those of this map: its features are being read, or this is their text
abbrev pub IsMetadataStage : FeatureMap → MapMetadata → Type 0
IsMetadataStage m (Unread draft) = draft.features ≡ m
IsMetadataStage m (Text text) = IsMetadataOf m (rc_slice_items text)

-- features are left to read
abbrev pub is_unread : MapMetadata → Bool
is_unread (Unread draft) = true
is_unread (Text text) = false

-- after a step, where features with lower numbers than this were read before, those with lower numbers than a greater one are
abbrev pub GoesFurther : (from : ℕ) → MapMetadata → Type 0
GoesFurther from (Unread draft) = from < draft.from
GoesFurther from (Text text) = Unit {0}

-- after a step on what was kept: a text stays
abbrev pub IsFurther : (old new : MapMetadata) → Type 0
IsFurther (Unread draft) new = GoesFurther draft.from new
IsFurther (Text text) new = new ≡ Text text
