-- The tiles that a service caches, and the service that continues with others.
use Rattle.std.proofs.Common.{◌≡◌, ℕ, ◌+◌, List, Option, None, Some, refl, sym, ap, ◌∙◌, subst, arith}
use Rattle.sector_disk.specs.Disk.{History}
use Rattle.cached_map.specs.Cached.{CachedView, WasMap, AreReadRight}
use Rattle.feature_store.specs.Content.{IsTileContent}
use Rattle.feature_store.specs.Layers.{layers}
use Rattle.feature_store.specs.Store.{FeatureMap}
use Rattle.edit_journal.specs.declared.journal.Journal.{Journal}
use Rattle.generations.specs.declared.root.Root.{Root}
use Rattle.feature_store.specs.Moments.{MomentView}
use Rattle.tile_service.specs.declared.drafting.Draft.{Draft}
use Rattle.tile_service.specs.declared.metadata_steps.MapMetadata.{MapMetadata}
use Rattle.tile_service.specs.Inside.{service_view}
use Rattle.tile_service.specs.Service.{PublicationView, ServiceView, IsService, IsUp}
use Rattle.tile_service.specs.Stored.{Stored}
use Rattle.tile_service.specs.declared.service.Service.TheInside.{Inside}
use Rattle.tile_service.proofs.Archive.Read.{up_read}

-- the service has this map
pub record HasMap {D : Type 0} (service : ServiceView D) (map : CachedView) : Type 0 where
  pub features : map.features ≡ service.features
  pub touched : map.touched ≡ service.touched
  pub last : map.last ≡ service.journal.last
  pub kept : map.kept ≡ service.kept

-- what was read and cached of the map is so of the service,
right_of_service : {D : Type 0} (service : ServiceView D) (map : CachedView) → HasMap service map
    → AreReadRight map.features map.touched map.last map.kept → AreReadRight service.features service.touched service.journal.last service.kept
right_of_service service map has right =
    subst (λ (m : FeatureMap). AreReadRight m service.touched service.journal.last service.kept) has.features
    (subst (λ (cells : List ℕ). AreReadRight map.features cells service.journal.last service.kept) has.touched
    (subst (λ (n : ℕ). AreReadRight map.features map.touched n service.kept) has.last
    (subst (AreReadRight map.features map.touched map.last) has.kept right)))

-- and the other way round
pub right_of_map : {D : Type 0} (service : ServiceView D) (map : CachedView) → HasMap service map
    → AreReadRight service.features service.touched service.journal.last service.kept → AreReadRight map.features map.touched map.last map.kept
right_of_map service map has right =
    subst (λ (m : FeatureMap). AreReadRight m map.touched map.last map.kept) (sym has.features)
    (subst (λ (cells : List ℕ). AreReadRight service.features cells map.last map.kept) (sym has.touched)
    (subst (λ (n : ℕ). AreReadRight service.features service.touched n map.kept) (sym has.last)
    (subst (AreReadRight service.features service.touched service.journal.last) (sym has.kept) right)))

-- With other tiles cached the service continues, if those that were read are right.
pub up_cached : {D : Type 0} (sectors : ℕ) (h : History) (stored : Stored) (old new : ServiceView D) → IsUp sectors h stored old
    → (map later : CachedView) → HasMap old map → later ≡ record map { kept = later.kept }
    → new ≡ record old { features = later.features; touched = later.touched; kept = later.kept }
    → (AreReadRight map.features map.touched map.last map.kept → AreReadRight later.features later.touched later.last later.kept)
    → IsUp sectors h stored new
up_cached {D} sectors h stored old new up map later has same new_is on = subst (IsUp sectors h stored) (sym (new_is ∙ only_kept))
    (up_read sectors h stored old up old.disk old.published later.kept sectors h refl refl up.archived (right_of_service with_later later has_later
    (on (right_of_map old map has up.reads))))
  where
    with_later : ServiceView D
    with_later = record old { kept = later.kept }

    has_later : HasMap with_later later
    has_later = record {
      features = ap (λ (m : CachedView). m.features) same ∙ has.features;
      touched = ap (λ (m : CachedView). m.touched) same ∙ has.touched;
      last = ap (λ (m : CachedView). m.last) same ∙ has.last;
      kept = refl;
    }

    only_kept : record old { features = later.features; touched = later.touched; kept = later.kept } ≡ with_later
    only_kept = λ i. record old { features = has_later.features i; touched = has_later.touched i; kept = later.kept }

-- A tile that was read from the archive may be cached as one of the map at the beginning of the journal.
pub up_keeps_read : {D : Type 0} (sectors : ℕ) (h : History) (stored : Stored) (old new : ServiceView D) → IsUp sectors h stored old
    → (map later : CachedView) (number : ℕ) → HasMap old map → later ≡ record map { kept = later.kept }
    → new ≡ record old { features = later.features; touched = later.touched; kept = later.kept }
    → number ≡ old.journal.edits → (z x y : ℕ) (bytes : List ℕ) → IsTileContent (layers stored.snapshot_map z x y) (Some bytes)
    → ((was : FeatureMap) → WasMap map.features map.touched map.last number was → IsTileContent (layers was z x y) (Some bytes)
    → AreReadRight map.features map.touched map.last map.kept → AreReadRight later.features later.touched later.last later.kept)
    → IsUp sectors h stored new
up_keeps_read sectors h stored old new up map later number has same new_is number_is z x y bytes tile keeps =
    up_cached sectors h stored old new up map later has same new_is (keeps stored.snapshot_map was tile)
  where
    at : stored.edits + 0 ≡ number
    at = omega (arith, number_is, up.edits_are)

    was : WasMap map.features map.touched map.last number stored.snapshot_map
    was = subst (λ (m : FeatureMap). WasMap m map.touched map.last number stored.snapshot_map) (sym has.features)
        (subst (λ (cells : List ℕ). WasMap old.features cells map.last number stored.snapshot_map) (sym has.touched)
        (subst (λ (n : ℕ). WasMap old.features old.touched n number stored.snapshot_map) (sym has.last)
        (subst (λ (n : ℕ). WasMap old.features old.touched old.journal.last n stored.snapshot_map) at (up.were 0 (omega arith)))))

-- nothing is no bytes
pub nothing_given : (bytes : List ℕ) → None ≡ Some bytes → ⊥
nothing_given bytes is = cc

-- With other tiles cached the invariants of a service hold as before.
pub service_cached : {sectors size version : ℕ} {root : Root} {journal kept_journal : Journal} {publication : Option PublicationView} {known : Option MapMetadata}
    {moment : Option MomentView} {draft : Option Draft} (map later : CachedView) → later ≡ record map { kept = later.kept }
    → IsService sectors size version root journal kept_journal map publication known moment draft
    → IsService sectors size version root journal kept_journal later publication known moment draft
service_cached {sectors} {size} {version} {root} {journal} {kept_journal} {publication} {known} {moment} {draft} map later same is =
    subst (λ (m : CachedView). IsService sectors size version root journal kept_journal m publication known moment draft) (sym same) (record {
      within = is.within;
      version_is = is.version_is;
      ring = is.ring;
      area = is.area;
      texts = is.texts;
      counted = is.counted;
      last_is = is.last_is;
      back = is.back;
      going = is.going;
      told = is.told;
      as_of = is.as_of;
      drafts = is.drafts;
    })

module _ {D : Type 0} where
  -- A read for a tile changes nothing but the disk, the look-up and what is cached.
  abbrev pub IsSameButRead : (old new : ServiceView D) → Type 0
  IsSameButRead old new = new ≡ record old { disk = new.disk; published = new.published; kept = new.kept }

  -- so does another one after it
  pub read_on : (old middle new : ServiceView D) → IsSameButRead old middle → IsSameButRead middle new → IsSameButRead old new
  read_on old middle new first then =
      then ∙ ap (λ (s : ServiceView D). record s { disk = new.disk; published = new.published; kept = new.kept }) first

  -- with other tiles cached a service is seen as the same
  pub seen_cached : (inside : Inside D) (later : CachedView) → later ≡ record inside.map { kept = later.kept }
      → IsSameButRead (service_view inside) (service_view (record inside { map = later }))
  seen_cached inside later same = ap (λ (m : CachedView). service_view (record inside { map = m })) same

  -- where the cache isn't changed either, it is the same
  pub read_uncached : (old new : ServiceView D) → new ≡ record old { disk = new.disk; published = new.published } → IsSameButRead old new
  read_uncached old new same =
      same ∙ (λ i. record old { disk = new.disk; published = new.published; kept = ap (λ (s : ServiceView D). s.kept) (sym same) i })
