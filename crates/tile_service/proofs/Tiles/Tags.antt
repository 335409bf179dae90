-- The number of a tile is a tag of it, since a service still knows the maps that it knew.
use Rattle.std.proofs.Common.{◌≡◌, ◌∙◌, ℕ, List, [], ◌∷◌, sym, ap, subst}
use Rattle.sector_disk.specs.Disk.{History}
use Rattle.cached_map.specs.Cached.{CachedView, WasMap}
use Rattle.cached_map.proofs.Kept.{known_layers}
use Rattle.feature_store.specs.Store.{FeatureMap}
use Rattle.tile_service.specs.Machine.{Happening}
use Rattle.tile_service.specs.Runs.{IsTag, TakesAll}
use Rattle.tile_service.specs.Service.{ServiceView}
use Rattle.tile_service.specs.Tags.{Knows, StillKnows, TellsNumber, KeepsLayers}

module _ {D : Type 0} where
  -- with the same map, numbers of cells and last edit it knows what it knew
  pub knows_same : (old new : ServiceView D) → new.features ≡ old.features → new.touched ≡ old.touched → new.journal.last ≡ old.journal.last
      → StillKnows old new
  knows_same old new features touched last n was known =
      subst (λ (l : ℕ). WasMap new.features new.touched l n was) (sym last)
      (subst (λ (cells : List ℕ). WasMap new.features cells old.journal.last n was) (sym touched)
      (subst (λ (m : FeatureMap). WasMap m old.touched old.journal.last n was) (sym features) known))

  -- the same of a map that made room, beside a journal
  pub same_known : (map room : CachedView) (journal last : ℕ) (new : ServiceView D) → room ≡ record map { spare = room.spare } → last ≡ journal
      → new.features ≡ room.features → new.touched ≡ room.touched → new.journal.last ≡ last
      → (n : ℕ) (was : FeatureMap) → WasMap map.features map.touched journal n was → WasMap new.features new.touched new.journal.last n was
  same_known map room journal last new same kept features touched last_is n was known =
      subst (λ (l : ℕ). WasMap new.features new.touched l n was) (sym (last_is ∙ kept))
      (subst (λ (cells : List ℕ). WasMap new.features cells journal n was) (sym (touched ∙ ap (λ (v : CachedView). v.touched) same))
      (subst (λ (m : FeatureMap). WasMap m map.touched journal n was) (sym (features ∙ ap (λ (v : CachedView). v.features) same)) known))

  pub knows_on : (old between new : ServiceView D) → StillKnows old between → StillKnows between new → StillKnows old new
  knows_on old between new first then n was known = then n was (first n was known)

  -- where it still is known what was, a tile with this number has the layers that it had
  pub same_layers : (old new : ServiceView D) (z x y number : ℕ) → TellsNumber old z x y number → StillKnows old new
      → KeepsLayers z x y number old new
  same_layers old new z x y number told still has =
      known_layers new.features new.touched new.journal.last old.journal.last number old.features z x y
      (still old.journal.last old.features told.knows) has told.most

  module _ (sectors : D → ℕ) (honest : D → Type 0) (history : D → History) where
    -- after any happenings a service still knows what it knew
    pub knows_all : (old : ServiceView D) (happenings : List Happening) (new : ServiceView D) → TakesAll sectors honest history old happenings new
        → StillKnows old new
    knows_all old [] new same = λ n was known. subst (λ (s : ServiceView D). Knows s n was) (sym same) known
    knows_all old (happening ∷ happenings) new goes =
        knows_on old goes.0 new goes.1.knows (knows_all goes.0 happenings new goes.2)

    -- the number of a tile is a tag of it
    pub is_tag : (now : ServiceView D) (z x y number : ℕ) → TellsNumber now z x y number → IsTag sectors honest history z x y number now
    is_tag now z x y number told happenings later goes = same_layers now later z x y number told (knows_all now happenings later goes)
