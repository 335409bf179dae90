-- Equal numbers of a tile are those of equal tiles, also where the disk was read between the calls, and for the tiles inside.
use Rattle.std.proofs.Common.{◌≡◌, ⊎_elim, ℕ, zero, suc, ◌<◌, ◌≤◌, List, length, ap, subst, arith}
use Rattle.std.proofs.lemmas.Bool.{cases_lt}
use Rattle.feature_store.specs.Layers.{layers}
use Rattle.sector_disk.specs.Disk.{History}
use Rattle.tile_service.specs.Machine.{Happening}
use Rattle.tile_service.specs.Service.{ServiceView}
use Rattle.tile_service.specs.Tags.{HasNumber, StillKnows, TellsNumber}
use Rattle.tile_service.proofs.Tiles.Tags.{knows_on, knows_same}
use Rattle.service_laws.specs.Inside.{IsInside}
use Rattle.service_laws.specs.Moments.{WasRead, TakesBetweenReads}
use Rattle.service_laws.proofs.Inside.{known_inside}

module _ {D : Type 0} where
  -- where what was is still known, and the tile has the number that was told of it, the tiles inside of it have the layers that they had
  pub same_inside : (then now : ServiceView D) (z x y number inner_z inner_x inner_y : ℕ) → TellsNumber then z x y number → StillKnows then now
      → HasNumber now z x y number → IsInside z x y inner_z inner_x inner_y
      → layers now.features inner_z inner_x inner_y ≡ layers then.features inner_z inner_x inner_y
  same_inside then now z x y number inner_z inner_x inner_y tells still has inside =
      known_inside now.features now.touched now.journal.last then.journal.last number then.features z x y inner_z inner_x inner_y
      (still then.journal.last then.features tells.knows) has tells.most inside

  module _ (sectors : D → ℕ) (honest : D → Type 0) (history : D → History) where
    -- a read of the disk forgets nothing
    knows_read : (old new : ServiceView D) → WasRead sectors honest history old new → StillKnows old new
    knows_read old new read = knows_same old new (ap (λ (s : ServiceView D). s.features) read.same) (ap (λ (s : ServiceView D). s.touched) read.same)
        (ap (λ (s : ServiceView D). s.journal.last) read.same)

    module _ (old new : ServiceView D) (happenings : List Happening) (run : TakesBetweenReads sectors honest history old happenings new) where
      -- nor do the calls from one on up to another
      knows_from : (i j : ℕ) → i ≤ j → j ≤ length happenings → StillKnows (run.from i) (run.from j)
      knows_from i zero le within = subst (λ (k : ℕ). StillKnows (run.from k) (run.from zero)) (omega (arith, le)) (λ n was known. known)
      knows_from i (suc j) le within = ⊎_elim
          (λ (before : i < suc j).
          knows_on (run.from i) (run.at (suc j)) (run.from (suc j))
          (knows_on (run.from i) (run.from j) (run.at (suc j)) (knows_from i j (omega (arith, before)) (omega (arith, within)))
          (run.takes j (omega (arith, within))).knows)
          (knows_read (run.at (suc j)) (run.from (suc j)) (run.reads (suc j) within)))
          (λ (here : suc j ≤ i). subst (λ (k : ℕ). StillKnows (run.from k) (run.from (suc j))) (omega (arith, le, here)) (λ n was known. known))
          (cases_lt i (suc j))

      -- what was known before the run is known after it
      pub knows_run : StillKnows old new
      knows_run =
          subst (λ (s : ServiceView D). StillKnows s new) run.begins
          (subst (λ (s : ServiceView D). StillKnows (run.at zero) s) run.ends
          (knows_on (run.at zero) (run.from zero) (run.from (length happenings)) (knows_read (run.at zero) (run.from zero) (run.reads zero (omega arith)))
          (knows_from zero (length happenings) (omega arith) (omega arith))))

    -- Before and after the calls a tile has the same number: the tiles inside of it have the same layers.
    pub numbers_inside : (old new : ServiceView D) (happenings : List Happening) → TakesBetweenReads sectors honest history old happenings new
        → (z x y number : ℕ) → TellsNumber old z x y number → HasNumber new z x y number
        → (inner_z inner_x inner_y : ℕ) → IsInside z x y inner_z inner_x inner_y
        → layers new.features inner_z inner_x inner_y ≡ layers old.features inner_z inner_x inner_y
    numbers_inside old new happenings run z x y number tells has inner_z inner_x inner_y =
        same_inside old new z x y number inner_z inner_x inner_y tells (knows_run old new happenings run) has
