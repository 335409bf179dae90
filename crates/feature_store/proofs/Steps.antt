-- How far the walks over the zooms of a map are.
use Rattle.std.proofs.Common.{◌≡◌, ◌⊎◌, ℕ, ◌+◌, ◌^◌, ◌<◌, ◌≤◌, Bool, false, Option, Some, None, IfSome, inl, inr, sym, ◌∙◌, arith}
use Rattle.std.specs.Prelude.{◌↔◌, IsTrue, min}
use Rattle.std.proofs.lemmas.Bool.{cases_lt, false≢true}
use Rattle.feature_model.specs.declared.limits.TheConstants.{MAX_ZOOM}
use Rattle.tile_walk.specs.Walk.{WalkView, IsFurther}
use Rattle.tile_walk.specs.declared.step.Step.{Step}
use Rattle.tile_walk.specs.declared.step.Step.TheVariants.{Part, Tile, Over}
use Rattle.tile_walk.specs.declared.step.TheConstants.{STEP_BOXES}
use Rattle.feature_store.specs.Boxes.{AreFirst, read_of}
use Rattle.feature_store.specs.Left.{stage_in}
use Rattle.feature_store.specs.Store.{FeatureMap}
use Rattle.feature_store.specs.declared.feature_boxes.Covers.{Covers}

-- ---- features that are read

-- features are left to read, so more of them are read
pub more_read : (old new total : ℕ) (all : Bool) → new ≡ min (old + STEP_BOXES) total → IsTrue all ↔ (new ≡ total) → all ≡ false → old < new
more_read old new total all is told not = by (cases_lt new total)
  where
    by : (new < total) ⊎ (total ≤ new) → old < new
    by (inl lt) = omega (arith, is, lt)
    by (inr ge) = absurd (false≢true (sym not ∙ told.1 (omega (arith, is, ge))))

pub few_read : (zoom : ℕ) (m : FeatureMap) (first : Option Covers) → IfSome first (AreFirst zoom m) → read_of first < 2 ^ 64
few_read zoom m None is = omega arith
few_read zoom m (Some c) is = is.few

pub read_further : (zoom : ℕ) (walk : Option WalkView) (old new : ℕ) → walk ≡ None → zoom ≤ MAX_ZOOM → new < 2 ^ 64 → old < new
    → stage_in zoom walk new < stage_in zoom walk old
unfolding stage_in
read_further zoom walk old new ended le few more = rw ended (omega (arith, le, few, more))

-- ---- a walk

-- it begins
pub begun_further : (zoom : ℕ) (walk : Option WalkView) (begun : WalkView) (old new : ℕ) → walk ≡ None → zoom ≤ MAX_ZOOM → begun.ahead < 2 ^ 128
    → old < 2 ^ 64 → stage_in (zoom + 1) (Some begun) new < stage_in zoom walk old
unfolding stage_in
begun_further zoom walk begun old new ended le ahead few = rw ended (omega (arith, le, ahead, few))

walk_further : (zoom read : ℕ) (old new : WalkView) (s : Step) → IsFurther old.ahead new.ahead s
    → IsFurther (stage_in zoom (Some old) read) (stage_in zoom (Some new) read) s
unfolding stage_in
walk_further zoom read old new Part is = omega (arith, is)
walk_further zoom read old new (Tile t) is = omega (arith, is)
walk_further zoom read old new Over is = tt

-- it goes on, or is dropped at its end
pub on_further : (zoom read : ℕ) (walk after : Option WalkView) (old new : WalkView) (s : Step) → walk ≡ Some old → IsFurther old.ahead new.ahead s
    → (s ≡ Over) ⊎ (after ≡ Some new) → IsFurther (stage_in zoom walk read) (stage_in zoom after read) s
on_further zoom read walk after old new s is further (inl over) = rw over tt
on_further zoom read walk after old new s is further (inr same) = rw (is, same) (walk_further zoom read old new s further)

-- it is at its end
pub ended_further : (zoom read : ℕ) (old new : Option WalkView) → new ≡ None → stage_in zoom new read ≤ stage_in zoom old read
unfolding stage_in
ended_further zoom read None new ended = rw ended (omega arith)
ended_further zoom read (Some walk) new ended = rw ended (omega arith)
