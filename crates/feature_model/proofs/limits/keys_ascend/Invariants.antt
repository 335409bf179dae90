use Rattle.std.proofs.Common.{◌≡◌, ℕ, ◌+◌, ◌<◌, get_or}
use Rattle.std.specs.declared.cmp.Ordering.TheVariants.{Less}
use Rattle.feature_model.specs.declared.feature.Tag.{Tag}
use Rattle.feature_model.proofs.Ascending.{key_cmp}
use Rattle.feature_model.proofs.limits.keys_ascend.Given as goal

-- each key before the index comes before the next
abbrev pub invariant-loop-i : goal.invariant-loop-i
invariant-loop-i l = (k : ℕ) (d : Tag) → k + 1 < l.i → key_cmp (get_or l.tags k d) (get_or l.tags (k + 1) d) ≡ Less
