use Rattle.std.proofs.Common.{ℕ}
use Rattle.feature_model.specs.declared.feature.WorldBox.{WorldBox}
use Rattle.feature_store.specs.InBox.{IsInBox, in_box}
use Rattle.map_replies.proofs.BoxLemmas.{AreListed}
use Rattle.map_replies.proofs.boxes.add_found.Given as goal

-- of whatever box the features were found
abbrev pub invariant-loop-number : goal.invariant-loop-number
invariant-loop-number g l = (bounds : WorldBox) (id : ℕ) (is : IsInBox l.service.features bounds id l.found)
    → AreListed (in_box bounds is.features) l.number-index l.fn.text.items l.text.items l.left l.more
