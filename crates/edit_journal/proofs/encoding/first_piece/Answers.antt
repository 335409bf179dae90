use Rattle.std.proofs.Common.{ap, ◌∙◌, take, ℕ}
use Rattle.std.proofs.lemmas.List.{take_min}
use Rattle.edit_journal.proofs.encoding.first_piece.Goals as goal

pub returns : goal.returns
returns c = ap (λ (n : ℕ). take n c.args.rest.now) c.min.ensures ∙ take_min 496 c.args.rest.now
