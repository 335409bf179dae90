use Rattle.std.proofs.Common.{refl, arith}
use Rattle.edit_journal.proofs.Kept.{has_drop}
use Rattle.edit_journal.proofs.journal.Journal.without_first.Goals as goal

pub returns-clause-has : goal.returns-clause-has
returns-clause-has c records count history has le edits offset =
    has_drop records count c.args.offset c.args.self.now _ history has refl c.place_of.ensures.is edits (omega (arith, c.requires.offset)) refl le offset
