use Rattle.std.proofs.Common.{arith, refl, ◌+◌, ◌-◌}
use Rattle.edit_journal.proofs.Places.{low_place, high_place}
use Rattle.edit_journal.proofs.journal.Journal.place_of.Goals as goal

pub returns-then-offset-to_end-clause-is : goal.returns-then-offset-to_end-clause-is
returns-then-offset-to_end-clause-is c =
    low_place c.args.self.now.places (c.args.self.now.place + c.args.offset) (c.args.self.now.place + c.args.offset) (omega arith) refl

pub returns-else-offset-to_end-clause-is : goal.returns-else-offset-to_end-clause-is
returns-else-offset-to_end-clause-is c =
    high_place c.args.self.now.places (c.args.self.now.place + c.args.offset) (c.args.offset - (c.args.self.now.places - c.args.self.now.place))
    (omega arith) (omega arith) (omega arith)
