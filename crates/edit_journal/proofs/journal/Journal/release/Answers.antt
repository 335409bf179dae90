use Rattle.std.proofs.Common.{refl, arith}
use Rattle.edit_journal.specs.Appends.{ring_of}
use Rattle.edit_journal.proofs.Kept.{back_released, older_released}
use Rattle.edit_journal.proofs.Releases.{keeps_behind}
use Rattle.edit_journal.proofs.journal.Journal.release.Goals as goal

pub returns-clause-kept : goal.returns-clause-kept
returns-clause-kept c rs count history is le number first_is =
    let same = c.places_before-behind.ensures c.requires.0 c.requires.1 in
    keeps_behind (ring_of c.args.self.now) c.args.self.now.place c.args.self.now.edits c.args.self.now.used c.args.self.now.last rs history is
    (omega arith) (omega arith) c.requires.0 _ c.args.start.place c.args.start.edits count (omega (arith, same, c.requires.1.in_use))
    c.requires.1.before c.requires.1.place le number first_is

pub returns-clause-back : goal.returns-clause-back
returns-clause-back c kept back =
    back_released kept c.args.self.now _ c.requires.0 back refl refl c.requires.1.numbers.0 (omega (arith, c.places_before-behind.ensures c.requires.0 c.requires.1, c.requires.1.in_use))
    c.requires.1.place

pub returns-clause-older : goal.returns-clause-older
returns-clause-older c kept records count history has le edits place below =
    older_released kept c.args.self.now _ records count c.requires.0 history has refl refl edits
    (omega (arith, c.places_before-behind.ensures c.requires.0 c.requires.1, c.requires.1.in_use)) c.requires.1.before c.requires.1.place le place below
