use Rattle.std.proofs.Common.{◌≡◌, ◌≢◌, ◌+◌, ◌∷◌, refl, arith, drop, Option, None, Some, Result, Ok, Err, subst, sym}
use Rattle.std.specs.Prelude.{MatchOption, MatchResult}
use Rattle.sector_disk.specs.Disk.{Image, seen}
use Rattle.edit_journal.specs.Records.{record_data}
use Rattle.edit_journal.specs.Ring.{Ring, RecordStart}
use Rattle.edit_journal.specs.Appends.{ring_of, start_of}
use Rattle.edit_journal.specs.declared.records.Record.{Record}
use Rattle.edit_journal.specs.declared.fault.JournalFault.{JournalFault}
use Rattle.edit_journal.specs.declared.fault.JournalFault.TheVariants.{Damaged}
use Rattle.edit_journal.proofs.ReadAgain.{same_there, no_end_there, no_damage_there}
use Rattle.edit_journal.proofs.listing.read_next.Goals as goal

-- what holds of each result holds of the one that there is
by_found : (found : Option Record) (result : Result Record JournalFault) (P : Result Record JournalFault → Type 0)
    → MatchOption found (result ≡ Err Damaged) (λ r. result ≡ Ok r) → (found ≡ None → P (Err Damaged)) → ((r : Record) → found ≡ Some r → P (Ok r))
    → P result
by_found None result P is none some = subst P (sym is) (none refl)
by_found (Some r) result P is none some = subst P (sym is) (some r refl)

pub returns-in-Err-clause-next : goal.returns-in-Err-clause-next
returns-in-Err-clause-next g c records count honest holds allowed used last lt is =
    let journal = c.args.journal.now in
    let image : Image = seen (g.D.Sectors.history c.args.disk.now) in
    no_damage_there (ring_of journal) image (start_of journal.place journal.edits) records holds count lt journal.used (journal.last + 1) used
    (omega (arith, last)) c.args.most allowed (c.in-Err.ensures.damaged honest is)

pub returns-in-Ok-clause-next : goal.returns-in-Ok-clause-next
returns-in-Ok-clause-next g c records count honest holds allowed used last lt =
    let journal = c.args.journal.now in
    let ring : Ring = ring_of journal in
    let start : RecordStart = start_of journal.place journal.edits in
    let image : Image = seen (g.D.Sectors.history c.args.disk.now) in
    by_found c.in-Ok.found c.needed.result
    (λ q. MatchResult q (λ r. drop count records ≡ record_data r ∷ drop (count + 1) records) (λ fault. fault ≢ Damaged)) c.needed.ensures
    (λ none is. no_end_there ring image start records holds count lt journal.used (journal.last + 1) used (omega (arith, last)) c.args.most allowed
    (rw none at c.in-Ok.ensures.next honest))
    (λ r some. let fits = rw some at c.in-Ok.ensures.fits in
    same_there ring image start records holds count lt journal.used (journal.last + 1) used (omega (arith, last)) (record_data r) fits.0
    (rw some at c.in-Ok.ensures.next honest))
