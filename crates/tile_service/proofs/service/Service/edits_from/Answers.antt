use Rattle.std.proofs.Common.{◌<◌, ◌≤◌, ◌+◌, ℕ, List, ◌++◌, length, refl, sym, subst}
use Rattle.std.specs.Prelude.{IfOk}
use Rattle.edit_journal.specs.Records.{RecordData}
use Rattle.tile_service.specs.Listing.{AreListed, listed_records}
use Rattle.tile_service.proofs.Archive.Read.{up_unwritten}
use Rattle.tile_service.proofs.Edits.ListedEdits.{shown_listed, listed_since, takes_list}
use Rattle.tile_service.proofs.Publications.Steps.{service_on_disk}
use Rattle.tile_service.proofs.service.Service.edits_from.Goals as goal

pub returns-clause-takes : goal.returns-clause-takes
returns-clause-takes g c = rw (← c.self.view_is)
    (takes_list g.D.Sectors.sectors g.D.Sectors.honest g.D.Sectors.history _ _ refl c.records_from.ensures.disk
    (λ stored up honest. up_unwritten (g.D.Sectors.sectors c.self.inside.disk) (g.D.Sectors.history c.self.inside.disk) stored _ up
    c.records_from.new.disk _ _ c.records_from.ensures.disk.same_count (c.records_from.ensures.disk.same_history honest))
    c.args.number c.args.bytes c.records_from.result (subst (λ s. s.kept_journal.edits < c.args.number) (sym c.self.view_is) c.requires.number.0)
    (λ edits shows honest. shown_listed (g.D.Sectors.history c.self.inside.disk) _ edits c.args.number c.args.bytes
    c.records_from.result shows (λ records has allowed. c.records_from.ensures.found records honest has allowed)))

pub returns-clause-read : goal.returns-clause-read
returns-clause-read g c = rw (← c.self.view_is) (λ stored up honest after.
    subst (λ (records : List RecordData). AreListed records (listed_records c.records_from.result))
    (listed_since (g.D.Sectors.sectors c.self.inside.disk) (g.D.Sectors.history c.self.inside.disk) stored _ up c.args.number c.args.bytes after)
    (shown_listed (g.D.Sectors.history c.self.inside.disk) _ (up.older ++ stored.since) c.args.number c.args.bytes
    c.records_from.result up.shows
    (λ records has allowed. c.records_from.ensures.found records honest has allowed)))

pub returns-clause-up : goal.returns-clause-up
returns-clause-up g c = rw (← c.self.view_is) (λ stored up honest.
    up_unwritten (g.D.Sectors.sectors c.self.inside.disk) (g.D.Sectors.history c.self.inside.disk) stored _ up
    c.records_from.new.disk _ _ c.records_from.ensures.disk.same_count (c.records_from.ensures.disk.same_history honest))

pub invariant_of-self : goal.invariant_of-self
invariant_of-self g c = service_on_disk c.records_from.ensures.disk.same_count c.self.invariant

pub returns-clause-same : goal.returns-clause-same
returns-clause-same g c = rw (← c.self.view_is) refl

pub returns-clause-disk : goal.returns-clause-disk
returns-clause-disk g c = rw (← c.self.view_is) c.records_from.ensures.disk

pub returns-clause-failed : goal.returns-clause-failed
returns-clause-failed g c = rw (← c.self.view_is) c.records_from.ensures.failed

pub returns-clause-counted : goal.returns-clause-counted
returns-clause-counted g c = rw (← c.self.view_is) (subst (λ (last : ℕ). IfOk c.records_from.result (λ found. c.args.number + length found.items ≤ last + 1))
    c.self.invariant.back.last c.records_from.ensures.counted)

pub returns-clause-shows : goal.returns-clause-shows
returns-clause-shows g c = rw (← c.self.view_is) (λ stored up. (up.older, up.shows))
