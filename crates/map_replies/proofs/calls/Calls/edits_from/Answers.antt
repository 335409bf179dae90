use Rattle.std.proofs.Common.{ℕ, subst, arith}
use Rattle.sector_disk.specs.Disk.{HasFailed}
use Rattle.tile_service.specs.Listing.{listed_records}
use Rattle.map_replies.specs.Meanings.{ListedAs}
use Rattle.map_replies.specs.Sending.{IsAnswered}
use Rattle.map_replies.proofs.ListedReplies.{list_answered}
use Rattle.map_replies.proofs.calls.Calls.edits_from.Goals as goal

pub returns-clause-answered : goal.returns-clause-answered
returns-clause-answered g c =
    let d = g.D.Sectors in
    let old = c.args.self.now.service in
    let new = c.edits_from-found.new.self in
    let before : ℕ = d.faults old.disk in
    let after : ℕ = d.faults new.disk in
    let outcome = listed_records c.edits_from-found.result in
    list_answered d.sectors d.honest d.history (HasFailed before after) old new c.args.number outcome
    (omega (arith, c.if-number-forgotten.false, c.forgotten.ensures)) (omega (arith, c.if-number-last.false, c.last-last.ensures))
    c.edits_from-found.ensures.takes c.listed.result
    (subst (λ (digest : ℕ). IsAnswered (ListedAs (HasFailed before after) old.journal.last digest c.args.number outcome) c.listed.result)
    c.digest-digest.ensures
    (subst (λ (last : ℕ). IsAnswered (ListedAs (HasFailed before after) last c.digest-digest.result c.args.number outcome) c.listed.result) c.last-last.ensures
    (c.listed.ensures.answered before after c.edits_from-found.ensures.failed)))
