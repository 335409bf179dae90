use Rattle.std.proofs.Common.{option_map}
use Rattle.std.proofs.lemmas.Result.{err_from_is_err_and}
use Rattle.pm_archive.proofs.KeepsLaws.{keeps_on}
use Rattle.pm_archive.proofs.LookedSteps.{looked_on, looked_fault}
use Rattle.pm_archive.proofs.looking.content_below.Goals as goal

pub returns-clause-first : goal.returns-clause-first
returns-clause-first g c bytes holds cached =
    looked_on bytes c.args.header.now c.args.id c.args.root.now c.leading.result c.leading.ensures (option_map (λ v. v.items)) c.content_in.result
    c.in_ok-entry.entry (c.in_ok-entry.ensures.first bytes (c.content_in.ensures.source.no_others bytes holds) cached)
    (c.content_in.ensures.first bytes holds)

pub returns-in_err-entry-clause-first : goal.returns-in_err-entry-clause-first
returns-in_err-entry-clause-first g c =
    let p = err_from_is_err_and c.from_residual.result c.from_residual.ensures.1 in
    rw (p.1, p.2) (λ bytes holds cached. looked_fault bytes c.args.header.now c.args.id c.args.root.now c.leading.result c.leading.ensures
    c.in_err-entry.field-0.0 (c.in_err-entry.ensures.first bytes holds cached))

pub returns-clause-read : goal.returns-clause-read
returns-clause-read g c e = g.met.B.Bytes.failed_on _ _ _ c.in_ok-entry.ensures.source.same_behind (c.content_in.ensures.read e)

pub returns-clause-source : goal.returns-clause-source
returns-clause-source g c = keeps_on g.met.B.Bytes.unchanged_on c.in_ok-entry.ensures.source c.content_in.ensures.source

pub returns-in_err-entry-clause-source : goal.returns-in_err-entry-clause-source
returns-in_err-entry-clause-source g c = c.in_err-entry.ensures.source

pub returns-in_err-entry-clause-still : goal.returns-in_err-entry-clause-still
returns-in_err-entry-clause-still g c = c.in_err-entry.ensures.still

pub returns-in_err-entry-clause-room : goal.returns-in_err-entry-clause-room
returns-in_err-entry-clause-room g c = c.in_err-entry.ensures.room

pub returns-in_err-entry-clause-still_inside : goal.returns-in_err-entry-clause-still_inside
returns-in_err-entry-clause-still_inside g c = c.in_err-entry.ensures.still_inside

pub returns-clause-room : goal.returns-clause-room
returns-clause-room g c = c.in_ok-entry.ensures.room

pub returns-clause-still_inside : goal.returns-clause-still_inside
returns-clause-still_inside g c = c.in_ok-entry.ensures.still_inside
