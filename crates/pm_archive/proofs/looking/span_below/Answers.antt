use Rattle.std.proofs.Common.{ℕ, ◌≤◌, option_map, subst}
use Rattle.std.specs.Prelude.{IfOk, IfSome}
use Rattle.std.proofs.lemmas.Result.{err_from_is_err_and}
use Rattle.pm_archive.proofs.LookedSteps.{looked_on, looked_fault}
use Rattle.pm_archive.specs.Spans.{end_of_span, span_bytes}
use Rattle.pm_archive.proofs.looking.span_below.Goals as goal

pub returns-clause-first : goal.returns-clause-first
returns-clause-first g c bytes holds cached =
    looked_on bytes c.args.header.now c.args.id c.args.root.now c.leading.result c.leading.ensures (option_map (span_bytes bytes)) c.span_in.result
    c.in_ok-entry.entry (c.in_ok-entry.ensures.first bytes holds cached)
    (c.span_in.ensures.first bytes)

pub returns-in_err-entry-clause-first : goal.returns-in_err-entry-clause-first
returns-in_err-entry-clause-first g c =
    let p = err_from_is_err_and c.from_residual.result c.from_residual.ensures.1 in
    rw (p.1, p.2) (λ bytes holds cached. looked_fault bytes c.args.header.now c.args.id c.args.root.now c.leading.result c.leading.ensures
    c.in_err-entry.field-0.0 (c.in_err-entry.ensures.first bytes holds cached))

pub returns-clause-inside : goal.returns-clause-inside
returns-clause-inside g c =
    subst (λ (n : ℕ). IfOk c.span_in.result (λ found. IfSome found (λ span. end_of_span span ≤ n))) c.in_ok-entry.ensures.source.same_count
    c.span_in.ensures.inside

pub returns-clause-source : goal.returns-clause-source
returns-clause-source g c = c.in_ok-entry.ensures.source

pub returns-in_err-entry-clause-source : goal.returns-in_err-entry-clause-source
returns-in_err-entry-clause-source g c = c.in_err-entry.ensures.source

pub returns-in_err-entry-clause-still : goal.returns-in_err-entry-clause-still
returns-in_err-entry-clause-still g c = c.in_err-entry.ensures.still

pub returns-in_err-entry-clause-room : goal.returns-in_err-entry-clause-room
returns-in_err-entry-clause-room g c = c.in_err-entry.ensures.room

pub returns-in_err-entry-clause-still_inside : goal.returns-in_err-entry-clause-still_inside
returns-in_err-entry-clause-still_inside g c = c.in_err-entry.ensures.still_inside

pub returns-clause-room : goal.returns-clause-room
returns-clause-room g c = c.in_ok-entry.ensures.room

pub returns-clause-still_inside : goal.returns-clause-still_inside
returns-clause-still_inside g c = c.in_ok-entry.ensures.still_inside
