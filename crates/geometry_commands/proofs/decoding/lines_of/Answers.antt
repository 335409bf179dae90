use Rattle.std.proofs.Common.{◌≡◌, ◌<◌, ◌∷◌, [], length, map, arith}
use Rattle.std.proofs.lemmas.List.{map-append}
use Rattle.std.proofs.lemmas.Result.{err_from_is_err_and}
use Rattle.reader.proofs.Steps.{gives_on}
use Rattle.geometry_commands.specs.declared.decoding.GeometryFault.TheVariants.{Memory}
use Rattle.geometry_commands.specs.Decoding.{line_at}
use Rattle.geometry_commands.proofs.Spelled.{line_shorter, lines_on, lines_fault, lines_done}
use Rattle.geometry_commands.proofs.decoding.lines_of.Goals as goal

pub returns-in_err-line-clause-exact : goal.returns-in_err-line-clause-exact
returns-in_err-line-clause-exact c =
    let p = err_from_is_err_and c.from_residual.result c.from_residual.ensures.1 in
    let some : 0 < length c.loop-rest.rest.now = c.loop-rest-test.true in
    rw (p.1, p.2) (gives_on Memory c.in_err-line.field-0.0 (line_at c.args.closed c.loop-rest.at c.loop-rest.rest.now) _
    (lines_fault c.args.closed (map (λ p. p.items) c.loop-rest.lines.items) c.loop-rest.at c.loop-rest.rest.now _ some c.loop-rest.invariant.0)
    c.in_err-line.ensures.exact)

pub loop-rest-smaller : goal.loop-rest-smaller
loop-rest-smaller c = line_shorter c.args.closed c.loop-rest.at c.loop-rest.rest.now (c.in_ok-line.line.items, c.in_ok-line.to, c.in_ok-line.after.now)
    c.in_ok-line.ensures.exact

pub loop-rest-preserved : goal.loop-rest-preserved
loop-rest-preserved c = (
  rw (c.in_ok-push.ensures.items, map-append (λ p. p.items) c.loop-rest.lines.items (c.in_ok-line.line ∷ []))
      (lines_on c.args.closed (map (λ p. p.items) c.loop-rest.lines.items) c.loop-rest.at c.loop-rest.rest.now
      (c.in_ok-line.line.items, c.in_ok-line.to, c.in_ok-line.after.now) _ c.in_ok-line.ensures.exact c.loop-rest.invariant.0),
  omega (arith, c.loop-rest.invariant.1, loop-rest-smaller c),
)

pub returns-clause-exact : goal.returns-clause-exact
returns-clause-exact c =
    let none : length c.loop-rest.rest.now ≡ 0 = omega arith in
    lines_done c.args.closed (map (λ p. p.items) c.loop-rest.lines.items) c.loop-rest.at c.loop-rest.rest.now _ none c.loop-rest.invariant.0
