use Rattle.std.proofs.lemmas.Grind.{common_steps}
use Rattle.std.proofs.Common.{◌≡◌, ◌+◌, ◌∷◌, ◌++◌, map, drop, ap, ◌∙◌, arith}
use Rattle.geometry_commands.specs.Shapes.{line_spelled, last_of}
use Rattle.geometry_commands.proofs.Written.{views_split, lines_on, can_on, whole_on, lines_done}
use Rattle.geometry_commands.proofs.encode.encode_all.Goals as goal

pub loop-line-preserved : goal.loop-line-preserved
loop-line-preserved c =
    let l = c.line-item.result.items in
    let rest = map (λ p. p.items) (drop c.loop-line.line-index c.args.lines.now) in
    let next = map (λ p. p.items) (drop (c.loop-line.line-index + 1) c.args.lines.now) in
    let e : rest ≡ l ∷ next = views_split c.args.lines.now c.loop-line.line-index c.line-item.result c.loop-line-test.true c.line-item.is in
    let same = c.as_slice.ensures.value in
    let to = c.in_ok-at.ensures.last ∙ ap (last_of c.loop-line.at) same in
    record {
      spelled = lines_on c.args.closed c.loop-line.at c.in_ok-at.at rest next l c.loop-line.out.items c.put_line.new.out.items _ e
          (c.in_ok-at.ensures.line ∙ ap (λ k. c.loop-line.out.items ++ line_spelled c.args.closed c.loop-line.at k) same) to c.loop-line.invariant.spelled;
      can = can_on c.args.closed c.loop-line.at c.in_ok-at.at rest next l e to c.loop-line.invariant.can;
      whole = whole_on c.args.closed rest next l e (rw same at c.in_ok-at.ensures.whole) c.loop-line.invariant.whole;
    }

pub returns-clause-spelled : goal.returns-clause-spelled
returns-clause-spelled c =
    lines_done c.args.closed c.loop-line.at c.args.lines.now c.loop-line.line-index c.loop-line.out.items _ c.loop-line-test.false c.loop-line.invariant.spelled

pub put_line-requires : goal.put_line-requires
put_line-requires c = grind (arith, common_steps)

pub returns-clause-whole : goal.returns-clause-whole
returns-clause-whole c = grind (arith, common_steps)
