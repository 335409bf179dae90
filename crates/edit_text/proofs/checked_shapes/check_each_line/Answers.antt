use Rattle.std.proofs.Common.{rules}
use Rattle.edit_text.specs.Reading.{line_at}
use Rattle.edit_text.proofs.CheckedLists.{many_on, many_fault, many_whole}
use Rattle.edit_text.proofs.checked_shapes.check_each_line.Goals as goal

pub returns-in_err-rest : goal.returns-in_err-rest
returns-in_err-rest c =
    let stops = many_fault (line_at c.args.least) c.args.count c.loop.counter c.loop.rest.now c.args.bytes.now c.loop.invariant c.in_err-rest.field-0.0
    c.loop-test.true c.in_err-rest.ensures in
    search (rules, stops)

pub loop-preserved : goal.loop-preserved
loop-preserved c =
    many_on (line_at c.args.least) c.args.count c.loop.counter c.loop.rest.now c.args.bytes.now c.loop.invariant c.in_ok-rest.rest.now
    c.loop-test.true c.in_ok-rest.ensures

pub returns : goal.returns
returns c = many_whole (λ _. line_at c.args.least) c.args.count c.loop.counter c.loop.rest.now c.args.bytes.now c.loop-test.false c.loop.invariant
