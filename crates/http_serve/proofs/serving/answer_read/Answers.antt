use Rattle.std.proofs.Common.{length-take, arith}
use Rattle.http_serve.proofs.serving.answer_read.Goals as goal

pub returns-clause-ok : goal.returns-clause-ok
returns-clause-ok g c = c.answer_whole.ensures.ok

pub returns-clause-err : goal.returns-clause-err
returns-clause-err g c = c.answer_whole.ensures.err

pub returns-clause-content : goal.returns-clause-content
returns-clause-content g c = c.answer_whole.ensures.content

pub answer_whole-requires-clause-some : goal.answer_whole-requires-clause-some
answer_whole-requires-clause-some g c =
    let space = c.requires.space in
    let len = c.deref_mut.ensures.len in
    omega (arith, length-take 65536 c.deref_mut.result.now, len, space)

pub answer_whole-requires-clause-few : goal.answer_whole-requires-clause-few
answer_whole-requires-clause-few g c =
    let space = c.requires.space in
    let len = c.deref_mut.ensures.len in
    omega (arith, length-take 65536 c.deref_mut.result.now, len, space)

pub slice_bounds-answer_whole-end : goal.slice_bounds-answer_whole-end
slice_bounds-answer_whole-end g c =
    let space = c.requires.space in
    let len = c.deref_mut.ensures.len in
    omega (arith, length-take 65536 c.deref_mut.result.now, len, space)
