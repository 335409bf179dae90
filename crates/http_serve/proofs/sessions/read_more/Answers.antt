use Rattle.std.proofs.Common.{◌-◌, length-take, arith}
use Rattle.http_serve.proofs.sessions.read_more.Goals as goal

pub read_from-requires-clause-some : goal.read_from-requires-clause-some
read_from-requires-clause-some g c =
    let len = c.deref_mut.ensures.len in
    let waits = c.input_len-space.ensures in
    omega (arith, length-take (147456 - c.input_len-space.result) c.deref_mut.result.now, len, waits, c.requires.few, c.requires.space)

pub read_from-requires-clause-fits : goal.read_from-requires-clause-fits
read_from-requires-clause-fits g c =
    let len = c.deref_mut.ensures.len in
    let waits = c.input_len-space.ensures in
    omega (arith, length-take (147456 - c.input_len-space.result) c.deref_mut.result.now, len, waits, c.requires.few, c.requires.space)

pub returns-clause-ok : goal.returns-clause-ok
returns-clause-ok g c = c.read_from.ensures.ok

pub returns-clause-err : goal.returns-clause-err
returns-clause-err g c = c.read_from.ensures.err
