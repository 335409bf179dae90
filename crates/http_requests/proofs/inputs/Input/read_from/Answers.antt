use Rattle.std.proofs.Common.{take, refl, arith}
use Rattle.http_requests.proofs.InputLemmas.{consumes_kept}
use Rattle.http_requests.proofs.inputs.Input.read_from.Goals as goal

pub returns-in-Ok-clause-ok : goal.returns-in-Ok-clause-ok
returns-in-Ok-clause-ok g c =
    let bytes = c.in-Ok.ensures.bytes in
    let some = c.requires.some in
    let bound = c.in-Ok.ensures.bound in (
      take c.in-Ok.count c.read.new.buf,
      bytes.0,
      rw c.unwrap.ensures at c.add.ensures.ok,
      bound.1,
      λ zero. bytes.1 zero (omega (arith, c.read.auto.buf, some)),
    )

pub returns-in-Ok-clause-few : goal.returns-in-Ok-clause-few
returns-in-Ok-clause-few g c =
    let bound = c.in-Ok.ensures.bound in
    omega (arith, bound.0, c.read.auto.buf)

pub returns-in-Err-clause-err : goal.returns-in-Err-clause-err
returns-in-Err-clause-err g c = (consumes_kept _ _ c.in-Err.ensures.bytes, refl)

pub unwrap-requires : goal.unwrap-requires
unwrap-requires g c =
    let bound = c.in-Ok.ensures.bound in
    let fits = c.requires.fits in
    c.add.ensures.succeeds (omega (arith, bound.0, bound.1, c.read.auto.buf, fits))
