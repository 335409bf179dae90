use Rattle.std.proofs.lemmas.Result.{err_from_is_err_and}
use Rattle.archive_commands.proofs.PutLaws.{digit_put, digits_put, digits_fault}
use Rattle.archive_commands.proofs.putting.+put_number.Goals as goal

pub returns-then-number-lt10 : goal.returns-then-number-lt10
returns-then-number-lt10 g t c = digit_put (g.W.Write.contents c.args.out.now) (g.W.Write.contents c.write_whole.new.into) c.args.number c.write_whole.result
    c.if-number-lt10.true c.write_whole.ensures

pub returns : goal.returns
returns g t c =
    digits_put (g.W.Write.contents c.args.out.now) (g.W.Write.contents c.put_number.new.out) (g.W.Write.contents c.write_whole-2.new.into) c.args.number
    c.if-number-lt10.false c.ranges.number.fits c.write_whole-2.result c.in_ok-put_number.ensures c.write_whole-2.ensures

pub returns-in_err-put_number : goal.returns-in_err-put_number
returns-in_err-put_number g t c =
    let p = err_from_is_err_and c.from_residual.result c.from_residual.ensures.1 in
    rw (p.1) (digits_fault (g.W.Write.contents c.args.out.now) (g.W.Write.contents c.put_number.new.out) (g.W.Write.contents c.put_number.new.out)
    c.args.number c.if-number-lt10.false c.ranges.number.fits c.in_err-put_number.ensures)
