use Rattle.std.proofs.Common.{length, length-drop, ap, arith}
use Rattle.std.specs.Rc.{rc_slice_items}
use Rattle.http_serve.proofs.SpellLemmas.{digits_length}
use Rattle.http_serve.proofs.spellings.Spelling.digits.Goals as goal

pub returns-clause-digits : goal.returns-clause-digits
returns-clause-digits c =
    let inside = c.self.inside in
    omega (
      arith,
      digits_length c.args.self.now,
      ap length c.self.view_is,
      length-drop inside.spelled (rc_slice_items inside.bytes),
      c.len.ensures,
      c.self.invariant.0,
    )
