use Rattle.std.proofs.Common.{ap, arith, refl}
use Rattle.edit_journal.specs.Records.{parts_of}
use Rattle.disk_copy.proofs.Walking.{one_length}
use Rattle.disk_copy.proofs.records.parts_in.Goals as goal

pub returns-in_default : goal.returns-in_default
returns-in_default c =
    let head = c.in-Some-head_in.head in
    let says = c.in-Some-head_in.ensures in (
      refl,
      record {
        version = c.in-Some.version;
        head = record { first = c.in-Some.ensures.0; allowed = c.in-Some.ensures.1; head = c.in-Some.ensures.2 };
        none = λ bytes fits front.
            let same = one_length c.in-Some.version c.in-Some.version c.args.number head.length bytes c.args.sector.now says.2 front
            (omega (arith, head.length_is)) (omega (arith, fits)) in
            omega (arith, c.if-from-free.false, c.from.ensures, head.parts_is, ap parts_of same);
      },
    )
