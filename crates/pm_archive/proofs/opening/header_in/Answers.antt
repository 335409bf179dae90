use Rattle.std.proofs.Common.{ℕ, ◌≤◌, List, length, Err, ap, subst, arith}
use Rattle.pm_header.specs.declared.header.TheConstants.{HEADER_BYTES}
use Rattle.pm_header.specs.declared.fault.HeaderFault.{HeaderFault}
use Rattle.pm_header.specs.Layout.{IsHeader}
use Rattle.pm_archive.proofs.OpenedLaws.{front_read, whole_header, other_front, version_of_front}
use Rattle.pm_archive.proofs.opening.header_in.Goals as goal

pub returns-in-Ok-clause-found : goal.returns-in-Ok-clause-found
returns-in-Ok-clause-found g c = λ bytes holds.
    let front = front_read c.read_at.result c.read_at.new.into bytes c.if-is_err.ensures.negation (c.read_at.ensures.gives bytes holds) in
    let long : HEADER_BYTES ≤ length bytes = omega (arith, g.met.B.Bytes.sized c.args.source.now bytes (c.read_at.ensures.held bytes holds)) in
    whole_header bytes c.in-Ok.header long (subst (λ (bs : List ℕ). IsHeader bs c.in-Ok.header) front c.in-Ok.ensures.found)

pub returns-in-Err-Version-clause-fault : goal.returns-in-Err-Version-clause-fault
returns-in-Err-Version-clause-fault g c = λ bytes holds _.
    let front = front_read c.read_at.result c.read_at.new.into bytes c.if-is_err.ensures.negation (c.read_at.ensures.gives bytes holds) in
    let long : HEADER_BYTES ≤ length bytes = omega (arith, g.met.B.Bytes.sized c.args.source.now bytes (c.read_at.ensures.held bytes holds)) in
    let v = (c.in-Err-Version.ensures.version c.in-Err-Version.version).0 (ap (λ (d : HeaderFault). Err d) c.in-Err-Version.field-0-is) in
    version_of_front bytes c.read_at.new.into c.in-Err-Version.version long front v.1 v.2 v.3

pub returns-in-Err-Magic-clause-fault : goal.returns-in-Err-Magic-clause-fault
returns-in-Err-Magic-clause-fault g c = λ bytes holds _.
    let front = front_read c.read_at.result c.read_at.new.into bytes c.if-is_err.ensures.negation (c.read_at.ensures.gives bytes holds) in
    let long : HEADER_BYTES ≤ length bytes = omega (arith, g.met.B.Bytes.sized c.args.source.now bytes (c.read_at.ensures.held bytes holds)) in
    other_front bytes c.read_at.new.into long front (c.in-Err-Magic.ensures.magic.0 (ap (λ (d : HeaderFault). Err d) c.in-Err-Magic.field-0-is)).1
