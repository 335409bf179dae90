use Rattle.std.proofs.Common.{arith}
use Rattle.pm_build.proofs.Storing.{more_stored}
use Rattle.pm_build.proofs.contents.push.Goals as goal

pub returns-in-Ok-clause-stored : goal.returns-in-Ok-clause-stored
returns-in-Ok-clause-stored c =
    let bytes = c.args.bytes.now in
    more_stored c.args.index.now.contents c.push.new.self.contents c.len-from.result bytes.items c.extend_from_slice.new.self.items c.args.content.now
    c.requires.stored (omega (arith, c.len-from.ensures, bytes.ok)) c.in_ok-extend_from_slice.ensures.items c.in-Ok.ensures.contents
