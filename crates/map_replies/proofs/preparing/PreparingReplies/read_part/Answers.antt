use Rattle.std.proofs.Common.{refl, ap}
use Rattle.map_replies.proofs.ReadyLemmas.{with_service}
use Rattle.map_replies.proofs.TicketLemmas.{held_reading}
use Rattle.map_replies.proofs.preparing.PreparingReplies.read_part.Goals as goal

pub returns : goal.returns
returns g c =
    let d = g.D.Sectors in
    let old = c.args.self.now in
    let call = c.prepare_published.ensures in
    record {
      same = ap (with_service d.sectors d.honest d.history d.faults old) call.same;
      whole = refl;
      disk = call.disk;
      never_falls = call.never_falls;
      untouched = λ broken. ap (with_service d.sectors d.honest d.history d.faults old) (call.untouched broken).1;
      held = λ place first held. held_reading d.sectors d.honest d.history place first old.replies.calls.oldest old.replies.calls.service _ held
          call.disk (ap (λ s. s.size) call.same) (ap (λ s. s.generation) call.same);
      up = call.up;
    }
