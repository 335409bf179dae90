use Rattle.std.proofs.Common.{inl, inr, refl, sym, subst}
use Rattle.map_replies.specs.Preparing.{IsReady}
use Rattle.map_replies.proofs.ReadyLemmas.{begins_from, prepares_by, unchanged_by}
use Rattle.map_replies.proofs.preparing.PreparingReplies.prepare_or_begin.Goals as goal

pub begin_whole-requires : goal.begin_whole-requires
begin_whole-requires g c =
    let d = g.D.Sectors in
    let same = unchanged_by d.sectors d.honest d.history d.faults c.args.self.now.replies.calls.service c.publish_prepare.new.self c.requires.ready
    c.in-Ok-false.ensures.same c.in-Ok-false.ensures.goes_on in
    record { ready = subst (λ s. IsReady s) (sym same) c.requires.ready }

pub returns-in-Ok-false : goal.returns-in-Ok-false
returns-in-Ok-false g c =
    let d = g.D.Sectors in
    let old = c.args.self.now in
    let same = unchanged_by d.sectors d.honest d.history d.faults old.replies.calls.service c.publish_prepare.new.self c.requires.ready
    c.in-Ok-false.ensures.same c.in-Ok-false.ensures.goes_on in
    inr (inl (
      c.begin_whole.ensures.0,
      begins_from d.sectors d.honest d.history d.faults old c.begin_whole.new.self c.publish_prepare.new.self c.begin_whole.ensures.0 same
          c.begin_whole.ensures.1,
    ))

pub returns-in-Ok-true : goal.returns-in-Ok-true
returns-in-Ok-true g c =
    let d = g.D.Sectors in
    let call = c.publish_prepare.ensures in
    prepares_by d.sectors d.honest d.history d.faults c.args.self.now _ c.publish_prepare.result c.requires.unbegun refl refl call.same call.begins
    call.can call.goes_on call.refused call.up

pub returns-in-Err : goal.returns-in-Err
returns-in-Err g c =
    let d = g.D.Sectors in
    let call = c.publish_prepare.ensures in
    prepares_by d.sectors d.honest d.history d.faults c.args.self.now _ c.publish_prepare.result c.requires.unbegun refl refl call.same call.begins
    call.can call.goes_on call.refused call.up
