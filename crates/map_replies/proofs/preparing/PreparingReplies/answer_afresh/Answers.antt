use Rattle.std.proofs.Common.{inl, sym, ap, ◌∙◌}
use Rattle.http_serve.proofs.PartLemmas.{in_parts}
use Rattle.tile_routes.specs.Methods.{method_on}
use Rattle.map_replies.specs.Conditions.{ask_of}
use Rattle.map_replies.specs.Meanings.{asked_for}
use Rattle.map_replies.specs.State.{access_of, tags_of}
use Rattle.map_replies.proofs.ReadyLemmas.{calls_asks, made_ready, sends_nothing}
use Rattle.map_replies.proofs.preparing.PreparingReplies.answer_afresh.Goals as goal

pub answer_at-requires : goal.answer_at-requires
answer_at-requires g c =
    record { asked = c.requires.asked ∙ ap (λ s. asked_for s.access c.args.request.now) (sym c.give_up.ensures.settings) }

pub returns-clause-replied : goal.returns-clause-replied
returns-clause-replied g c =
    let d = g.D.Sectors in
    let old = c.args.self.now in
    let middle = c.give_up.new.self in
    let asked = asked_for (access_of old.replies) c.args.request.now in
    let told = c.answer_at.ensures.replied in
    let ready = record middle.replies { calls = record middle.replies.calls { service = c.publish_drop.new.self } } in
    let made = made_ready d.sectors d.honest d.history d.faults old middle c.args.request.now ready c.give_up.ensures.gives_up
    (ap (λ s. record middle.replies { calls = record middle.replies.calls { service = s } }) c.publish_drop.ensures.same) c.requires.calls in (
      told.0,
      told.1,
      inl (made.0, ready, made.1, told.2),
      in_parts c.answer_at.result.content _ _
          (λ sent. absurd (sends_nothing d.sectors d.honest d.history d.faults _ _ _ _ _ _ _ _
          (ap (λ s. asked_for s.access c.args.request.now) c.give_up.ensures.settings) (calls_asks asked (method_on c.args.request.now.method asked) (ask_of (tags_of old.replies) c.args.request.now) c.requires.calls) sent.0.0)) told.3,
    )
