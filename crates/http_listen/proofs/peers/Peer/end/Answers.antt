use Rattle.std.proofs.Common.{rules, ◌≡◌, None, refl, sym, ap, ◌∙◌, true≢false}
use Rattle.std.specs.Prelude.{is_some}
use Rattle.http_serve.specs.Connections.{ConnectionView}
use Rattle.http_listen.proofs.HeldLemmas.{ends_cleared, end_closed, end_held}
use Rattle.http_listen.proofs.StepLemmas.{none_of}
use Rattle.http_listen.proofs.peers.Peer.end.Goals as goal

pub returns-then-is_some-clause-held : goal.returns-then-is_some-clause-held
returns-then-is_some-clause-held g c = record { talk = λ first acts h. h.talk; held = λ e. absurd (true≢false (sym e)) }

pub returns-then-not-has_last_reply-clause-held : goal.returns-then-not-has_last_reply-clause-held
returns-then-not-has_last_reply-clause-held g c =
    let told = g.S.Talks.told in
    let old = c.args.self.now in
    let opened : old.state.drops ≡ None = none_of old.state.drops (search rules) in
    record {
      talk = λ first acts h. end_closed told first acts old c.has_last_reply.new.self h opened c.has_last_reply.ensures.ends;
      held = λ e. absurd (true≢false (sym e));
    }

pub returns-clause-held : goal.returns-clause-held
returns-clause-held g c =
    let told = g.S.Talks.told in
    let old = c.args.self.now in
    let opened : old.state.drops ≡ None = none_of old.state.drops (search rules) in
    let ends = ends_cleared told old c.has_last_reply.new.self _ c.has_last_reply.ensures.ends refl
    (ap (λ (v : ConnectionView). v.output) c.clear_input.ensures ∙ ap (λ (v : ConnectionView). v.output) c.clear_output.ensures) in
    record {
      talk = λ first acts h. end_closed told first acts old _ h opened ends;
      held = λ w first acts h. end_held told first acts old _ h opened ends (λ e. true≢false (ap is_some e));
    }
