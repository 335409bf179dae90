use Rattle.std.proofs.Common.{ℕ, List, [], append-nil, take, refl, subst}
use Rattle.http_listen.specs.Talks.{Grows}
use Rattle.http_listen.proofs.HeldLemmas.{ends_none, ends_failed, ends_sent}
use Rattle.http_listen.proofs.peers.Peer.refuse_memory.Goals as goal

pub returns-then-sends-clause-ends : goal.returns-then-sends-clause-ends
returns-then-sends-clause-ends g c = ends_none g.S.Talks.told c.args.self.now

pub returns-in-Ok-clause-ends : goal.returns-in-Ok-clause-ends
returns-in-Ok-clause-ends g c =
    let before = g.S.Talks.told c.args.self.now.stream in
    let after = g.S.Talks.told c.send_again.new.stream in
    let reply = c.memory_reply-reply.result.now in
    ends_sent g.S.Talks.told c.args.self.now _ c.in-Ok.count reply c.memory_reply-reply.ensures.same
    (subst (λ (l : List ℕ). Grows before [] (take c.in-Ok.count l) after) (append-nil reply) c.in-Ok.ensures.told)
    (c.sends.ensures.sent c.if-sends.false) refl (c.sends.ensures.whole c.if-sends.false)

pub returns-in-Err-clause-ends : goal.returns-in-Err-clause-ends
returns-in-Err-clause-ends g c = ends_failed g.S.Talks.told c.args.self.now _ c.in-Err.ensures.told refl
