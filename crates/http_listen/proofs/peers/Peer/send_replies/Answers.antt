use Rattle.std.proofs.Common.{Err, ap, inl, inr}
use Rattle.http_listen.specs.declared.ends.EndFault.{EndFault}
use Rattle.http_listen.proofs.peers.Peer.send_replies.Goals as goal

pub returns-in-Err-clause-why : goal.returns-in-Err-clause-why
returns-in-Err-clause-why g c =
    inr (ap (λ (f : EndFault). Err f) c.in-Err.ensures.fault, inl (inl (c.has_output.ensures.some c.if-has_output.true)))
