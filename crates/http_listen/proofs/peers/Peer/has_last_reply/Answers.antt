use Rattle.std.proofs.Common.{refl}
use Rattle.http_listen.proofs.HeldLemmas.{ends_none}
use Rattle.http_listen.proofs.peers.Peer.has_last_reply.Goals as goal

pub returns-in-Ok-clause-ends : goal.returns-in-Ok-clause-ends
returns-in-Ok-clause-ends g c = ends_none g.S.Talks.told c.args.self.now

pub returns-in-Err : goal.returns-in-Err
returns-in-Err g c = record { state = refl; ends = ends_none g.S.Talks.told c.args.self.now }
