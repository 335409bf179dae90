use Rattle.std.proofs.Common.{rules}
use Rattle.http_listen.proofs.StepLemmas.{none_of, steps_sent, steps_none, turned_read, stands_read}
use Rattle.http_listen.proofs.peers.Peer.take_turn.Goals as goal

pub returns-then-has_output : goal.returns-then-has_output
returns-then-has_output g c =
    steps_sent g.S.Talks.told c.args.self.now c.send_replies.new.self _ c.send_replies.ensures.moves c.send_replies.ensures.beside c.send_replies.ensures.settles

pub returns-in-Some-unsent : goal.returns-in-Some-unsent
returns-in-Some-unsent g c =
    (steps_none g.S.Talks.told c.args.self.now _, c.has_output.ensures.none c.if-has_output.false, c.in-Some-unsent.is, c.in_default.is)

pub returns-then-self : goal.returns-then-self
returns-then-self g c =
    turned_read g.S.Talks.told c.args.self.now c.search.new.self _ c.search.result
    (stands_read g.S.Talks.told c.args.self.now c.search.new.self c.search.result c.search.ensures.stands) c.search.ensures.searched
    (c.has_output.ensures.none c.if-has_output.false) c.in_default-unsent.is
    (none_of c.args.self.now.state.outcome (search rules)) c.in_default.is

pub returns : goal.returns
returns g c =
    turned_read g.S.Talks.told c.args.self.now c.receive.new.self _ c.receive.result c.receive.ensures.read c.receive.ensures.searched
    (c.has_output.ensures.none c.if-has_output.false) c.in_default-unsent.is (none_of c.args.self.now.state.outcome (search rules)) c.in_default.is

pub returns-then-is_some : goal.returns-then-is_some
returns-then-is_some g c =
    steps_sent g.S.Talks.told c.args.self.now c.send_replies-ending.new.self _ c.send_replies-ending.ensures.moves c.send_replies-ending.ensures.beside
    c.send_replies-ending.ensures.settles
