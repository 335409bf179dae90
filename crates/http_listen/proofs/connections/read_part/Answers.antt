use Rattle.std.proofs.Common.{◌∙◌}
use Rattle.http_listen.specs.Conversations.{fetched, Beside}
use Rattle.http_listen.proofs.StepLemmas.{fetched_act}
use Rattle.http_listen.proofs.connections.read_part.Goals as goal

pub returns-clause-acts : goal.returns-clause-acts
returns-clause-acts g c =
    let made = c.add_part-outcome.ensures in
    let sent = c.send_part-ending.ensures in
    let beside : Beside c.args.peer.now c.send_part-ending.new.self =
    record { input = sent.beside.input ∙ made.input; number = sent.beside.number; drops = sent.beside.drops; ended = sent.beside.ended } in
    let act = fetched_act g.S.Talks.told g.H.Downloads.reads c.args.handler.now c.add_part-outcome.new.handler c.args.peer.now c.send_part-ending.new.self
    c.args.unsent c.args.peer.now.connection.output c.add_part-outcome.new.connection.output c.add_part-outcome.result c.send_part-ending.result
    c.requires.rest c.requires.sent
    c.requires.sent made.read made.added made.same sent.moves beside sent.settles sent.failed sent.rest in
    (fetched c.args.unsent.ticket c.args.unsent.at act.0 act.1, act.2, act.3, act.4)
