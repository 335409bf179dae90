use Rattle.std.proofs.Common.{[], refl, sym, ap, subst, take}
use Rattle.std.specs.Prelude.{is_some}
use Rattle.http_listen.specs.Talks.{Grows}
use Rattle.http_listen.proofs.StepLemmas.{steps_dropped}
use Rattle.http_listen.proofs.peers.Peer.drop_piece.Goals as goal

pub returns-then-left-count : goal.returns-then-left-count
returns-then-left-count g c =
    steps_dropped g.S.Talks.told c.args.self.now _ (take c.in-Ok.count c.receive.new.buf) c.in-Ok.ensures.told refl refl refl (sym c.requires) refl

pub returns-else-left-count : goal.returns-else-left-count
returns-else-left-count g c =
    steps_dropped g.S.Talks.told c.args.self.now _ (take c.in-Ok.count c.receive.new.buf) c.in-Ok.ensures.told refl refl refl (sym c.requires) refl

pub returns-in-Err : goal.returns-in-Err
returns-in-Err g c =
    let same = c.may_read_again.ensures in
    let told = g.S.Talks.told in
    steps_dropped told c.args.self.now c.may_read_again.new.self []
    (subst (λ s. Grows (told c.args.self.now.stream) [] [] (told s)) (sym same.stream) c.in-Err.ensures.told) same.input same.output same.number
    (ap is_some same.drops) same.ended
