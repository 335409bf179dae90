use Rattle.std.proofs.Common.{◌≡◌, ◌≤◌, ℕ, List, [], drop, length, take, ap, sym, subst}
use Rattle.http_serve.specs.Connections.{ConnectionView}
use Rattle.http_listen.specs.Talks.{Grows, Moves}
use Rattle.http_listen.proofs.TalkLemmas.{moves_front}
use Rattle.http_listen.proofs.peers.Peer.send_piece.Goals as goal

pub returns-in-Ok-clause-moves : goal.returns-in-Ok-clause-moves
returns-in-Ok-clause-moves g c =
    let before = g.S.Talks.told c.args.self.now.stream in
    let after = g.S.Talks.told c.send_again.new.stream in
    let output = c.args.self.now.connection.output in
    let count = c.in-Ok.count in
    let next = c.pieces.ensures in
    let given = c.first_bytes.ensures.first in
    let left : drop count output ≡ c.took.new.self.output = sym (ap (λ (v : ConnectionView). v.output) c.took.ensures) in
    subst (λ (l : List ℕ). Moves before output [] [] after l) left
    (moves_front before after _ next.behind output c.args.most count next.is (subst (λ (l : List ℕ). count ≤ length l) given c.in-Ok.ensures.bound)
    (subst (λ (l : List ℕ). Grows before [] (take count l) after) given c.in-Ok.ensures.told))
