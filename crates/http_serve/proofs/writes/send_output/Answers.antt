use Rattle.std.proofs.Common.{◌++◌, ◌∙◌, [], ℕ, List, take, ap, refl, subst, arith}
use Rattle.std.proofs.lemmas.List.{append-nil}
use Rattle.std.specs.Io.KnownBytes.{Appends}
use Rattle.http_serve.specs.Connections.{ConnectionView}
use Rattle.http_serve.proofs.KnownLemmas.{Appends-then, Appends-kept, Appends_none}
use Rattle.http_serve.proofs.PieceLemmas.{taken_on, taken_less, cut_before, all_sent}
use Rattle.http_serve.proofs.writes.send_output.Goals as goal

pub pieces-init : goal.pieces-init
pieces-init g c = record { written = ([], Appends_none (g.W.Write.contents c.args.writer.now), refl); input = refl; reserved = refl }

pub pieces-preserved : goal.pieces-preserved
pieces-preserved g c =
    let so = c.pieces.invariant.written in
    let piece = c.piece.result.now in
    let next = c.piece.ensures in
    record {
      written = (
        so.0 ++ take c.in-Ok.count piece,
        Appends-then _ _ _ so.0 (take c.in-Ok.count piece) so.1 c.in-Ok.ensures.bytes,
        taken_on c.args.connection.now.output so.0 c.pieces.connection.output piece next.behind c.took.new.self.output
            c.in-Ok.count so.2 next.is c.in-Ok.ensures.bound (ap (λ (v : ConnectionView). v.output) c.took.ensures),
      );
      input = ap (λ (v : ConnectionView). v.input) c.took.ensures ∙ c.pieces.invariant.input;
      reserved = ap (λ (v : ConnectionView). v.reserved) c.took.ensures ∙ c.pieces.invariant.reserved;
    }

pub pieces-smaller : goal.pieces-smaller
pieces-smaller g c =
    let next = c.piece.ensures in
    taken_less c.pieces.connection.output c.piece.result.now next.behind c.took.new.self.output c.in-Ok.count next.is c.in-Ok.ensures.bound
    (omega (arith, c.if-count-eq0.false)) (ap (λ (v : ConnectionView). v.output) c.took.ensures)

pub returns-in-Err-clause-sent : goal.returns-in-Err-clause-sent
returns-in-Err-clause-sent g c =
    let so = c.pieces.invariant.written in
    cut_before c.args.connection.now.output so.0 c.pieces.connection.output _ _ so.2 (c.has_output.ensures.some c.if-not-has_output.false)
    (Appends-kept _ _ _ so.0 so.1 c.in-Err.ensures.bytes)

pub returns-then-count-eq0-clause-sent : goal.returns-then-count-eq0-clause-sent
returns-then-count-eq0-clause-sent g c =
    let so = c.pieces.invariant.written in
    let none : Appends (g.W.Write.contents c.pieces.writer) (g.W.Write.contents c.write.new.self) [] =
    subst (λ (n : ℕ). Appends (g.W.Write.contents c.pieces.writer) (g.W.Write.contents c.write.new.self) (take n c.piece.result.now))
    c.if-count-eq0.true c.in-Ok.ensures.bytes in
    cut_before c.args.connection.now.output so.0 c.pieces.connection.output _ _ so.2 (c.has_output.ensures.some c.if-not-has_output.false)
    (subst (λ (t : List ℕ). Appends (g.W.Write.contents c.args.writer.now) (g.W.Write.contents c.write.new.self) t) (append-nil so.0)
    (Appends-then _ _ _ so.0 [] so.1 none))

pub returns-then-not-has_output-clause-sent : goal.returns-then-not-has_output-clause-sent
returns-then-not-has_output-clause-sent g c =
    let so = c.pieces.invariant.written in
    all_sent c.args.connection.now.output so.0 c.pieces.connection.output _ _ so.2 (c.has_output.ensures.none c.if-not-has_output.true) so.1
