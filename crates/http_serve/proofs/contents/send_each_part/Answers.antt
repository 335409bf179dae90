use Rattle.std.proofs.Common.{◌<◌, ◌≤◌, Err, ℕ, ◌∙◌, refl, sym, subst, arith, length, take, drop, length-append, length-drop}
use Rattle.std.proofs.lemmas.List.{length-take-le}
use Rattle.std.specs.Io.KnownBytes.{Appends}
use Rattle.http_serve.specs.Parts.{GivesOrFails}
use Rattle.http_serve.proofs.ExitLemmas.{exit_is, exit_fault}
use Rattle.http_serve.proofs.PartLemmas.{part_count, sent_none, sent_on, sent_cut, sent_whole}
use Rattle.http_serve.proofs.contents.send_each_part.Goals as goal

pub loop-at-preserved : goal.loop-at-preserved
loop-at-preserved g c =
    let at = c.loop-at.at in
    let count = c.min-count.result in
    let least = c.min-count.ensures in
    let below = c.loop-at-test.true in
    let fits : count ≤ length c.loop-at.buffer = omega (arith, c.loop-at.invariant.length) in
    let size = length-take-le count c.loop-at.buffer fits in
    record {
      behind = omega (arith, c.loop-at.invariant.behind);
      within = omega arith;
      length = omega (
        arith,
        length-append c.send_part.new.part (drop count c.loop-at.buffer),
        length-drop count c.loop-at.buffer,
        size,
        c.send_part.ensures.length,
        c.loop-at.invariant.length,
      );
      size = c.send_part.ensures.size ∙ c.loop-at.invariant.size;
      sent =
          sent_on g.H.Handler.replies g.H.Handler.sends c.args.offset at c.args.size count _ _ _ _ _ _ c.loop-at.invariant.behind c.loop-at.invariant.sent
          (λ first request reply sent is.
          let part = c.in_ok-send_part.ensures.sent first request reply sent (is ∙ sym c.loop-at.invariant.size) in (
            part.0,
            part.1,
            part.2,
            part.3,
            subst (λ (n : ℕ). Appends (g.W.Write.contents c.loop-at.writer) (g.W.Write.contents c.send_part.new.writer) (take n (drop at part.0.content)))
                size part.4,
          ));
    }

pub returns-in_err-send_part-clause-sent : goal.returns-in_err-send_part-clause-sent
returns-in_err-send_part-clause-sent g c =
    let at = c.loop-at.at in
    let count = c.min-count.result in
    let least = c.min-count.ensures in
    let below = c.loop-at-test.true in
    let size = length-take-le count c.loop-at.buffer (omega (arith, c.loop-at.invariant.length)) in
    let fault = c.in_err-send_part.field-0.0 in
    rw (exit_is c.from_residual.result fault c.from_residual.ensures.1)
    (sent_cut g.H.Handler.replies g.H.Handler.sends c.args.offset at c.args.size count _ _ c.send_part.new.handler _ _ _
    c.loop-at.invariant.behind c.loop-at.invariant.sent
    (λ first request later. GivesOrFails (Err fault) (g.H.Handler.replies first request later c.send_part.new.handler)
    (g.H.Handler.fails first request later c.send_part.new.handler)) (omega arith)
    (λ first request reply sent is.
    let part = c.in_err-send_part.ensures.sent first request reply sent (is ∙ sym c.loop-at.invariant.size) in
    let cut = subst (λ (n : ℕ). (k : ℕ) × (k < length (take n (drop at part.0.content)))
    × Appends (g.W.Write.contents c.loop-at.writer) (g.W.Write.contents c.send_part.new.writer) (take k (take n (drop at part.0.content)))) size part.4 in
    (part.0, part.1, part.2, cut.0, cut.1, cut.2)))

pub loop-at-init : goal.loop-at-init
loop-at-init g c = record {
  behind = omega arith;
  within = c.requires.within;
  length = refl;
  size = c.requires.size;
  sent = sent_none g.H.Handler.replies g.H.Handler.sends c.args.offset c.args.size c.args.handler.now (g.W.Write.contents c.args.writer.now);
}

pub overflow_sub-size : goal.overflow_sub-size
overflow_sub-size g c = c.loop-at.invariant.within

pub slice_bounds-send_part-end : goal.slice_bounds-send_part-end
slice_bounds-send_part-end g c =
    (part_count c.args.size c.loop-at.at c.min-count.result c.loop-at.buffer c.loop-at-test.true c.min-count.ensures).0

pub slice_bounds-send_part-end-in-loop-at : goal.slice_bounds-send_part-end-in-loop-at
slice_bounds-send_part-end-in-loop-at g c =
    sym (part_count c.args.size c.loop-at.at c.min-count.result c.loop-at.buffer c.loop-at-test.true c.min-count.ensures).2

pub send_part-requires-clause-within : goal.send_part-requires-clause-within
send_part-requires-clause-within g c =
    let part = part_count c.args.size c.loop-at.at c.min-count.result c.loop-at.buffer c.loop-at-test.true c.min-count.ensures in
    omega (arith, part.1, part.2, c.loop-at.invariant.size)

pub send_part-requires-clause-some : goal.send_part-requires-clause-some
send_part-requires-clause-some g c =
    let part = part_count c.args.size c.loop-at.at c.min-count.result c.loop-at.buffer c.loop-at-test.true c.min-count.ensures in
    omega (arith, part.2, part.3 (omega (arith, c.requires.some, c.loop-at.invariant.length)))

pub send_part-requires-clause-few : goal.send_part-requires-clause-few
send_part-requires-clause-few g c =
    let part = part_count c.args.size c.loop-at.at c.min-count.result c.loop-at.buffer c.loop-at-test.true c.min-count.ensures in
    omega (arith, part.0, part.2, c.requires.few, c.loop-at.invariant.length)

pub returns-in_err-send_part-clause-cut : goal.returns-in_err-send_part-clause-cut
returns-in_err-send_part-clause-cut g c =
    exit_fault c.from_residual.result _ c.in_err-send_part.field-0.0 c.from_residual.ensures.1 c.in_err-send_part.ensures.cut

pub overflow_add-at : goal.overflow_add-at
overflow_add-at g c =
    let part = part_count c.args.size c.loop-at.at c.min-count.result c.loop-at.buffer c.loop-at-test.true c.min-count.ensures in
    let fits = c.ranges.size.fits in
    omega (arith, part.1, fits)

pub loop-at-smaller : goal.loop-at-smaller
loop-at-smaller g c =
    let part = part_count c.args.size c.loop-at.at c.min-count.result c.loop-at.buffer c.loop-at-test.true c.min-count.ensures in
    omega (arith, part.1, part.3 (omega (arith, c.requires.some, c.loop-at.invariant.length)))

pub returns-clause-sent : goal.returns-clause-sent
returns-clause-sent g c =
    sent_whole g.H.Handler.replies g.H.Handler.sends c.args.offset c.loop-at.at c.args.size c.args.handler.now c.loop-at.handler _ _
    c.loop-at-test.false c.loop-at.invariant.sent
