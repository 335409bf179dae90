use Rattle.std.proofs.lemmas.Result.{err_from_is_err_and}
use Rattle.std.proofs.Common.{List, ℕ, arith}
use Rattle.std.specs.Borrow.{Bor}
use Rattle.mvt_layer.specs.Tile.{bytes_of}
use Rattle.mvt_layer.specs.Reading.{text_at, part_more}
use Rattle.mvt_layer.proofs.Folds.{each_on, each_stop, parts_done}
use Rattle.mvt_layer.proofs.layers.texts_of.Goals as goal

pub returns-in_err-text : goal.returns-in_err-text
returns-in_err-text c =
    let p = err_from_is_err_and c.from_residual-in_err-text.result c.from_residual-in_err-text.ensures.1 in
    let raw = c.args.raw.now in
    let i = c.loop-part.part-index in
    let stopped = each_stop (λ (t : Bor (List ℕ)). t.now) text_at raw i (bytes_of c.loop-part.texts.items) c.in_err-text.field-0.0 _
    c.loop-part-test.true c.loop-part.invariant.read c.in_err-text.ensures in
    rw (p.1, p.2) (λ _. stopped)

pub loop-part-preserved : goal.loop-part-preserved
loop-part-preserved c = record {
  len = omega (arith, c.loop-part.invariant.len, c.push_reserved.ensures.len);
  room = omega (arith, c.loop-part.invariant.room, c.push_reserved.ensures.capacity);
  read = each_on (λ (t : Bor (List ℕ)). t.now) (text_at) c.args.raw.now c.loop-part.part-index
      c.loop-part.texts.items c.push_reserved.new.self.items c.in_ok-text.text _
      c.loop-part-test.true c.loop-part.invariant.read c.in_ok-text.ensures c.push_reserved.ensures.items;
}

pub push_reserved-requires : goal.push_reserved-requires
push_reserved-requires c = omega (arith, c.loop-part.invariant.len, c.loop-part.invariant.room, c.loop-part-test.true)

pub returns : goal.returns
returns c =
    parts_done (part_more (text_at)) c.args.raw.now c.loop-part.part-index (bytes_of c.loop-part.texts.items) _
    c.loop-part-test.false c.loop-part.invariant.read
