use Rattle.std.proofs.Common.{◌≡◌, ◌∷◌, ◌<◌, [], Vec, Global, vec_len, sym, ap, ◌∙◌, arith}
use Rattle.tile_walk.specs.Inside.{placed_of}
use Rattle.tile_walk.specs.Squares.{left_of, weights, with_tile}
use Rattle.tile_walk.specs.declared.square.Square.{Square}
use Rattle.tile_walk.proofs.Steps.{last_cut, few_placed, some_weight, placed_ahead, lighter_ahead}
use Rattle.tile_walk.proofs.Tiles.{split_last, no_last, taken_left, taken_lighter, replaced_left, replaced_lighter, of_one, with_some, empty, filled}
use Rattle.tile_walk.proofs.squares.step.Goals.{then-square-gt0+in_ok-more+else-more-boxes+in_ok-quarters+in_ok-replace_last}
use Rattle.tile_walk.proofs.squares.step.Goals.{else-square-gt0+in_ok-numbers+else-not-is_empty}
use Rattle.tile_walk.proofs.squares.step.Goals as goal

pub returns-in_default-clause-over : goal.returns-in_default-clause-over
unfolding left_of
returns-in_default-clause-over c over =
    ap left_of (no_last c.loop-room.squares.items c.deref.result.now c.deref.ensures.value c.in_default.ensures.value)

pub returns-then-more-boxes-clause-further : goal.returns-then-more-boxes-clause-further
returns-then-more-boxes-clause-further c =
    let squares = c.loop-room.squares in
    let square = c.in-Some.square.now in
    let more = c.in_ok-more.more in
    let last = split_last squares.items c.deref.result.now square (vec_len squares) c.deref.ensures.value c.deref.ensures.len c.in-Some.ensures.value in
    let further : placed_of c.loop-room.cut < more.placed = omega (
      arith,
      c.in_ok-more.ensures.placed,
      c.begun_or_new.ensures.placed,
      ap placed_of c.take-begun.ensures.value,
      c.loop-room-test.true,
      c.if-more-boxes.true,
      c.len-boxes.ensures,
      square.boxes.ok.0,
    ) in
    let step = placed_ahead squares.items c.loop-room.cut more (some_weight squares.items square (vec_len squares) last) c.in_ok-more.ensures.cut.few further in
    omega (arith, step, c.loop-room.invariant.ahead)

pub returns-then-not-is_empty-clause-left : goal.returns-then-not-is_empty-clause-left
returns-then-not-is_empty-clause-left c =
    let squares = c.loop-room.squares in
    let square = c.in-Some.square.now in
    let numbers = c.in_ok-numbers.numbers in
    let last = split_last squares.items c.deref.result.now square (vec_len squares) c.deref.ensures.value c.deref.ensures.len c.in-Some.ensures.value in
    let some = filled numbers.items (vec_len numbers) c.is_empty.result numbers.ok.0 c.is_empty.ensures c.if-not-is_empty.true in
    sym c.loop-room.invariant.left
    ∙ taken_left squares.items c.pop.new.self.items square (vec_len squares) last ((square.first, numbers.items) ∷ []) c.pop.ensures.rest
    (of_one square c.deref-else-square-gt0.result.now numbers.items (omega (arith, c.if-square-gt0.false)) c.deref-else-square-gt0.ensures.value
    c.in_ok-numbers.ensures ∙ with_some square.first numbers.items [] some)

pub returns-then-not-is_empty-clause-further : goal.returns-then-not-is_empty-clause-further
returns-then-not-is_empty-clause-further c =
    let squares = c.loop-room.squares in
    let square = c.in-Some.square.now in
    let last = split_last squares.items c.deref.result.now square (vec_len squares) c.deref.ensures.value c.deref.ensures.len c.in-Some.ensures.value in
    let few = few_placed square c.loop-room.cut
    (last_cut squares.items c.deref.result.now square c.loop-room.cut c.deref.ensures.value c.in-Some.ensures.value c.loop-room.invariant.cut) in
    let step = lighter_ahead squares.items c.pop.new.self.items c.loop-room.cut c.take-begun.new.self few
    (taken_lighter squares.items c.pop.new.self.items square (vec_len squares) last c.pop.ensures.rest) c.take-begun.ensures.after in
    omega (arith, step, c.loop-room.invariant.ahead)

pub loop-room-preserved-after-square-gt0-2 : goal.loop-room-preserved-after-square-gt0-2
loop-room-preserved-after-square-gt0-2 c =
    let squares = c.loop-room.squares in
    let square = c.in-Some.square.now in
    let new = c.if-square-gt0.squares.items in
    let last = split_last squares.items c.deref.result.now square (vec_len squares) c.deref.ensures.value c.deref.ensures.len c.in-Some.ensures.value in
    let few = few_placed square c.loop-room.cut
    (last_cut squares.items c.deref.result.now square c.loop-room.cut c.deref.ensures.value c.in-Some.ensures.value c.loop-room.invariant.cut) in
    let goes_on : (left_of new ≡ left_of squares.items) × (weights new < weights squares.items) = elim c.if-square-gt0.branch [
      | then-square-gt0+in_ok-more+else-more-boxes+in_ok-quarters+in_ok-replace_last w ↦
          let is = ap (λ (v : Vec Square Global). v.items) w.squares-is ∙ w.in_ok-replace_last.ensures.items in
          let quarters = w.in_ok-quarters.quarters.items in (
            replaced_left squares.items new square (vec_len squares) last quarters is w.in_ok-quarters.ensures.left,
            replaced_lighter squares.items new square (vec_len squares) last quarters is w.in_ok-quarters.ensures.weight,
          )
      | else-square-gt0+in_ok-numbers+else-not-is_empty w ↦
          let rest = ap (λ (v : Vec Square Global). v.items) w.squares-is ∙ w.pop.ensures.rest in
          let numbers = w.in_ok-numbers.numbers in
          let none = empty numbers.items (vec_len numbers) w.is_empty.result numbers.ok.0 w.is_empty.ensures w.if-not-is_empty.false in (
            sym (taken_left squares.items new square (vec_len squares) last [] rest
                (of_one square w.deref-else-square-gt0.result.now numbers.items (omega (arith, w.if-square-gt0.false)) w.deref-else-square-gt0.ensures.value
                w.in_ok-numbers.ensures ∙ ap (λ ns. with_tile square.first ns []) none)),
            taken_lighter squares.items new square (vec_len squares) last rest,
          )
    ] in
    let step = lighter_ahead squares.items new c.loop-room.cut c.take-begun.new.self few goes_on.1 c.take-begun.ensures.after in
    record {
      cut = rw c.take-begun.ensures.after tt;
      left = goes_on.0 ∙ c.loop-room.invariant.left;
      ahead = omega (arith, step, c.loop-room.invariant.ahead);
      further = λ less. omega (arith, step, c.loop-room.invariant.ahead);
    }

pub loop-room-preserved : goal.loop-room-preserved
loop-room-preserved c =
    let squares = c.loop-room.squares in
    let square = c.in-Some.square.now in
    let new = c.if-square-gt0.squares.items in
    let last = split_last squares.items c.deref.result.now square (vec_len squares) c.deref.ensures.value c.deref.ensures.len c.in-Some.ensures.value in
    let few = few_placed square c.loop-room.cut
    (last_cut squares.items c.deref.result.now square c.loop-room.cut c.deref.ensures.value c.in-Some.ensures.value c.loop-room.invariant.cut) in
    let goes_on : (left_of new ≡ left_of squares.items) × (weights new < weights squares.items) = elim c.if-square-gt0.branch [
      | then-square-gt0+in_ok-more+else-more-boxes+in_ok-quarters+in_ok-replace_last w ↦
          let is = ap (λ (v : Vec Square Global). v.items) w.squares-is ∙ w.in_ok-replace_last.ensures.items in
          let quarters = w.in_ok-quarters.quarters.items in (
            replaced_left squares.items new square (vec_len squares) last quarters is w.in_ok-quarters.ensures.left,
            replaced_lighter squares.items new square (vec_len squares) last quarters is w.in_ok-quarters.ensures.weight,
          )
      | else-square-gt0+in_ok-numbers+else-not-is_empty w ↦
          let rest = ap (λ (v : Vec Square Global). v.items) w.squares-is ∙ w.pop.ensures.rest in
          let numbers = w.in_ok-numbers.numbers in
          let none = empty numbers.items (vec_len numbers) w.is_empty.result numbers.ok.0 w.is_empty.ensures w.if-not-is_empty.false in (
            sym (taken_left squares.items new square (vec_len squares) last [] rest
                (of_one square w.deref-else-square-gt0.result.now numbers.items (omega (arith, w.if-square-gt0.false)) w.deref-else-square-gt0.ensures.value
                w.in_ok-numbers.ensures ∙ ap (λ ns. with_tile square.first ns []) none)),
            taken_lighter squares.items new square (vec_len squares) last rest,
          )
    ] in
    let step = lighter_ahead squares.items new c.loop-room.cut c.take-begun.new.self few goes_on.1 c.take-begun.ensures.after in
    record {
      cut = rw c.take-begun.ensures.after tt;
      left = goes_on.0 ∙ c.loop-room.invariant.left;
      ahead = omega (arith, step, c.loop-room.invariant.ahead);
      further = λ less. omega (arith, step, c.loop-room.invariant.ahead);
    }
