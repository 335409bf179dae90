use Rattle.std.proofs.Common.{◌++◌, List, take, subst, ◌∙◌, arith}
use Rattle.std.proofs.lemmas.List.{take_all}
use Rattle.tile_walk.specs.Cut.{AreInQuarters}
use Rattle.tile_walk.specs.declared.numbered.Numbered.{Numbered}
use Rattle.tile_walk.proofs.Placed.{one_more}
use Rattle.tile_walk.proofs.cut.place_each.Goals as goal

pub loop-numbered-preserved : goal.loop-numbered-preserved
loop-numbered-preserved c =
    let boxes = c.args.boxes.now in
    let i = c.loop-numbered.numbered-index in
    record {
      placed = c.place.ensures.placed ∙ c.loop-numbered.invariant.placed;
      quarters = λ bs before. one_more c.args.half bs boxes i _ c.place.new.cut c.loop-numbered-test.true
          (c.in_ok-place.ensures.quarters (bs ++ take i boxes) (c.loop-numbered.invariant.quarters bs before));
    }

pub returns-clause-quarters : goal.returns-clause-quarters
returns-clause-quarters c bs before =
    subst (λ (xs : List Numbered). AreInQuarters c.args.half (bs ++ xs) c.loop-numbered.cut)
    (take_all c.loop-numbered.numbered-index c.args.boxes.now (omega (arith, c.loop-numbered-test.false))) (c.loop-numbered.invariant.quarters bs before)
