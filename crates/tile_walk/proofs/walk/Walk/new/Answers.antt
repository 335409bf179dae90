use Rattle.std.proofs.Common.{refl, arith}
use Rattle.hilbert_id.proofs.Ids.{below_end}
use Rattle.tile_walk.proofs.Whole.{origin_is_first, whole_left, whole_ahead}
use Rattle.tile_walk.proofs.walk.Walk.new.Goals as goal

pub invariant_of-push : goal.invariant_of-push
invariant_of-push c = record {
  height = c.requires;
  ids = omega (arith, below_end c.args.zoom c.requires, origin_is_first c.args.zoom c.id_of-first.result c.id_of-first.ensures.id);
}

pub returns-clause-tiles : goal.returns-clause-tiles
returns-clause-tiles c =
    whole_left c.args.zoom c.args.boxes.items _ c.new-squares.result.items c.push.new.self.items c.in_ok-push.ensures.items c.new-squares.ensures.items
    refl c.id_of-first.ensures.id refl

pub returns-clause-ahead : goal.returns-clause-ahead
returns-clause-ahead c =
    whole_ahead c.args.zoom _ c.new-squares.result.items c.push.new.self.items c.in_ok-push.ensures.items c.new-squares.ensures.items refl c.requires
