use Rattle.std.proofs.Common.{subst, ◌≡◌, ◌++◌, arith}
use Rattle.std.proofs.lemmas.List.{take_all}
use Rattle.feature_store.specs.Boxes.{boxes_in}
use Rattle.feature_store.proofs.Boxes.{no_tiles, tiles_more}
use Rattle.feature_store.proofs.feature_boxes.append_boxes.Goals as goal

pub loop-entry-init : goal.loop-entry-init
loop-entry-init c = no_tiles c.args.zoom c.args.tiles.now.items

pub loop-entry-preserved : goal.loop-entry-preserved
loop-entry-preserved c =
    tiles_more c.args.zoom c.args.boxes.now c.loop-entry.entry-index _ c.args.tiles.now.items c.loop-entry.tiles.items c.append_tiles.new.tiles.items
    c.loop-entry-test.true c.loop-entry.invariant c.in_ok-append_tiles.ensures

pub returns : goal.returns
returns c =
    subst (λ es. c.loop-entry.tiles.items ≡ c.args.tiles.now.items ++ boxes_in c.args.zoom es)
    (take_all c.loop-entry.entry-index c.args.boxes.now (omega (arith, c.loop-entry-test.false))) c.loop-entry.invariant
