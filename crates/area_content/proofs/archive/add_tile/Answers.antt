use Rattle.std.proofs.lemmas.Result.{on_ok_weaker}
use Rattle.pm_build.specs.Tiles.{Tile}
use Rattle.area_content.proofs.Steps.{added_of_map, both_ok, can_add, counted_added, counted_beyond, going_on, kept_added, next_of_last, still_beyond}
use Rattle.area_content.proofs.archive.add_tile.Goals as goal

pub count_tile-requires-clause-can : goal.count_tile-requires-clause-can
count_tile-requires-clause-can c =
    let m = c.args.tiles.now.features in
    let t : Tile = (c.args.tile.0, c.args.tile.1.items) in
    let added = counted_added m c.args.frame.metadata.now c.args.frame.area t.0 c.args.collected.now c.requires.collected c.in-Some.counter c.in-Some.is in
    can_add m t.0 c.in-Some.counter t added (next_of_last m c.args.tiles.now.from t c.requires.last) c.requires.last.short

pub count_tile-requires-clause-of_map : goal.count_tile-requires-clause-of_map
count_tile-requires-clause-of_map c =
    let m = c.args.tiles.now.features in
    let id = c.args.tile.0 in
    added_of_map m id c.in-Some.counter
    (counted_added m c.args.frame.metadata.now c.args.frame.area id c.args.collected.now c.requires.collected c.in-Some.counter c.in-Some.is)

pub keep-requires-clause-can : goal.keep-requires-clause-can
keep-requires-clause-can c =
    let m = c.args.tiles.now.features in
    let t : Tile = (c.args.tile.0, c.args.tile.1.items) in
    let collected = c.args.collected.now in
    let added = kept_added m c.args.frame.metadata.now c.args.frame.area t.0 collected c.requires.collected c.in-None.is in
    rw c.deref.ensures.value (can_add m t.0 collected.kept.tiles t added (next_of_last m c.args.tiles.now.from t c.requires.last) c.requires.last.short)

pub returns-in-Some-clause-collected : goal.returns-in-Some-clause-collected
returns-in-Some-clause-collected c =
    let m = c.args.tiles.now.features in
    let from = c.args.tiles.now.from in
    let metadata = c.args.frame.metadata.now in
    let area = c.args.frame.area in
    let t : Tile = (c.args.tile.0, c.args.tile.1.items) in
    let are = c.requires.collected in
    let collected = c.args.collected.now in
    let counted = c.in-Some.counter in
    let last = c.requires.last in
    let added = counted_added m metadata area t.0 collected are counted c.in-Some.is in
    let beyond = counted_beyond m metadata area t.0 collected are counted c.in-Some.is in
    on_ok_weaker c.count_tile.result
    (λ h. going_on m metadata area t.0 from counted t _ added (next_of_last m from t last) last.short last.last h.0 h.1 are.within
    (still_beyond m metadata area counted c.count_tile.new.counter t beyond h.0))
    (both_ok _ _ c.count_tile.result c.count_tile.ensures.added c.count_tile.ensures.few)

pub returns-in-Ok-clause-collected : goal.returns-in-Ok-clause-collected
returns-in-Ok-clause-collected c =
    let m = c.args.tiles.now.features in
    let from = c.args.tiles.now.from in
    let metadata = c.args.frame.metadata.now in
    let area = c.args.frame.area in
    let t : Tile = (c.args.tile.0, c.args.tile.1.items) in
    let collected = c.args.collected.now in
    let last = c.requires.last in
    let added = kept_added m metadata area t.0 collected c.requires.collected c.in-None.is in
    let is = c.in-Ok.ensures in
    going_on m metadata area t.0 from collected.kept.tiles t c.keep.new.self added (next_of_last m from t last) last.short last.last
    (rw c.deref.ensures.value at is.added) is.few (is.within m c.requires.snapshot) (is.beyond m c.requires.snapshot)
