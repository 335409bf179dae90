use Rattle.std.proofs.Common.{Ok, ap, sym, refl, List, length, Option, ◌∙◌}
use Rattle.pm_build.specs.Building.{BuilderView}
use Rattle.pm_build.specs.Tiles.{Tile}
use Rattle.area_content.specs.Waiting.{parts_of}
use Rattle.area_content.proofs.Steps.{all_made, begins_to_wait, last_made, none_put, none_waited, none_waits, one_waits, passed, same_collected}
use Rattle.area_content.proofs.archive.make_next.Goals as goal

pub returns-in-Ok-Part-clause-going : goal.returns-in-Ok-Part-clause-going
returns-in-Ok-Part-clause-going c =
    let m = c.args.tiles.now.features in
    let from = c.args.tiles.now.from in
    let metadata = c.args.frame.metadata.now in
    let area = c.args.frame.area in
    let old = c.args.collected.now in
    let now = c.take.new.self in
    let are = none_waited m metadata area from old c.requires.going c.take.result now c.take.ensures.value c.in_default.not-Some in
    let on = c.in-Ok-Part.ensures.part (ap Ok c.in-Ok-Part.field-0-is) in
    let new = c.next_short.new.tiles.from in
    none_waits m metadata area new _ (passed m metadata area from _ are new on.0 on.1) c.take.ensures.after
    (none_put m metadata area from old c.requires.going c.take.result c.take.ensures.value c.in_default.not-Some)

pub returns-in-Ok-Over-clause-made : goal.returns-in-Ok-Over-clause-made
returns-in-Ok-Over-clause-made c same =
    let m = c.args.tiles.now.features in
    let from = c.args.tiles.now.from in
    let metadata = c.args.frame.metadata.now in
    let area = c.args.frame.area in
    let old = c.args.collected.now in
    let now = c.take.new.self in
    let are = none_waited m metadata area from old c.requires.going c.take.result now c.take.ensures.value c.in_default.not-Some in
    all_made m metadata area from _ are (c.in-Ok-Over.ensures.over (ap Ok c.in-Ok-Over.field-0-is))

pub returns-in-Err-next_short-clause-fault : goal.returns-in-Err-next_short-clause-fault
returns-in-Err-next_short-clause-fault c =
    let m = c.args.tiles.now.features in
    let from = c.args.tiles.now.from in
    let metadata = c.args.frame.metadata.now in
    let old = c.args.collected.now in
    let now = c.take.new.self in
    let are = none_waited m metadata c.args.frame.area from old c.requires.going c.take.result now c.take.ensures.value c.in_default.not-Some in
    c.in-Err-next_short.ensures.fault _ metadata are.added

pub returns-then-len-ge-LARGE_TILE_BYTES-clause-going : goal.returns-then-len-ge-LARGE_TILE_BYTES-clause-going
returns-then-len-ge-LARGE_TILE_BYTES-clause-going c =
    let m = c.args.tiles.now.features in
    let from = c.args.tiles.now.from in
    let metadata = c.args.frame.metadata.now in
    let area = c.args.frame.area in
    let old = c.args.collected.now in
    let tile = c.in-Ok-Whole.tile in
    let next = rw c.in-Ok-Whole.field-0-is at c.in-Ok-Whole.ensures.tile in
    let now = c.take.new.self in
    let are = none_waited m metadata area from old c.requires.going c.take.result now c.take.ensures.value c.in_default.not-Some in
    let before = passed m metadata area from _ are tile.0 next.0.here next.0.between in
    let kept = c.let_wait.ensures.kept in
    let same = same_collected m metadata area tile.0 _ c.let_wait.new.self (ap (λ (v : BuilderView). v.tiles) kept) c.let_wait.ensures.counted before in
    let new = c.next_short.new.tiles.from in
    let last = last_made m from new (tile.0, tile.1.items) next.0 next.1 next.2 in
    one_waits m metadata area new c.let_wait.new.self _ c.let_wait.ensures.waiting same
    (begins_to_wait m new c.let_wait.new.self.counted _ last refl
    (ap (λ (o : Option (List Tile)). parts_of o (length tile.1.items)) (sym c.let_wait.ensures.counted)))
    (ap (λ (v : BuilderView). v.ahead) kept
    ∙ none_put m metadata area from old c.requires.going c.take.result c.take.ensures.value c.in_default.not-Some)

pub add_tile-requires-2-clause-collected : goal.add_tile-requires-2-clause-collected
add_tile-requires-2-clause-collected c =
    let m = c.args.tiles.now.features in
    let from = c.args.tiles.now.from in
    let metadata = c.args.frame.metadata.now in
    let area = c.args.frame.area in
    let old = c.args.collected.now in
    let now = c.take.new.self in
    let next = rw c.in-Ok-Whole.field-0-is at c.in-Ok-Whole.ensures.tile in
    let are = none_waited m metadata area from old c.requires.going c.take.result now c.take.ensures.value c.in_default.not-Some in
    rw c.in-Ok-Whole.ensures.map (passed m metadata area from _ are c.in-Ok-Whole.tile.0 next.0.here next.0.between)
