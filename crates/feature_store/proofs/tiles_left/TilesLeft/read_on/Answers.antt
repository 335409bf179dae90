use Rattle.std.proofs.Common.{◌≡◌, List, length, ap, subst, ◌∙◌}
use Rattle.tile_walk.specs.Boxes.{AreTilesOf}
use Rattle.tile_walk.specs.declared.numbered.Numbered.{Numbered}
use Rattle.feature_store.specs.Boxes.{read_of}
use Rattle.feature_store.proofs.Boxes.{all_read}
use Rattle.feature_store.proofs.Steps.{more_read, few_read, read_further, begun_further}
use Rattle.feature_store.proofs.Zooms.{next_zoom}
use Rattle.feature_store.proofs.tiles_left.TilesLeft.read_on.Goals as goal

pub returns-then-not-are_all-clause-further : goal.returns-then-not-are_all-clause-further
returns-then-not-are_all-clause-further c =
    let left = c.args.self.now in
    let more = c.in_ok-more.more in
    let start : c.begun_or_new-first.result.read ≡ read_of left.first = c.begun_or_new-first.ensures.read ∙ ap read_of c.take.ensures.value in
    let rises = more_read c.begun_or_new-first.result.read more.read (length c.args.map.now) c.are_all.result c.in_ok-more.ensures.read c.are_all.ensures
    c.if-not-are_all.true in
    read_further left.zoom left.walk (read_of left.first) more.read c.requires.walk c.requires.zoom c.in_ok-more.ensures.first.few
    (rw (← start) rises)

pub returns-clause-left : goal.returns-clause-left
returns-clause-left c from left =
    let m = c.args.map.now in
    let zoom = c.args.self.now.zoom in
    let walk = c.in_ok-walk.walk in
    let all = c.are_all.ensures.0 c.if-not-are_all.false in
    next_zoom m zoom from left walk.left
    (subst (λ (bs : List Numbered). AreTilesOf zoom bs walk.left) (all_read zoom m c.in_ok-more.more c.in_ok-more.ensures.first all)
    c.in_ok-walk.ensures.tiles)

pub returns-clause-further : goal.returns-clause-further
returns-clause-further c =
    let left = c.args.self.now in
    begun_further left.zoom left.walk c.in_ok-walk.walk (read_of left.first) (read_of c.take.new.self) c.requires.walk c.requires.zoom
    c.in_ok-walk.ensures.ahead (few_read left.zoom c.args.map.now left.first c.requires.first)
