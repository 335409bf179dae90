use Rattle.std.proofs.Common.{ap, ◌∙◌, arith}
use Rattle.area_content.specs.Collected.{tiles_of}
use Rattle.area_content.specs.Drafts.{DraftView}
use Rattle.area_content.specs.Waiting.{least_id}
use Rattle.area_content.proofs.MapTiles.{few_tiles}
use Rattle.area_content.proofs.draft.ContentDraft.step.Goals as goal

pub overflow_add-self : goal.overflow_add-self
overflow_add-self c =
    let d = c.self.inside in
    let going = ap (λ (v : DraftView). v.stage) c.self.view_is ∙ c.requires.stage in
    omega (
      arith,
      c.self.invariant.count going,
      few_tiles d.tiles.features (least_id d.collected.waiting d.tiles.from) (tiles_of d.collected) (c.self.invariant.going going).collected.added,
    )
