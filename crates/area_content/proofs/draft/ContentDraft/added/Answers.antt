use Rattle.std.proofs.Common.{ap, subst, ◌∙◌}
use Rattle.area_content.specs.Collected.{tiles_of}
use Rattle.area_content.specs.Drafts.{AreAddedBelow, DraftView}
use Rattle.area_content.proofs.draft.ContentDraft.added.Goals as goal

pub returns : goal.returns
returns c going =
    let d = c.self.inside in
    let stage = ap (λ (v : DraftView). v.stage) c.self.view_is ∙ going in
    subst (λ (v : DraftView). AreAddedBelow v.features v.from (record { count = d.made; entries = c.entries.result })) c.self.view_is (record {
      tiles = tiles_of d.collected;
      below = (c.self.invariant.going stage).collected.added.below;
      count_is = c.self.invariant.count stage;
      entries_are = c.entries.ensures;
    })
