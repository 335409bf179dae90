use Rattle.std.proofs.Common.{ap, subst, ◌∙◌}
use Rattle.area_content.specs.Drafts.{DraftView}
use Rattle.area_content.specs.Faults.{IsContentFault}
use Rattle.area_content.specs.Room.{AreBeyond}
use Rattle.area_content.proofs.Steps.{counted_made}
use Rattle.area_content.proofs.draft.ContentDraft.finish.Goals as goal

pub returns-in-Some-clause-fault : goal.returns-in-Some-clause-fault
returns-in-Some-clause-fault c =
    let d = c.self.inside in
    let m = d.tiles.features in
    let ts = c.in-Some.counter in
    let stage = ap (λ (v : DraftView). v.stage) c.self.view_is ∙ c.requires in
    let made = counted_made m d.metadata.items d.area d.collected (c.self.invariant.made stage) ts c.in-Some.is in
    let text = c.deref.ensures.value ∙ c.self.invariant.text in
    let full : AreBeyond m d.metadata.items d.area ts → IsContentFault m d.metadata.items d.area c.full_of.result =
    rw c.deref-in-Some.ensures.value at (c.full_of.ensures m c.self.invariant.is_map text made.0 made.1) in
    subst (λ (v : DraftView). IsContentFault v.features v.metadata v.area c.full_of.result) c.self.view_is (full made.2)
