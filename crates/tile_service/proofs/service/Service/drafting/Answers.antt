use Rattle.std.proofs.Common.{Option, Some, refl, sym, ap, subst}
use Rattle.tile_service.specs.Drafted.{DraftedView}
use Rattle.tile_service.specs.Service.{IsToldOf, drafted_by}
use Rattle.tile_service.specs.declared.drafting.Drafting.{Drafting}
use Rattle.tile_service.proofs.Publications.Drafts.{draft_there}
use Rattle.tile_service.proofs.service.Service.drafting.Goals as goal

pub returns-in-Some : goal.returns-in-Some
returns-in-Some g c = rw (← c.self.view_is)
    (let d = c.in-Some.draft in
    let told : Drafting = record { entries = d.added.entries; made = d.added.count; places = d.places } in
    subst (λ (o : Option DraftedView). IsToldOf o (Some told)) (sym (ap (drafted_by c.self.inside.moment) c.in-Some.is))
    ((draft_there d c.in-Some.is c.self.invariant).1.added, refl))
