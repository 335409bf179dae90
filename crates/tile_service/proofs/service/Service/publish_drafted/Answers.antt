use Rattle.std.specs.Prelude.{Option, Some, IfSome}
use Rattle.std.proofs.Common.{◌+◌, ℕ, Ok, Err, refl, sym, ap, subst, ◌∙◌}
use Rattle.generations.specs.Areas.{area_sectors}
use Rattle.feature_store.specs.Moments.{moment_map}
use Rattle.tile_service.specs.Drafted.{DraftedView}
use Rattle.tile_service.specs.Inside.{service_view}
use Rattle.tile_service.specs.Service.{PublicationView, ServiceView, IsContentOf, IsStage, IsUp, BeginsDrafted, drafted_by, map_then}
use Rattle.tile_service.specs.Publishing.{HasNoContent}
use Rattle.tile_service.proofs.Publications.Drafts.{draft_goes, draft_there, gone_drafting, service_undrafted, stage_reached, up_drafted, up_gone}
use Rattle.tile_service.proofs.service.Service.publish_drafted.Goals as goal

pub returns-then-is_some-clause-up : goal.returns-then-is_some-clause-up
returns-then-is_some-clause-up g c = rw (← c.self.view_is)
    (λ stored up. up_gone _ _ stored _ up (drafted_by c.take-moment.new.self c.take-draft.new.self)
    (gone_drafting c.take-moment.new.self c.take-draft.new.self c.take-draft.ensures.after))

pub returns-in-Refused-clause-up : goal.returns-in-Refused-clause-up
returns-in-Refused-clause-up g c = rw (← c.self.view_is)
    (λ stored up. up_gone _ _ stored _ up (drafted_by c.take-moment.new.self c.take-draft.new.self)
    (gone_drafting c.take-moment.new.self c.take-draft.new.self c.take-draft.ensures.after))

pub returns-in_default-stage-clause-up : goal.returns-in_default-stage-clause-up
returns-in_default-stage-clause-up g c = rw (← c.self.view_is)
    (λ stored up. up_gone _ _ stored _ up (drafted_by c.take-moment.new.self c.take-draft.new.self)
    (gone_drafting c.take-moment.new.self c.take-draft.new.self c.take-draft.ensures.after))

pub invariant_of-self-in-Found : goal.invariant_of-self-in-Found
invariant_of-self-in-Found g c =
    let is = sym c.take-draft.ensures.value ∙ c.in-Some.is in
    let found : IsContentOf (area_sectors c.self.inside.layout.sectors) (map_then (moment_map c.self.inside.moment)) c.in-Found.content =
    subst (IsStage (area_sectors c.self.inside.layout.sectors) (map_then (moment_map c.self.inside.moment))) c.in-Found.is
    (stage_reached c.in-Some.draft c.take-moment.result c.last_stage-stage.result is c.take-moment.ensures.value c.last_stage-stage.ensures c.self.invariant) in
    let there = draft_there c.in-Some.draft is c.self.invariant in
    service_undrafted
    (Some (record { content = c.in-Found.content; start = c.in-Some.draft.start; places = c.in-Some.draft.places; written = 0 }))
    c.take-moment.new.self c.take-draft.new.self c.take-moment.ensures.after c.take-draft.ensures.after
    (draft_goes c.self.inside.layout.sectors c.self.inside.root c.self.inside.journal c.self.inside.map.features
    (map_then (moment_map c.self.inside.moment)) c.in-Some.draft c.in-Found.content there.1 found) c.self.invariant

pub returns-in-Found-clause-begins : goal.returns-in-Found-clause-begins
returns-in-Found-clause-begins g c = rw (← c.self.view_is) (λ unbroken none.
    let is = sym c.take-draft.ensures.value ∙ c.in-Some.is in
    let found : IsContentOf (area_sectors c.self.inside.layout.sectors) (map_then (moment_map c.self.inside.moment)) c.in-Found.content =
    subst (IsStage (area_sectors c.self.inside.layout.sectors) (map_then (moment_map c.self.inside.moment))) c.in-Found.is
    (stage_reached c.in-Some.draft c.take-moment.result c.last_stage-stage.result is c.take-moment.ensures.value c.last_stage-stage.ensures c.self.invariant) in
    let p : PublicationView =
    record { content = c.in-Found.content; start = c.in-Some.draft.start; places = c.in-Some.draft.places; written = 0 } in
    subst (λ (o : Option DraftedView). IfSome o (λ d. BeginsDrafted c.self.inside.layout.sectors d (Ok (c.sectors-left.result + 1)) (Some p)))
    (sym (ap (drafted_by c.self.inside.moment) is)) (c.in-Found.content, found, refl, ap (λ (n : ℕ). n + 1) c.sectors-left.ensures))

pub returns-in-Found-clause-up : goal.returns-in-Found-clause-up
returns-in-Found-clause-up g c = rw (← c.self.view_is) (λ stored up.
    let is = sym c.take-draft.ensures.value ∙ c.in-Some.is in
    let found : IsContentOf (area_sectors c.self.inside.layout.sectors) (map_then (moment_map c.self.inside.moment)) c.in-Found.content =
    subst (IsStage (area_sectors c.self.inside.layout.sectors) (map_then (moment_map c.self.inside.moment))) c.in-Found.is
    (stage_reached c.in-Some.draft c.take-moment.result c.last_stage-stage.result is c.take-moment.ensures.value c.last_stage-stage.ensures c.self.invariant) in
    let service : ServiceView g.row.D.Denot = service_view c.self.inside in
    let there = draft_there c.in-Some.draft is c.self.invariant in
    let d : DraftedView = record {
      start = c.in-Some.draft.start;
      places = c.in-Some.draft.places;
      features = map_then (moment_map c.self.inside.moment);
    } in
    let p : PublicationView =
    record { content = c.in-Found.content; start = c.in-Some.draft.start; places = c.in-Some.draft.places; written = 0 } in
    subst (λ (o : Option DraftedView). IsUp (g.D.Sectors.sectors c.self.inside.disk) (g.D.Sectors.history c.self.inside.disk) stored
    (record service { publication = Some p; drafting = o })) (sym (gone_drafting c.take-moment.new.self c.take-draft.new.self c.take-draft.ensures.after))
    (up_drafted _ _ stored service d c.in-Found.content up (ap (drafted_by c.self.inside.moment) is) there.1.generation there.0 found))

pub returns-in-Refused-clause-begins : goal.returns-in-Refused-clause-begins
returns-in-Refused-clause-begins g c = rw (← c.self.view_is) (λ unbroken none.
    let is = sym c.take-draft.ensures.value ∙ c.in-Some.is in
    let missing : HasNoContent (map_then (moment_map c.self.inside.moment)) (area_sectors c.self.inside.layout.sectors) c.in-Refused.fault =
    subst (IsStage (area_sectors c.self.inside.layout.sectors) (map_then (moment_map c.self.inside.moment))) c.in-Refused.is
    (stage_reached c.in-Some.draft c.take-moment.result c.last_stage-stage.result is c.take-moment.ensures.value c.last_stage-stage.ensures c.self.invariant) in
    subst (λ (o : Option DraftedView). IfSome o (λ d.
    BeginsDrafted c.self.inside.layout.sectors d (Err c.in-Refused.fault) c.self.inside.publication))
    (sym (ap (drafted_by c.self.inside.moment) is)) (none, missing))
