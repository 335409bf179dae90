use Rattle.std.proofs.Common.{◌≡◌, ◌+◌, ◌∙◌, refl, ap, subst, arith, Some, sym, ℕ}
use Rattle.std.specs.Prelude.{None, option_map}
use Rattle.feature_store.specs.Store.{IsMap, snapshot}
use Rattle.tile_service.specs.Machine.{IsPublishable}
use Rattle.tile_service.specs.Stored.{IsMapArchive}
use Rattle.tile_service.specs.Inside.{service_view}
use Rattle.tile_service.specs.Service.{PublicationView, going_of, state_of}
use Rattle.tile_service.proofs.Publications.Steps.{archive_of_publishable, up_with, begins_publishing, begins_told, begin_refused, none_there, still_there}
use Rattle.generations.specs.Areas.{area_sectors}
use Rattle.tile_service.specs.Publishing.{HasNoContent}
use Rattle.tile_service.proofs.service.Service.publish_begin.Goals as goal

pub returns-in-Ok-clause-machine : goal.returns-in-Ok-clause-machine
returns-in-Ok-clause-machine g c = rw (c.begin-places.ensures.same, ← c.self.view_is) (λ known.
    let none : c.self.inside.publication ≡ None = none_there c.self.inside.publication (sym c.is_some.ensures ∙ c.if-is_some.false) in
    begins_told {D = g.row.D.Denot} known (service_view c.self.inside)
    (record { content = c.in-Ok.content; start = c.begin-places.result.0; places = c.begin-places.result.1; written = 0 })
    (c.sectors-left.result + 1) c.if-self.false none (omega arith)
    (subst (λ m. IsPublishable m c.in-Ok.content.archive) c.store.ensures.features c.in-Ok.ensures.archive)
    (c.in-Ok.ensures.snapshot ∙ ap (λ m. snapshot m) c.store.ensures.features)
    (omega (arith, c.in-Ok.ensures.fits, c.self.inside.layout.area_is)) c.self.invariant.ring c.begin-places.ensures.start.1 c.begin-places.ensures.places refl
    (omega (arith, c.sectors-left.ensures)))

pub returns-in-Ok-clause-up : goal.returns-in-Ok-clause-up
returns-in-Ok-clause-up g c = rw (c.begin-places.ensures.same, ← c.self.view_is) (λ stored up.
    let p : PublicationView = record { content = c.in-Ok.content; start = c.begin-places.result.0; places = c.begin-places.result.1; written = 0 } in
    up_with _ _ stored _ up (Some p) (begins_publishing _ _ stored _ up p (subst (λ m. IsMap m) c.store.ensures.features c.content_for.ensures.map)
    (subst (λ m. IsMapArchive m c.in-Ok.content.archive) c.store.ensures.features
    (archive_of_publishable c.store.result.now.features c.in-Ok.content.archive c.in-Ok.ensures.archive))
    (c.in-Ok.ensures.snapshot ∙ ap (λ m. snapshot m) c.store.ensures.features)
    (omega (arith, c.in-Ok.ensures.fits, c.self.inside.layout.area_is)) (omega arith) c.self.invariant.ring c.begin-places.ensures.start.0 c.begin-places.ensures.start.1
    c.begin-places.ensures.places refl))

-- nothing is changed by a beginning that is refused

pub returns-then-self-clause-same : goal.returns-then-self-clause-same
returns-then-self-clause-same g c = refl

pub returns-then-self-clause-refused : goal.returns-then-self-clause-refused
returns-then-self-clause-refused g c = refl

pub returns-then-self-clause-up : goal.returns-then-self-clause-up
returns-then-self-clause-up g c = λ stored up. up

pub returns-then-is_some-clause-same : goal.returns-then-is_some-clause-same
returns-then-is_some-clause-same g c = refl

pub returns-then-is_some-clause-refused : goal.returns-then-is_some-clause-refused
returns-then-is_some-clause-refused g c = refl

pub returns-then-is_some-clause-up : goal.returns-then-is_some-clause-up
returns-then-is_some-clause-up g c = λ stored up. up

pub returns-then-self-2-clause-same : goal.returns-then-self-2-clause-same
returns-then-self-2-clause-same g c = refl

pub returns-then-self-2-clause-refused : goal.returns-then-self-2-clause-refused
returns-then-self-2-clause-refused g c = refl

pub returns-then-self-2-clause-up : goal.returns-then-self-2-clause-up
returns-then-self-2-clause-up g c = λ stored up. up

pub returns-in-Err-clause-same : goal.returns-in-Err-clause-same
returns-in-Err-clause-same g c = rw (← c.self.view_is) refl

pub returns-in-Err-clause-refused : goal.returns-in-Err-clause-refused
returns-in-Err-clause-refused g c = rw (← c.self.view_is) refl

pub returns-in-Err-clause-up : goal.returns-in-Err-clause-up
returns-in-Err-clause-up g c = rw (← c.self.view_is) (λ stored up. up)

pub returns-then-self-clause-machine : goal.returns-then-self-clause-machine
returns-then-self-clause-machine g c = rw (← c.self.view_is) (λ known. (c.if-self.true, refl))

pub returns-then-is_some-clause-machine : goal.returns-then-is_some-clause-machine
returns-then-is_some-clause-machine g c = rw (← c.self.view_is) (λ known. (
  c.if-self.false,
  still_there (going_of known.publishing) c.self.inside.publication (sym c.is_some.ensures ∙ c.if-is_some.true),
  refl,
))

pub returns-then-self-2-clause-machine : goal.returns-then-self-2-clause-machine
returns-then-self-2-clause-machine g c = rw (← c.self.view_is) (λ known. (
  c.if-self.false,
  (ap (option_map (going_of known.publishing)) (none_there c.self.inside.publication (sym c.is_some.ensures ∙ c.if-is_some.false)), c.if-self-2.true),
  refl,
))

pub returns-in-Ok-clause-same : goal.returns-in-Ok-clause-same
returns-in-Ok-clause-same g c = rw (c.begin-places.ensures.same, ← c.self.view_is) refl

pub returns-in-Err-clause-machine : goal.returns-in-Err-clause-machine
returns-in-Err-clause-machine g c = rw (← c.self.view_is) (λ known. begin_refused (state_of known (service_view c.self.inside)) c.in-Err.fault c.if-self.false
    (record {
      none = ap (option_map (going_of known.publishing)) (none_there c.self.inside.publication (sym c.is_some.ensures ∙ c.if-is_some.false));
      generation = omega arith;
    })
    (subst (λ m. HasNoContent m (area_sectors c.self.inside.layout.sectors) c.in-Err.fault) c.store.ensures.features
    (subst (λ (n : ℕ). HasNoContent c.store.result.now.features n c.in-Err.fault) c.self.inside.layout.area_is c.in-Err.ensures.fault)))

pub same-self : goal.same-self
same-self g c = refl

pub same-self-then-is_some : goal.same-self-then-is_some
same-self-then-is_some g c = refl

pub same-self-then-self-2 : goal.same-self-then-self-2
same-self-then-self-2 g c = refl

pub content_for-requires : goal.content_for-requires
content_for-requires g c = omega (arith, c.self.inside.layout.fits, c.self.inside.layout.size.1)

pub overflow_add-left : goal.overflow_add-left
overflow_add-left g c = omega (arith, c.sectors-left.ensures, c.in-Ok.ensures.fits, c.self.inside.layout.fits, c.self.inside.layout.size.1)
