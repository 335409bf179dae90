use Rattle.std.proofs.Common.{◌<◌, ◌-◌, ◌^◌, refl, sym, subst, ◌∙◌}
use Rattle.feature_store.specs.Store.{FeatureMap, IsMap}
use Rattle.tile_service.proofs.Publications.Drafts.{up_begun}
use Rattle.tile_service.proofs.service.Service.begin_draft.Goals as goal

pub returns-in-Ok-clause-up : goal.returns-in-Ok-clause-up
returns-in-Ok-clause-up g c = rw (c.begin-places.ensures.same, c.replace-draft.ensures.after, c.replace-moment.ensures.after, ← c.self.view_is) (λ stored up.
    up_begun _ _ stored _ up (record { start = c.begin-places.result.0; places = c.begin-places.result.1; features = c.moment-now.result.features })
    c.begin-places.ensures.start.0 c.begin-places.ensures.start.1 c.begin-places.ensures.places (c.moment-now.ensures.features ∙ c.store-in-Ok.ensures.features))

pub returns-in-Ok-clause-can : goal.returns-in-Ok-clause-can
returns-in-Ok-clause-can g c = rw (← c.self.view_is) (λ unbroken none. record {
  unbroken = unbroken;
  none = none;
  generation = subst (λ s. s.generation < 2 ^ 64 - 1) (sym c.self.view_is) c.requires.generation;
  ring = c.self.invariant.ring;
  is_map = subst (λ (m : FeatureMap). IsMap m) (c.moment-now.ensures.features ∙ c.store-in-Ok.ensures.features) c.moment-now.ensures.as_of.is_map;
})
