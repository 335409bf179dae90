use Rattle.std.proofs.Common.{◌∙◌, List, map, refl, sym, subst, arith}
use Rattle.std.specs.List.{All}
use Rattle.std.proofs.lemmas.Bool.{false≢true}
use Rattle.feature_model.specs.Data.{change_data}
use Rattle.feature_model.specs.declared.feature.Change.{Change}
use Rattle.feature_store.specs.Store.{FeatureMap}
use Rattle.tile_service.specs.Limits.{KeepsBatchLimits, BreaksBatchLimit}
use Rattle.tile_service.specs.Machine.{batched, recorded_in, HasTarget}
use Rattle.tile_service.specs.declared.fault.ServiceFault.TheVariants.{Broken, NeedsUpgrade, NotFound, NumbersSpent}
use Rattle.tile_service.proofs.Runs.DeviceFaults.{other_fault}
use Rattle.tile_service.proofs.Edits.BatchLimits.{lacks_from}
use Rattle.tile_service.proofs.Edits.EditStored.{refuses_edit}
use Rattle.tile_service.proofs.Edits.Limits.{is_later, many_fit, breaks_refused, batch_can}
use Rattle.tile_service.specs.Inside.{service_view}
use Rattle.tile_service.specs.Service.{state_of}
use Rattle.tile_service.proofs.service.Service.batch.Goals as goal

pub returns-then-self-clause-takes : goal.returns-then-self-clause-takes
returns-then-self-clause-takes g c = rw (← c.self.view_is)
    (refuses_edit g.D.Sectors.sectors g.D.Sectors.honest g.D.Sectors.history g.D.Sectors.faults _ _ batched
    (recorded_in c.self.inside.version (map change_data c.args.changes.items)) Broken refl (other_fault Broken refl))

pub returns-then-self-eq-FIRST_VERSION-clause-takes : goal.returns-then-self-eq-FIRST_VERSION-clause-takes
returns-then-self-eq-FIRST_VERSION-clause-takes g c = rw (← c.self.view_is)
    (refuses_edit g.D.Sectors.sectors g.D.Sectors.honest g.D.Sectors.history g.D.Sectors.faults _ _ batched
    (recorded_in c.self.inside.version (map change_data c.args.changes.items)) NeedsUpgrade refl (other_fault NeedsUpgrade refl))

pub returns-in-Err-clause-takes : goal.returns-in-Err-clause-takes
returns-in-Err-clause-takes g c = rw (← c.self.view_is)
    (refuses_edit g.D.Sectors.sectors g.D.Sectors.honest g.D.Sectors.history g.D.Sectors.faults _ _ batched
    (recorded_in c.self.inside.version (map change_data c.args.changes.items)) c.in-Err.fault refl (λ is. cc c.in-Err.ensures.fault.1))

pub returns-then-not-has_targets-clause-machine : goal.returns-then-not-has_targets-clause-machine
returns-then-not-has_targets-clause-machine g c = rw (← c.self.view_is) (λ known.
    let keeps : KeepsBatchLimits (map change_data c.args.changes.items) =
    subst (λ (cs : List Change). KeepsBatchLimits (map change_data cs)) c.deref.ensures.value c.in-Ok.ensures.ok in (
      c.if-self.false,
      (
        is_later c.self.inside.version c.self.invariant.version_is c.if-self-eq-FIRST_VERSION.false,
        (
          keeps,
          lacks_from c.self.inside.map.features (map change_data c.args.changes.items) (λ all. false≢true (sym c.if-not-has_targets.true
              ∙ c.has_targets.ensures.1 (subst (λ (cs : List Change). All (HasTarget c.store.result.now.features) (map change_data cs))
              (sym c.deref-2.ensures.value)
              (subst (λ (m : FeatureMap). All (HasTarget m) (map change_data c.args.changes.items)) (sym c.store.ensures.features) all)))),
        ),
      ),
      refl,
    ))

pub returns-then-not-has_targets-clause-takes : goal.returns-then-not-has_targets-clause-takes
returns-then-not-has_targets-clause-takes g c = rw (← c.self.view_is)
    (refuses_edit g.D.Sectors.sectors g.D.Sectors.honest g.D.Sectors.history g.D.Sectors.faults _ _ batched
    (recorded_in c.self.inside.version (map change_data c.args.changes.items)) NotFound refl (other_fault NotFound refl))

pub returns-then-self-2-clause-takes : goal.returns-then-self-2-clause-takes
returns-then-self-2-clause-takes g c = rw (← c.self.view_is)
    (refuses_edit g.D.Sectors.sectors g.D.Sectors.honest g.D.Sectors.history g.D.Sectors.faults _ _ batched
    (recorded_in c.self.inside.version (map change_data c.args.changes.items)) NumbersSpent refl (other_fault NumbersSpent refl))

pub returns-clause-takes : goal.returns-clause-takes
returns-clause-takes g c = c.write_edit.ensures.takes batched

pub returns-then-self-clause-machine : goal.returns-then-self-clause-machine
returns-then-self-clause-machine g c = rw (← c.self.view_is) (λ known. (c.if-self.true, refl))

pub returns-then-self-eq-FIRST_VERSION-clause-machine : goal.returns-then-self-eq-FIRST_VERSION-clause-machine
returns-then-self-eq-FIRST_VERSION-clause-machine g c = rw (← c.self.view_is) (λ known. (c.if-self.false, (refl, c.if-self-eq-FIRST_VERSION.true), refl))

pub returns-in-Err-clause-machine : goal.returns-in-Err-clause-machine
returns-in-Err-clause-machine g c = rw (← c.self.view_is) (λ known. breaks_refused (state_of known (service_view c.self.inside))
    (map change_data c.args.changes.items) c.in-Err.fault c.in-Err.ensures.fault.0 c.in-Err.ensures.fault.1 c.if-self.false
    (is_later c.self.inside.version c.self.invariant.version_is c.if-self-eq-FIRST_VERSION.false)
    (subst (λ (cs : List Change). BreaksBatchLimit (map change_data cs) c.in-Err.ensures.fault.0) c.deref.ensures.value c.in-Err.ensures.fault.2))

pub write_edit-requires-clause-unbroken : goal.write_edit-requires-clause-unbroken
write_edit-requires-clause-unbroken g c = rw (← c.self.view_is) c.if-self.false

pub write_edit-requires-clause-allowed : goal.write_edit-requires-clause-allowed
write_edit-requires-clause-allowed g c = (subst (λ (cs : List Change). KeepsBatchLimits (map change_data cs)) c.deref.ensures.value c.in-Ok.ensures.ok).allowed

pub write_edit-requires-clause-fits : goal.write_edit-requires-clause-fits
write_edit-requires-clause-fits g c = rw (← c.self.view_is)
    (many_fit c.self.inside.version (map change_data c.args.changes.items) c.self.invariant.version_is c.if-self-eq-FIRST_VERSION.false)

pub same-self : goal.same-self
same-self g c = refl

pub same-self-then-self-eq-FIRST_VERSION : goal.same-self-then-self-eq-FIRST_VERSION
same-self-then-self-eq-FIRST_VERSION g c = refl

pub same-self-in-Err : goal.same-self-in-Err
same-self-in-Err g c = refl

pub same-self-then-not-has_targets : goal.same-self-then-not-has_targets
same-self-then-not-has_targets g c = refl

pub same-self-then-self-2 : goal.same-self-then-self-2
same-self-then-self-2 g c = refl

pub same-self-2 : goal.same-self-2
same-self-2 g c = refl

pub write_edit-requires-clause-number : goal.write_edit-requires-clause-number
write_edit-requires-clause-number g c = rw (← c.self.view_is) (omega arith)

pub returns-then-self-2-clause-machine : goal.returns-then-self-2-clause-machine
returns-then-self-2-clause-machine g c = rw (← c.self.view_is) (λ known. (
  c.if-self.false,
  (
    is_later c.self.inside.version c.self.invariant.version_is c.if-self-eq-FIRST_VERSION.false,
    (
      subst (λ (cs : List Change). KeepsBatchLimits (map change_data cs)) c.deref.ensures.value c.in-Ok.ensures.ok,
      subst (λ (m : FeatureMap). All (HasTarget m) (map change_data c.args.changes.items)) c.store.ensures.features
          (subst (λ (cs : List Change). All (HasTarget c.store.result.now.features) (map change_data cs)) c.deref-2.ensures.value
          (c.has_targets.ensures.0 c.if-not-has_targets.false)),
    ),
    c.if-self-2.true,
  ),
  refl,
))

pub returns-clause-machine : goal.returns-clause-machine
returns-clause-machine g c = λ known. c.write_edit.ensures.machine known batched (rw (← c.self.view_is)
    (batch_can (state_of known (service_view c.self.inside)) (map change_data c.args.changes.items) c.self.invariant.version_is
    c.if-self-eq-FIRST_VERSION.false
    (subst (λ (cs : List Change). KeepsBatchLimits (map change_data cs)) c.deref.ensures.value c.in-Ok.ensures.ok)
    (subst (λ (m : FeatureMap). All (HasTarget m) (map change_data c.args.changes.items)) c.store.ensures.features
    (subst (λ (cs : List Change). All (HasTarget c.store.result.now.features) (map change_data cs)) c.deref-2.ensures.value
    (c.has_targets.ensures.0 c.if-not-has_targets.false)))
    (omega arith))) tt
