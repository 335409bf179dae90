use Rattle.std.proofs.Common.{refl, sym, subst, arith}
use Rattle.feature_model.specs.Data.{EditData, put, feature_data}
use Rattle.feature_model.specs.Limits.{IsAllowedEdit}
use Rattle.edit_text.specs.Recorded.{FitsVersion}
use Rattle.tile_service.specs.Machine.{single, recorded_in, recorded_change, AnswersEdit, CanMake, Allocates}
use Rattle.tile_service.specs.Runs.{TakesEdit}
use Rattle.tile_service.specs.declared.fault.ServiceFault.TheVariants.{Broken, NumbersSpent, Memory}
use Rattle.tile_service.proofs.Runs.DeviceFaults.{other_fault}
use Rattle.tile_service.proofs.Edits.EditStored.{refuses_edit}
use Rattle.tile_service.proofs.Edits.Limits.{put_allowed, one_fits, put_can, limit_refused}
use Rattle.tile_service.specs.Inside.{service_view}
use Rattle.tile_service.specs.Service.{state_of}
use Rattle.tile_service.proofs.service.Service.put.Goals as goal

pub returns-then-self-clause-takes : goal.returns-then-self-clause-takes
returns-then-self-clause-takes g c = rw (← c.self.view_is)
    (refuses_edit g.D.Sectors.sectors g.D.Sectors.honest g.D.Sectors.history g.D.Sectors.faults _ _ single
    (recorded_change c.self.inside.version (put c.args.id (feature_data c.args.feature))) Broken refl (other_fault Broken refl))

pub returns-in-Err-clause-takes : goal.returns-in-Err-clause-takes
returns-in-Err-clause-takes g c = rw (← c.self.view_is)
    (refuses_edit g.D.Sectors.sectors g.D.Sectors.honest g.D.Sectors.history g.D.Sectors.faults _ _ single
    (recorded_change c.self.inside.version (put c.args.id (feature_data c.args.feature))) c.in-Err.fault refl (λ is. cc c.in-Err.ensures.fault.1))

pub returns-then-self-2-clause-takes : goal.returns-then-self-2-clause-takes
returns-then-self-2-clause-takes g c = rw (← c.self.view_is)
    (refuses_edit g.D.Sectors.sectors g.D.Sectors.honest g.D.Sectors.history g.D.Sectors.faults _ _ single
    (recorded_change c.self.inside.version (put c.args.id (feature_data c.args.feature))) NumbersSpent refl (other_fault NumbersSpent refl))

pub returns-in-Err-single_edit-clause-takes : goal.returns-in-Err-single_edit-clause-takes
returns-in-Err-single_edit-clause-takes g c = rw (← c.self.view_is)
    (refuses_edit g.D.Sectors.sectors g.D.Sectors.honest g.D.Sectors.history g.D.Sectors.faults _ _ single
    (recorded_change c.self.inside.version (put c.args.id (feature_data c.args.feature))) Memory refl (other_fault Memory refl))

pub write_edit-requires-clause-allowed : goal.write_edit-requires-clause-allowed
write_edit-requires-clause-allowed g c =
    subst IsAllowedEdit (sym c.in-Ok-single_edit.ensures.edit) (put_allowed c.args.id (feature_data c.args.feature) c.in-Ok.ensures.ok.allowed)

pub write_edit-requires-clause-fits : goal.write_edit-requires-clause-fits
write_edit-requires-clause-fits g c = subst (λ (cs : EditData). FitsVersion c.args.self.now.version cs) (sym c.in-Ok-single_edit.ensures.edit)
    (one_fits c.args.self.now.version (put c.args.id (feature_data c.args.feature))
    (rw (← c.self.view_is) c.self.invariant.version_is))

pub returns-in-Ok-single_edit-clause-takes : goal.returns-in-Ok-single_edit-clause-takes
returns-in-Ok-single_edit-clause-takes g c = subst (λ (cs : EditData). TakesEdit g.D.Sectors.sectors g.D.Sectors.honest g.D.Sectors.history g.D.Sectors.faults
    c.args.self.now single (recorded_in c.args.self.now.version cs) c.write_edit.result c.write_edit.new.self)
    c.in-Ok-single_edit.ensures.edit (c.write_edit.ensures.takes single)

pub same-self : goal.same-self
same-self g c = refl

pub same-self-in-Err : goal.same-self-in-Err
same-self-in-Err g c = refl

pub same-self-then-self-2 : goal.same-self-then-self-2
same-self-then-self-2 g c = refl

pub same-self-in-Ok-single_edit : goal.same-self-in-Ok-single_edit
same-self-in-Ok-single_edit g c = refl

pub same-self-in-Err-single_edit : goal.same-self-in-Err-single_edit
same-self-in-Err-single_edit g c = refl

pub returns-then-self-clause-machine : goal.returns-then-self-clause-machine
returns-then-self-clause-machine g c = rw (← c.self.view_is) (λ known. (c.if-self.true, refl))

pub write_edit-requires-clause-unbroken : goal.write_edit-requires-clause-unbroken
write_edit-requires-clause-unbroken g c = rw (← c.self.view_is) c.if-self.false

pub write_edit-requires-clause-number : goal.write_edit-requires-clause-number
write_edit-requires-clause-number g c = rw (← c.self.view_is) (omega arith)

pub returns-in-Err-clause-machine : goal.returns-in-Err-clause-machine
returns-in-Err-clause-machine g c = rw (← c.self.view_is) (λ known. limit_refused (state_of known (service_view c.self.inside)) c.args.id
    (feature_data c.args.feature) c.in-Err.fault c.in-Err.ensures.fault.0 c.in-Err.ensures.fault.1 c.if-self.false c.in-Err.ensures.fault.2)

pub returns-then-self-2-clause-machine : goal.returns-then-self-2-clause-machine
returns-then-self-2-clause-machine g c = rw (← c.self.view_is) (λ known. (c.if-self.false, (tt, c.in-Ok.ensures.ok, c.if-self-2.true), refl))

pub returns-in-Ok-single_edit-clause-machine : goal.returns-in-Ok-single_edit-clause-machine
returns-in-Ok-single_edit-clause-machine g c known = subst
    (λ (cs : EditData). AnswersEdit (state_of known c.args.self.now) single (recorded_in c.args.self.now.version cs) c.write_edit.result
    (state_of known c.write_edit.new.self))
    c.in-Ok-single_edit.ensures.edit
    (c.write_edit.ensures.machine known single
    (subst (λ (cs : EditData). CanMake (state_of known c.args.self.now) single (recorded_in c.args.self.now.version cs)) (sym c.in-Ok-single_edit.ensures.edit)
    (rw (← c.self.view_is)
    (put_can (state_of known (service_view c.self.inside)) c.args.id (feature_data c.args.feature) c.in-Ok.ensures.ok (omega arith))))
    (subst (λ (cs : EditData). Allocates single cs) (sym c.in-Ok-single_edit.ensures.edit) tt))

pub returns-in-Err-single_edit-clause-machine : goal.returns-in-Err-single_edit-clause-machine
returns-in-Err-single_edit-clause-machine g c = rw (← c.self.view_is) (λ known. (
  c.if-self.false,
  (tt, put_can (state_of known (service_view c.self.inside)) c.args.id (feature_data c.args.feature) c.in-Ok.ensures.ok (omega arith)),
  refl,
))
