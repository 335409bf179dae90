use Rattle.std.proofs.Common.{inl, ◌≡◌, inr, Option, OnOk, refl, sym, ◌∙◌, ap, subst, arith}
use Rattle.sector_disk.proofs.History.{started}
use Rattle.std.specs.Prelude.{IfSome, option_map}
use Rattle.sector_disk.specs.Moments.{LeavesOnly}
use Rattle.tile_service.specs.Inside.{service_view}
use Rattle.tile_service.specs.Machine.{AnswersStep, step}
use Rattle.tile_service.specs.Service.{PublicationView, IsGoing, IsUp, KeepsDraft, EventLeaves}
use Rattle.tile_service.specs.Service.{going_of, known_stepped, state_of, stored_after, with_publication}
use Rattle.tile_service.specs.declared.fault.ServiceFault.TheVariants.{Broken, Idle}
use Rattle.tile_service.proofs.Runs.DeviceFaults.{other_fault}
use Rattle.tile_service.proofs.Archive.Unchanged.{keeps_on, shows_the_same}
use Rattle.tile_service.proofs.Publications.Steps.{service_idle, tells_device, no_other_fault}
use Rattle.tile_service.proofs.Edits.ShownEdits.{shows_on}
use Rattle.tile_service.proofs.service.Service.publish_step.Goals as goal

pub returns-in-None-clause-any_moment : goal.returns-in-None-clause-any_moment
returns-in-None-clause-any_moment g c = rw (← c.self.view_is) (λ stored honest up.
    started (g.D.Sectors.history c.self.inside.disk) _ (λ image may. inl (up.keeps image may)))

-- of a broken service

pub returns-then-self-clause-machine : goal.returns-then-self-clause-machine
returns-then-self-clause-machine g c = rw (← c.self.view_is) (λ known. (c.if-self.true, refl))

pub returns-then-self-clause-size : goal.returns-then-self-clause-size
returns-then-self-clause-size g c = refl

pub returns-then-self-clause-disk : goal.returns-then-self-clause-disk
returns-then-self-clause-disk g c = record { same_count = refl; was_honest = λ is_honest. is_honest }

pub returns-then-self-clause-failed : goal.returns-then-self-clause-failed
returns-then-self-clause-failed g c = inr (other_fault Broken refl, refl)

pub returns-then-self-clause-refused : goal.returns-then-self-clause-refused
returns-then-self-clause-refused g c = λ other. refl

pub returns-then-self-clause-archive : goal.returns-then-self-clause-archive
returns-then-self-clause-archive g c = λ other. shows_the_same g.D.Sectors.honest g.D.Sectors.history c.args.self.now c.args.self.now.publication

pub returns-then-self-clause-area : goal.returns-then-self-clause-area
returns-then-self-clause-area g c = λ honest at inside. refl

pub returns-then-self-clause-steps : goal.returns-then-self-clause-steps
returns-then-self-clause-steps g c = λ honest. omega arith

pub returns-then-self-clause-any_moment : goal.returns-then-self-clause-any_moment
returns-then-self-clause-any_moment g c = λ stored honest up. started (g.D.Sectors.history c.args.self.now.disk) _ (λ image may. inl (up.keeps image may))

-- without a publication

pub invariant_of-self : goal.invariant_of-self
invariant_of-self g c = service_idle c.take.new.self c.take.ensures.after c.self.invariant

-- the service is as it was
idle : (g : _) (c : goal.In-None g) → service_view (record c.self.inside { publication = c.take.new.self }) ≡ service_view c.self.inside
idle g c = ap (λ p. service_view (record c.self.inside { publication = p })) (c.take.ensures.after ∙ sym c.in-None.is ∙ c.take.ensures.value)

pub returns-in-None-clause-machine : goal.returns-in-None-clause-machine
returns-in-None-clause-machine g c = rw (← c.self.view_is)
    (λ known. (c.if-self.false, ap (option_map (going_of known.publishing)) (sym c.take.ensures.value ∙ c.in-None.is), ap (state_of known) (idle g c)))

pub returns-in-None-clause-size : goal.returns-in-None-clause-size
returns-in-None-clause-size g c = ap (λ s. s.size) c.self.view_is

pub returns-in-None-clause-disk : goal.returns-in-None-clause-disk
returns-in-None-clause-disk g c = rw (← c.self.view_is) (record { same_count = refl; was_honest = λ is_honest. is_honest })

pub returns-in-None-clause-failed : goal.returns-in-None-clause-failed
returns-in-None-clause-failed g c = rw (← c.self.view_is) (inr (other_fault Idle refl, refl))

pub returns-in-None-clause-refused : goal.returns-in-None-clause-refused
returns-in-None-clause-refused g c = λ other. idle g c ∙ c.self.view_is

pub returns-in-None-clause-archive : goal.returns-in-None-clause-archive
returns-in-None-clause-archive g c = rw (← c.self.view_is)
    (λ other. shows_the_same g.D.Sectors.honest g.D.Sectors.history (service_view c.self.inside) c.take.new.self)

pub returns-in-None-clause-area : goal.returns-in-None-clause-area
returns-in-None-clause-area g c = rw (← c.self.view_is) (λ honest at inside. refl)

pub returns-in-None-clause-steps : goal.returns-in-None-clause-steps
returns-in-None-clause-steps g c = rw (← c.self.view_is) (λ honest. omega arith)

-- with one

pub invariant_of-self-in-Some : goal.invariant_of-self-in-Some
invariant_of-self-in-Some g c = service_idle c.take.new.self c.take.ensures.after c.self.invariant

pub advance-requires-clause-none : goal.advance-requires-clause-none
advance-requires-clause-none g c = c.take.ensures.after

pub advance-requires-clause-unbroken : goal.advance-requires-clause-unbroken
advance-requires-clause-unbroken g c = c.if-self.false

pub advance-requires-clause-going : goal.advance-requires-clause-going
advance-requires-clause-going g c = (
  c.self.inside.root,
  refl,
  subst (λ (p : Option PublicationView). IfSome p (IsGoing c.self.inside.layout.sectors c.self.inside.root c.self.inside.journal c.self.inside.map.features))
      (sym c.take.ensures.value ∙ c.in-Some.is) c.self.invariant.going,
)

-- the service with the publication is what it was before that was taken out
with_it : (g : _) (c : goal.After-advance g)
    → with_publication (service_view (record c.self.inside { publication = c.take.new.self })) c.in-Some.publication ≡ service_view c.self.inside
with_it g c = ap (λ p. record (service_view c.self.inside) { publication = p }) (sym c.in-Some.is ∙ c.take.ensures.value)

pub returns-in-Some-clause-machine : goal.returns-in-Some-clause-machine
returns-in-Some-clause-machine g c = rw (← c.self.view_is) (λ known. subst (λ s. AnswersStep (state_of known s) c.advance.result
    (state_of (known_stepped known s.publication c.advance.result) c.advance.new.self)) (with_it g c) (c.advance.ensures.machine known))

pub returns-in-Some-clause-size : goal.returns-in-Some-clause-size
returns-in-Some-clause-size g c = c.advance.ensures.size ∙ ap (λ s. s.size) c.self.view_is

pub returns-in-Some-clause-disk : goal.returns-in-Some-clause-disk
returns-in-Some-clause-disk g c = rw (← c.self.view_is) c.advance.ensures.disk

pub returns-in-Some-clause-failed : goal.returns-in-Some-clause-failed
returns-in-Some-clause-failed g c = rw (← c.self.view_is) (tells_device c.advance.result _ _ c.advance.ensures.fault c.advance.ensures.failed)

pub returns-in-Some-clause-refused : goal.returns-in-Some-clause-refused
returns-in-Some-clause-refused g c = no_other_fault c.advance.result _ c.advance.ensures.fault

pub returns-in-Some-clause-archive : goal.returns-in-Some-clause-archive
returns-in-Some-clause-archive g c = rw (← c.self.view_is) (λ other. keeps_on g.D.Sectors.honest g.D.Sectors.history
    (service_view c.self.inside) (service_view (record c.self.inside { publication = c.take.new.self }))
    c.advance.new.self (shows_the_same g.D.Sectors.honest g.D.Sectors.history (service_view c.self.inside) c.take.new.self) c.advance.ensures.disk.was_honest
    (c.advance.ensures.archive other))

pub returns-in-Some-clause-area : goal.returns-in-Some-clause-area
returns-in-Some-clause-area g c = rw (← c.self.view_is) c.advance.ensures.area

pub returns-in-Some-clause-steps : goal.returns-in-Some-clause-steps
returns-in-Some-clause-steps g c = rw (← c.self.view_is) c.advance.ensures.steps

pub returns-in-Some-clause-any_moment : goal.returns-in-Some-clause-any_moment
returns-in-Some-clause-any_moment g c = rw (← c.self.view_is) (λ stored honest.
    subst (λ s. IsUp (g.D.Sectors.sectors s.disk) (g.D.Sectors.history s.disk) stored s
    → LeavesOnly (g.D.Sectors.history s.disk) (g.D.Sectors.history c.advance.new.self.disk)
    (EventLeaves (g.D.Sectors.sectors s.disk) s.size stored s.publication (step c.advance.result)))
    (with_it g c) (c.advance.ensures.any_moment stored honest))

pub returns-in-Some-clause-after : goal.returns-in-Some-clause-after
returns-in-Some-clause-after g c = rw (← c.self.view_is) (λ stored honest.
    subst (λ s. IsUp (g.D.Sectors.sectors s.disk) (g.D.Sectors.history s.disk) stored s
    → OnOk c.advance.result (IsUp (g.D.Sectors.sectors c.advance.new.self.disk) (g.D.Sectors.history c.advance.new.self.disk)
    (stored_after s.size stored s.publication (step c.advance.result)) c.advance.new.self))
    (with_it g c) (c.advance.ensures.after stored honest))

pub returns-then-self-clause-touched : goal.returns-then-self-clause-touched
returns-then-self-clause-touched g c = refl

pub returns-in-None-clause-touched : goal.returns-in-None-clause-touched
returns-in-None-clause-touched g c = ap (λ s. s.touched) c.self.view_is

pub returns-in-Some-clause-touched : goal.returns-in-Some-clause-touched
returns-in-Some-clause-touched g c = c.advance.ensures.touched ∙ ap (λ s. s.touched) c.self.view_is

pub returns-then-self-clause-drafting : goal.returns-then-self-clause-drafting
returns-then-self-clause-drafting g c = inl refl

pub returns-in-None-clause-drafting : goal.returns-in-None-clause-drafting
returns-in-None-clause-drafting g c = inl (ap (λ s. s.drafting) c.self.view_is)

pub returns-in-Some-clause-drafting : goal.returns-in-Some-clause-drafting
returns-in-Some-clause-drafting g c =
    subst (λ o. KeepsDraft o c.advance.new.self.drafting) (ap (λ s. s.drafting) c.self.view_is) c.advance.ensures.drafting

-- ---- the edits that it shows

pub returns-then-self-clause-edits : goal.returns-then-self-clause-edits
returns-then-self-clause-edits g c = λ installs edits shows honest. (refl, shows)

pub returns-in-None-clause-edits : goal.returns-in-None-clause-edits
returns-in-None-clause-edits g c = rw (← c.self.view_is) (λ installs edits shows honest.
    (refl, shows_on (service_view c.self.inside) _ _ _ edits refl refl refl (λ at inside. refl) shows))

pub returns-in-Some-clause-edits : goal.returns-in-Some-clause-edits
returns-in-Some-clause-edits g c = rw (← c.self.view_is) (λ installs edits shows honest. c.advance.ensures.edits
    (λ is. let up = installs is in (
      up.0,
      subst (λ s. IsUp (g.D.Sectors.sectors s.disk) (g.D.Sectors.history s.disk) up.0 s) (sym (with_it g c)) up.1,
    )) edits
    (shows_on (service_view c.self.inside) (service_view (record c.self.inside { publication = c.take.new.self })) _ _ edits refl refl refl
    (λ at inside. refl) shows) honest)
