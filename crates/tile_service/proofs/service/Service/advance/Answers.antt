use Rattle.std.proofs.Common.{inl, true, Ok, Err, ◌+◌, ◌-◌, ◌≤◌, min, refl, sym, ◌∙◌, ap, subst, arith, ℕ, suc, ◌≡◌, Some, Result, OnOk}
use Rattle.std.specs.Prelude.{IfOk}
use Rattle.area_content.specs.Content.{sectors_taken}
use Rattle.tile_service.specs.Inside.{publication_view, service_view}
use Rattle.tile_service.specs.Service.{ServiceView, PublicationView, IsUp, KeepsDraft, with_publication}
use Rattle.tile_service.specs.declared.fault.ServiceFault.TheVariants.{Device}
use Rattle.tile_service.proofs.Archive.Unchanged.{beside_keeps, install_keeps, beside_area, ring_beside}
use Rattle.tile_service.proofs.Publications.Steps.{up_further, step_leaves, last_step_leaves, up_after_step, up_after_last, step_told, last_step_told}
use Rattle.tile_service.proofs.Publications.Steps.{step_fails, service_on_disk, service_with, going_seen, going_further}
use Rattle.tile_service.proofs.Edits.ShownEdits.{shows_on}
use Rattle.tile_service.specs.declared.fault.ServiceFault.{ServiceFault}
use Rattle.sector_disk.specs.Asked.{TellsFailure}
use Rattle.sector_disk.proofs.AskedLaws.{writes_on}
use Rattle.tile_service.specs.declared.publishing.TheConstants.{STEP_SECTORS}
use Rattle.tile_service.proofs.service.Service.advance.Goals as goal

-- ---- numbers

next_one : (n : ℕ) → n + 1 ≡ suc n
next_one n = omega arith

next_of : (n m : ℕ) → n ≡ m → n + 1 ≡ suc m
next_of n m is = next_one n ∙ ap suc is

-- of the sectors that are taken, those before `written` are written
module _ (taken sectors written : ℕ) (is : sectors ≡ taken) where
  last_left : sectors - written ≤ STEP_SECTORS → taken + 1 - written ≤ STEP_SECTORS + 1
  last_left few = omega (arith, is, few)

  module _ (more : ℕ) (more_is : more ≡ min (sectors - written) STEP_SECTORS) where
    more_within : written ≤ taken → written + more ≤ taken
    more_within within = omega (arith, is, more_is, within)

    more_all : written ≤ taken → sectors - written ≤ STEP_SECTORS → written + more ≡ taken
    more_all within few = omega (arith, is, more_is, within, few)

few_steps : (old new from more left : ℕ) → new + from ≤ old + (from + more) + 1 → more ≡ min left STEP_SECTORS → new ≤ old + 67
few_steps old new from more left steps more_is = omega (arith, steps, more_is)

last_steps : (old between new from more left : ℕ) → new ≤ between + 3 → between + from ≤ old + (from + more) → more ≡ min left STEP_SECTORS → new ≤ old + 67
last_steps old between new from more left root steps more_is = omega (arith, root, steps, more_is)

-- ---- the answers

pub returns-in-Err-clause-any_moment : goal.returns-in-Err-clause-any_moment
returns-in-Err-clause-any_moment g c = rw (← c.self.view_is, ← c.publication.view_is) (λ stored honest up.
    let p : PublicationView = publication_view c.publication.inside in
    step_leaves _ _ stored p _ _ (Err Device)
    (c.write_sectors.ensures.leaves stored honest (next_of _ _ up.generation_is) up.keeps))

pub returns-then-left-le-STEP_SECTORS-clause-machine : goal.returns-then-left-le-STEP_SECTORS-clause-machine
returns-then-left-le-STEP_SECTORS-clause-machine g c = rw (← c.self.view_is, ← c.publication.view_is) (λ known.
    let service : ServiceView g.row.D.Denot = service_view c.self.inside in
    let p : PublicationView = publication_view c.publication.inside in
    last_step_told known service p (ap (λ s. s.broken) c.self.view_is ∙ c.requires.unbroken)
    (c.publication.inside.written + c.min-more.result) c.install_now.result c.install_now.new.self.disk c.install_now.new.self
    (ap (λ s. s.publication) c.self.view_is ∙ c.requires.none)
    c.install_now.ensures.told c.install_now.ensures.fault (last_left _ _ _ c.sectors.ensures c.if-left-le-STEP_SECTORS.true) c.install_now.ensures.broken
    (c.install_now.ensures.state known))

pub returns-then-left-le-STEP_SECTORS-clause-any_moment : goal.returns-then-left-le-STEP_SECTORS-clause-any_moment
returns-then-left-le-STEP_SECTORS-clause-any_moment g c = rw (← c.self.view_is, ← c.publication.view_is) (λ stored honest up.
    let service : ServiceView g.row.D.Denot = service_view c.self.inside in
    let p : PublicationView = publication_view c.publication.inside in
    let written = c.install_now.ensures.disk.was_honest honest in
    let between : IsUp (g.D.Sectors.sectors c.write_sectors.new.disk) (g.D.Sectors.history c.write_sectors.new.disk) stored
    (with_publication (record service { disk = c.write_sectors.new.disk }) (record p { written = c.publication.inside.written + c.min-more.result })) =
    up_further _ _ _ _ stored service p (c.self.inside.root.generation + 1) (c.publication.inside.written + c.min-more.result) c.write_sectors.new.disk up
    c.write_sectors.ensures.disk.same_count refl (c.write_sectors.ensures.keeps stored written (next_of _ _ up.generation_is) up.keeps)
    (c.in-Ok.ensures.first written)
    (ring_beside _ _ _ _ _ c.self.invariant.ring (c.write_sectors.ensures.beside written)) in
    last_step_leaves _ _ stored p _ _ _ _ c.install_now.result c.write_sectors.ensures.disk.same_count c.install_now.ensures.told
    c.install_now.ensures.fault (last_left _ _ _ c.sectors.ensures c.if-left-le-STEP_SECTORS.true)
    (c.write_sectors.ensures.leaves stored written (next_of _ _ up.generation_is) up.keeps)
    (c.install_now.ensures.any_moment stored honest between))

pub returns-then-left-le-STEP_SECTORS-clause-after : goal.returns-then-left-le-STEP_SECTORS-clause-after
returns-then-left-le-STEP_SECTORS-clause-after g c = rw (← c.self.view_is, ← c.publication.view_is) (λ stored honest up.
    let service : ServiceView g.row.D.Denot = service_view c.self.inside in
    let p : PublicationView = publication_view c.publication.inside in
    let written = c.install_now.ensures.disk.was_honest honest in
    let between : IsUp (g.D.Sectors.sectors c.write_sectors.new.disk) (g.D.Sectors.history c.write_sectors.new.disk) stored
    (with_publication (record service { disk = c.write_sectors.new.disk }) (record p { written = c.publication.inside.written + c.min-more.result })) =
    up_further _ _ _ _ stored service p (c.self.inside.root.generation + 1) (c.publication.inside.written + c.min-more.result) c.write_sectors.new.disk up
    c.write_sectors.ensures.disk.same_count refl (c.write_sectors.ensures.keeps stored written (next_of _ _ up.generation_is) up.keeps)
    (c.in-Ok.ensures.first written)
    (ring_beside _ _ _ _ _ c.self.invariant.ring (c.write_sectors.ensures.beside written)) in
    up_after_last _ stored p _ _ c.install_now.new.self c.install_now.result c.install_now.ensures.told
    (c.install_now.ensures.after stored honest between))

pub returns-clause-machine : goal.returns-clause-machine
returns-clause-machine g c = rw (← c.self.view_is, ← c.publication.view_is) (λ known.
    let service : ServiceView g.row.D.Denot = service_view c.self.inside in
    let p : PublicationView = publication_view c.publication.inside in
    let within : c.publication.inside.written ≤ sectors_taken c.publication.inside.content =
    subst (λ (q : PublicationView). q.written ≤ sectors_taken q.content) (sym c.publication.view_is) c.requires.going.2.written in
    step_told known service p (ap (λ s. s.broken) c.self.view_is ∙ c.requires.unbroken)
    (c.publication.inside.written + c.min-more.result) (c.left-rest.result + 1) c.write_sectors.new.disk
    (omega (arith, c.sectors.ensures)) (omega (arith, c.sectors.ensures, c.min-more.ensures, c.left-rest.ensures, within))
    (omega (arith, c.min-more.ensures)))

pub returns-clause-any_moment : goal.returns-clause-any_moment
returns-clause-any_moment g c = rw (← c.self.view_is, ← c.publication.view_is) (λ stored honest up.
    let p : PublicationView = publication_view c.publication.inside in
    step_leaves _ _ stored p _ _ (Ok (c.left-rest.result + 1))
    (c.write_sectors.ensures.leaves stored honest (next_of _ _ up.generation_is) up.keeps))

pub returns-clause-after : goal.returns-clause-after
returns-clause-after g c = rw (← c.self.view_is, ← c.publication.view_is) (λ stored written up.
    let service : ServiceView g.row.D.Denot = service_view c.self.inside in
    let p : PublicationView = publication_view c.publication.inside in
    let between : IsUp (g.D.Sectors.sectors c.write_sectors.new.disk) (g.D.Sectors.history c.write_sectors.new.disk) stored
    (with_publication (record service { disk = c.write_sectors.new.disk }) (record p { written = c.publication.inside.written + c.min-more.result })) =
    up_further _ _ _ _ stored service p (c.self.inside.root.generation + 1) (c.publication.inside.written + c.min-more.result) c.write_sectors.new.disk up
    c.write_sectors.ensures.disk.same_count refl (c.write_sectors.ensures.keeps stored written (next_of _ _ up.generation_is) up.keeps)
    (c.in-Ok.ensures.first written)
    (ring_beside _ _ _ _ _ c.self.invariant.ring (c.write_sectors.ensures.beside written)) in
    up_after_step _ stored p _ _ _ (c.left-rest.result + 1) (omega arith) between)

pub returns-in-Err-clause-archive : goal.returns-in-Err-clause-archive
returns-in-Err-clause-archive g c other =
    beside_keeps g.D.Sectors.honest g.D.Sectors.history _ _ (sym c.self.view_is) c.write_sectors.new.disk c.self.inside.publication true
    (c.self.inside.root.generation + 1) c.self.invariant.area (next_one _) c.write_sectors.ensures.beside c.self.invariant.ring

pub returns-then-left-le-STEP_SECTORS-clause-archive : goal.returns-then-left-le-STEP_SECTORS-clause-archive
returns-then-left-le-STEP_SECTORS-clause-archive g c = install_keeps g.D.Sectors.honest g.D.Sectors.history _ _ c.install_now.new.self
    c.install_now.result
    (beside_keeps g.D.Sectors.honest g.D.Sectors.history _ _ (sym c.self.view_is) c.write_sectors.new.disk c.self.inside.publication c.self.inside.broken
    (c.self.inside.root.generation + 1) c.self.invariant.area (next_one _) c.write_sectors.ensures.beside c.self.invariant.ring)
    c.install_now.ensures.disk.was_honest c.install_now.ensures.told c.install_now.ensures.archive

pub returns-clause-archive : goal.returns-clause-archive
returns-clause-archive g c other =
    beside_keeps g.D.Sectors.honest g.D.Sectors.history _ _ (sym c.self.view_is) c.write_sectors.new.disk _ c.self.inside.broken
    (c.self.inside.root.generation + 1) c.self.invariant.area (next_one _) c.write_sectors.ensures.beside c.self.invariant.ring

pub returns-in-Err-clause-area : goal.returns-in-Err-clause-area
returns-in-Err-clause-area g c = rw (← c.self.view_is) (λ honest. beside_area c.self.inside.layout.sectors c.self.inside.root.generation _ _
    (c.self.inside.root.generation + 1) (next_one _) (c.write_sectors.ensures.beside honest))

pub returns-clause-area : goal.returns-clause-area
returns-clause-area g c = rw (← c.self.view_is) (λ honest. beside_area c.self.inside.layout.sectors c.self.inside.root.generation _ _
    (c.self.inside.root.generation + 1) (next_one _) (c.write_sectors.ensures.beside honest))

pub returns-then-left-le-STEP_SECTORS-clause-area : goal.returns-then-left-le-STEP_SECTORS-clause-area
returns-then-left-le-STEP_SECTORS-clause-area g c = rw (← c.self.view_is) (λ honest at inside.
    c.install_now.ensures.area c.self.inside.root.generation honest at inside
    ∙ beside_area c.self.inside.layout.sectors c.self.inside.root.generation _ _
    (c.self.inside.root.generation + 1) (next_one _) (c.write_sectors.ensures.beside (c.install_now.ensures.disk.was_honest honest)) at inside)

pub overflow_sub-left : goal.overflow_sub-left
overflow_sub-left g c = omega (
  arith,
  c.sectors.ensures,
  subst (λ (p : PublicationView). p.written ≤ sectors_taken p.content) (sym c.publication.view_is) c.requires.going.2.written,
)

pub write_sectors-requires-clause-order : goal.write_sectors-requires-clause-order
write_sectors-requires-clause-order g c = omega arith

pub write_sectors-requires-clause-within : goal.write_sectors-requires-clause-within
write_sectors-requires-clause-within g c =
    let going = going_seen _ (service_view c.self.inside) _ (publication_view c.publication.inside) c.self.view_is c.publication.view_is c.requires.going in
    more_within _ _ _ c.sectors.ensures _ c.min-more.ensures going.2.written

pub left-rest-requires : goal.left-rest-requires
left-rest-requires g c =
    let going = going_seen _ (service_view c.self.inside) _ (publication_view c.publication.inside) c.self.view_is c.publication.view_is c.requires.going in
    more_within _ _ _ c.sectors.ensures _ c.min-more.ensures going.2.written

pub write_sectors-requires-clause-area : goal.write_sectors-requires-clause-area
write_sectors-requires-clause-area g c =
    let going = going_seen _ (service_view c.self.inside) _ (publication_view c.publication.inside) c.self.view_is c.publication.view_is c.requires.going in
    omega (arith, going.2.area, c.self.inside.layout.area_is)

pub write_sectors-requires-clause-on_disk : goal.write_sectors-requires-clause-on_disk
write_sectors-requires-clause-on_disk g c = c.self.invariant.within

pub invariant_of-self : goal.invariant_of-self
invariant_of-self g c = service_on_disk c.write_sectors.ensures.disk.same_count c.self.invariant

pub returns-in-Err-clause-machine : goal.returns-in-Err-clause-machine
returns-in-Err-clause-machine g c = rw (← c.self.view_is, ← c.publication.view_is) (λ known. step_fails known (service_view c.self.inside)
    (publication_view c.publication.inside) (ap (λ s. s.broken) c.self.view_is ∙ c.requires.unbroken) c.write_sectors.new.disk
    (ap (λ s. s.publication) c.self.view_is ∙ c.requires.none))

pub returns-in-Err-clause-fault : goal.returns-in-Err-clause-fault
returns-in-Err-clause-fault g c = refl

pub returns-in-Err-clause-size : goal.returns-in-Err-clause-size
returns-in-Err-clause-size g c = ap (λ s. s.size) c.self.view_is

pub returns-in-Err-clause-disk : goal.returns-in-Err-clause-disk
returns-in-Err-clause-disk g c = rw (← c.self.view_is) c.write_sectors.ensures.disk

pub returns-in-Err-clause-failed : goal.returns-in-Err-clause-failed
returns-in-Err-clause-failed g c = rw (← c.self.view_is) c.in-Err.ensures.failed

pub returns-in-Err-clause-steps : goal.returns-in-Err-clause-steps
returns-in-Err-clause-steps g c = rw (← c.self.view_is) (λ honest. few_steps _ _ _ _ _ (c.write_sectors.ensures.steps honest) c.min-more.ensures)

pub invariant_of-self-then-left-le-STEP_SECTORS : goal.invariant_of-self-then-left-le-STEP_SECTORS
invariant_of-self-then-left-le-STEP_SECTORS g c = service_on_disk c.write_sectors.ensures.disk.same_count c.self.invariant

pub install_now-requires-clause-none : goal.install_now-requires-clause-none
install_now-requires-clause-none g c = ap (λ s. s.publication) c.self.view_is ∙ c.requires.none

pub install_now-requires-clause-unbroken : goal.install_now-requires-clause-unbroken
install_now-requires-clause-unbroken g c = ap (λ s. s.broken) c.self.view_is ∙ c.requires.unbroken

pub install_now-requires-clause-going : goal.install_now-requires-clause-going
install_now-requires-clause-going g c =
    let going = going_seen _ (service_view c.self.inside) _ (publication_view c.publication.inside) c.self.view_is c.publication.view_is c.requires.going in (
      going.0,
      going.1,
      going_further going.0 (publication_view c.publication.inside) (c.publication.inside.written + c.min-more.result) refl
          (more_within _ _ _ c.sectors.ensures _ c.min-more.ensures going.2.written) going.2,
    )

pub install_now-requires-clause-written : goal.install_now-requires-clause-written
install_now-requires-clause-written g c =
    let going = going_seen _ (service_view c.self.inside) _ (publication_view c.publication.inside) c.self.view_is c.publication.view_is c.requires.going in
    more_all _ _ _ c.sectors.ensures _ c.min-more.ensures going.2.written c.if-left-le-STEP_SECTORS.true

pub returns-then-left-le-STEP_SECTORS-clause-fault : goal.returns-then-left-le-STEP_SECTORS-clause-fault
returns-then-left-le-STEP_SECTORS-clause-fault g c = c.install_now.ensures.fault

pub returns-then-left-le-STEP_SECTORS-clause-size : goal.returns-then-left-le-STEP_SECTORS-clause-size
returns-then-left-le-STEP_SECTORS-clause-size g c = c.install_now.ensures.size ∙ ap (λ s. s.size) c.self.view_is

pub returns-then-left-le-STEP_SECTORS-clause-disk : goal.returns-then-left-le-STEP_SECTORS-clause-disk
returns-then-left-le-STEP_SECTORS-clause-disk g c = rw (← c.self.view_is) (writes_on c.write_sectors.ensures.disk c.install_now.ensures.disk)

pub returns-then-left-le-STEP_SECTORS-clause-failed : goal.returns-then-left-le-STEP_SECTORS-clause-failed
returns-then-left-le-STEP_SECTORS-clause-failed g c = rw (← c.self.view_is)
    (subst (λ (count : ℕ). TellsFailure c.install_now.result count (g.D.Sectors.faults c.install_now.new.self.disk)) c.in-Ok.ensures.failed
    c.install_now.ensures.failed)

pub returns-then-left-le-STEP_SECTORS-clause-steps : goal.returns-then-left-le-STEP_SECTORS-clause-steps
returns-then-left-le-STEP_SECTORS-clause-steps g c = rw (← c.self.view_is) (λ honest.
    let going = going_seen _ (service_view c.self.inside) _ (publication_view c.publication.inside) c.self.view_is c.publication.view_is c.requires.going in
    let all : c.publication.inside.written + c.min-more.result ≡ sectors_taken c.publication.inside.content =
    more_all _ _ _ c.sectors.ensures _ c.min-more.ensures going.2.written c.if-left-le-STEP_SECTORS.true in
    last_steps _ _ _ _ _ _ (c.install_now.ensures.steps honest) (c.write_sectors.ensures.last all (c.install_now.ensures.disk.was_honest honest))
    c.min-more.ensures)

pub invariant_of-self-2 : goal.invariant_of-self-2
invariant_of-self-2 g c =
    let going = going_seen _ (service_view c.self.inside) _ (publication_view c.publication.inside) c.self.view_is c.publication.view_is c.requires.going in
    service_with (Some (record (publication_view c.publication.inside) { written = c.publication.inside.written + c.min-more.result }))
    (going_further c.self.inside.root (publication_view c.publication.inside) (c.publication.inside.written + c.min-more.result) going.1
    (more_within _ _ _ c.sectors.ensures _ c.min-more.ensures going.2.written) going.2)
    (service_on_disk c.write_sectors.ensures.disk.same_count c.self.invariant)

pub returns-clause-size : goal.returns-clause-size
returns-clause-size g c = ap (λ s. s.size) c.self.view_is

pub returns-clause-disk : goal.returns-clause-disk
returns-clause-disk g c = rw (← c.self.view_is) c.write_sectors.ensures.disk

pub returns-clause-failed : goal.returns-clause-failed
returns-clause-failed g c = rw (← c.self.view_is) c.in-Ok.ensures.failed

pub returns-clause-steps : goal.returns-clause-steps
returns-clause-steps g c = rw (← c.self.view_is) (λ honest. few_steps _ _ _ _ _ (c.write_sectors.ensures.steps honest) c.min-more.ensures)

pub returns-in-Err-clause-touched : goal.returns-in-Err-clause-touched
returns-in-Err-clause-touched g c = ap (λ s. s.touched) c.self.view_is

pub returns-then-left-le-STEP_SECTORS-clause-touched : goal.returns-then-left-le-STEP_SECTORS-clause-touched
returns-then-left-le-STEP_SECTORS-clause-touched g c = c.install_now.ensures.touched ∙ ap (λ s. s.touched) c.self.view_is

pub returns-clause-touched : goal.returns-clause-touched
returns-clause-touched g c = ap (λ s. s.touched) c.self.view_is

pub returns-in-Err-clause-drafting : goal.returns-in-Err-clause-drafting
returns-in-Err-clause-drafting g c = inl (ap (λ s. s.drafting) c.self.view_is)

pub returns-then-left-le-STEP_SECTORS-clause-drafting : goal.returns-then-left-le-STEP_SECTORS-clause-drafting
returns-then-left-le-STEP_SECTORS-clause-drafting g c =
    subst (λ o. KeepsDraft o c.install_now.new.self.drafting) (ap (λ s. s.drafting) c.self.view_is) c.install_now.ensures.drafting

pub returns-clause-drafting : goal.returns-clause-drafting
returns-clause-drafting g c = inl (ap (λ s. s.drafting) c.self.view_is)

-- ---- the edits that it shows

on_installed : (result : Result ℕ ServiceFault) (Then : Type 0) → IfOk result (λ told. told ≡ 0) → (result ≡ Ok 0 → Then) → OnOk result Then
on_installed (Ok told) Then zero then = then (ap (λ (n : ℕ). Ok n) zero)
on_installed (Err fault) Then zero then = tt

pub returns-in-Err-clause-edits : goal.returns-in-Err-clause-edits
returns-in-Err-clause-edits g c = rw (← c.self.view_is) (λ installs edits shows honest. (
  refl,
  shows_on (service_view c.self.inside) _ _ _ edits refl refl refl
      (ring_beside _ _ _ _ _ c.self.invariant.ring (c.write_sectors.ensures.beside honest)) shows,
))

pub returns-clause-edits : goal.returns-clause-edits
returns-clause-edits g c = rw (← c.self.view_is) (λ installs edits shows honest. (
  refl,
  shows_on (service_view c.self.inside) _ _ _ edits refl refl refl
      (ring_beside _ _ _ _ _ c.self.invariant.ring (c.write_sectors.ensures.beside honest)) shows,
))

pub returns-then-left-le-STEP_SECTORS-clause-edits : goal.returns-then-left-le-STEP_SECTORS-clause-edits
returns-then-left-le-STEP_SECTORS-clause-edits g c = rw (← c.self.view_is, ← c.publication.view_is) (λ installs edits shows honest.
    let service : ServiceView g.row.D.Denot = service_view c.self.inside in
    let p : PublicationView = publication_view c.publication.inside in
    let written = c.install_now.ensures.disk.was_honest honest in
    let reads = ring_beside _ _ _ _ _ c.self.invariant.ring (c.write_sectors.ensures.beside written) in
    c.install_now.ensures.edits (on_installed c.install_now.result _ c.install_now.ensures.told (λ is.
    let up = installs is in (
      up.0,
      up_further _ _ _ _ up.0 service p (c.self.inside.root.generation + 1) (c.publication.inside.written + c.min-more.result) c.write_sectors.new.disk up.1
          c.write_sectors.ensures.disk.same_count refl (c.write_sectors.ensures.keeps up.0 written (next_of _ _ up.1.generation_is) up.1.keeps)
          (c.in-Ok.ensures.first written) reads,
    ))) edits (shows_on service _ _ _ edits refl refl refl reads shows) honest)
