use Rattle.std.proofs.Common.{◌≡◌, ◌+◌, length, slice_range, OnOk, refl, sym, subst, inl}
use Rattle.std.specs.Prelude.{IfErr}
use Rattle.tile_service.specs.Service.{TellsDevice}
use Rattle.tile_service.specs.declared.fault.ServiceFault.TheVariants.{Device}
use Rattle.tile_service.proofs.Publications.Steps.{service_on_disk}
use Rattle.tile_service.proofs.Archive.Read.{shown_is_read, up_unwritten}
use Rattle.tile_service.proofs.service.Service.archive_read_at.Goals as goal
use Rattle.tile_service.proofs.service.Service.archive_read_at.Goals.{in-Ok, in-Err}

pub returns-clause-shown : goal.returns-clause-shown
returns-clause-shown g c = rw (← c.self.view_is) (λ archive shows honest.
    let is = shown_is_read (g.D.Sectors.history c.self.inside.disk) _ _ archive shows
    _ c.args.at (length c.args.into.now) c.read_bytes.new.into refl c.requires.within in
    elim c.match-read_bytes.branch [
      | in-Ok w ↦ subst (λ result. OnOk result (c.read_bytes.new.into ≡ slice_range archive c.args.at (c.args.at + length c.args.into.now)))
          (sym w.result-is) (is (w.in-Ok.ensures.read honest))
      | in-Err w ↦ subst (λ result. OnOk result (c.read_bytes.new.into ≡ slice_range archive c.args.at (c.args.at + length c.args.into.now)))
          (sym w.result-is) tt
    ])

pub returns-clause-up : goal.returns-clause-up
returns-clause-up g c = rw (← c.self.view_is) (λ stored up honest.
    up_unwritten (g.D.Sectors.sectors c.self.inside.disk) (g.D.Sectors.history c.self.inside.disk) stored _ up
    c.read_bytes.new.disk _ _ c.read_bytes.ensures.disk.same_count (c.read_bytes.ensures.disk.same_history honest))

pub invariant_of-self : goal.invariant_of-self
invariant_of-self g c = service_on_disk c.read_bytes.ensures.disk.same_count c.self.invariant

pub returns-clause-same : goal.returns-clause-same
returns-clause-same g c = rw (← c.self.view_is) refl

pub returns-clause-disk : goal.returns-clause-disk
returns-clause-disk g c = rw (← c.self.view_is) c.read_bytes.ensures.disk

pub returns-clause-length : goal.returns-clause-length
returns-clause-length g c = c.read_bytes.ensures.length

pub returns-clause-failed : goal.returns-clause-failed
returns-clause-failed g c = rw (← c.self.view_is) (
    elim c.match-read_bytes.branch [
      | in-Ok w ↦ subst (λ result. TellsDevice result (g.D.Sectors.faults c.self.inside.disk) (g.D.Sectors.faults c.read_bytes.new.disk))
          (sym w.result-is) w.in-Ok.ensures.failed
      | in-Err w ↦ subst (λ result. TellsDevice result (g.D.Sectors.faults c.self.inside.disk) (g.D.Sectors.faults c.read_bytes.new.disk))
          (sym w.result-is) (inl (refl, w.in-Err.ensures.failed))
    ])

pub returns-clause-fault : goal.returns-clause-fault
returns-clause-fault g c =
    elim c.match-read_bytes.branch [
      | in-Ok w ↦ subst (λ result. IfErr result (λ fault. fault ≡ Device)) (sym w.result-is) tt
      | in-Err w ↦ subst (λ result. IfErr result (λ fault. fault ≡ Device)) (sym w.result-is) refl
    ]
