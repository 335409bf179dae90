use Rattle.std.proofs.Common.{◌≡◌, ◌⊎◌, ℕ, List, IfErr, subst, ◌∙◌, inl, inr, ap, length, arith}
use Rattle.generations.specs.declared.fault.StoreFault.TheVariants.{Damaged, Memory}
use Rattle.generations.specs.declared.fault.What.TheVariants.{Snapshot}
use Rattle.feature_store.specs.Snapshots.{IsNoSnapshot}
use Rattle.sector_bytes.specs.Bytes.{StandsIn}
use Rattle.sector_disk.specs.Disk.{seen}
use Rattle.tile_service.proofs.Disk.Opened.{snapshot_fault}
use Rattle.std.proofs.lemmas.Result.{IfOk-weaker}
use Rattle.feature_store.specs.Store.{snapshot}
use Rattle.tile_service.proofs.snapshot_reading.read_snapshot.Goals as goal

pub returns-clause-fault : goal.returns-clause-fault
returns-clause-fault g c version honest =
    let image = seen (g.D.Sectors.history c.args.disk.now) in
    snapshot_fault c.args.layout.sectors version c.args.root image c.in-Ok.text.items c.map_in.result
    (subst (λ (first : ℕ). StandsIn first c.in-Ok.text.items image) c.area_start-first.ensures (c.in-Ok.ensures.stands honest))
    c.in-Ok.ensures.len
    (subst (λ (text : List ℕ). IfErr c.map_in.result (λ fault. (fault ≡ Memory) ⊎ ((fault ≡ Damaged Snapshot) × IsNoSnapshot text)))
    c.deref.ensures.value c.map_in.ensures.fault)

pub returns-in-Err-clause-disk : goal.returns-in-Err-clause-disk
returns-in-Err-clause-disk g c = c.read_text.ensures.disk

pub returns-in-Err-clause-failed : goal.returns-in-Err-clause-failed
returns-in-Err-clause-failed g c = c.in-Err.ensures.failed

pub returns-clause-disk : goal.returns-clause-disk
returns-clause-disk g c = c.read_text.ensures.disk

pub returns-in-Err-clause-fault : goal.returns-in-Err-clause-fault
returns-in-Err-clause-fault g c version honest = elim c.in-Err.ensures.fault [ inl device ↦ inl device | inr memory ↦ inr (inl memory) ]

pub map_in-requires : goal.map_in-requires
map_in-requires g c = omega (arith, ap length c.deref.ensures.value, c.in-Ok.ensures.len, c.requires.can.area, c.args.layout.size.1)

pub returns-clause-texts : goal.returns-clause-texts
returns-clause-texts g c = IfOk-weaker c.map_in.result (λ store. snapshot store.features ≡ c.deref.result.now)
    (λ store. length (snapshot store.features) ≡ c.args.root.snapshot_len)
    (λ store is. ap length is ∙ ap length c.deref.ensures.value ∙ c.in-Ok.ensures.len) c.map_in.ensures.text
