use Rattle.std.proofs.Common.{◌≡◌, inl, Result, Ok, Err, IfErr, OnOk, arith, map}
use Rattle.std.proofs.lemmas.Result.{err_from_is_err_and}
use Rattle.edit_journal.specs.Records.{RecordData, record_data}
use Rattle.feature_store.specs.Prepared.{prepared_data}
use Rattle.generations.specs.declared.fault.StoreFault.{StoreFault}
use Rattle.generations.specs.declared.fault.StoreFault.TheVariants.{Memory}
use Rattle.tile_service.specs.Machine.{recorded_in}
use Rattle.tile_service.specs.Replayed.{IsRecordFault}
use Rattle.tile_service.proofs.Disk.Replayed.{text_short}
use Rattle.tile_service.proofs.replaying.replay_one.Goals as goal

pub make-requires-clause-texts : goal.make-requires-clause-texts
make-requires-clause-texts c =
    omega (
      arith,
      c.requires.texts,
      text_short (record_data c.args.recorded.now) (recorded_in c.args.recorded.now.version (map prepared_data c.in_ok-changes.changes.items))
          c.in_ok-changes.ensures.edit,
    )

-- what is passed on is a fault
passed_on : (c : goal.After-from_residual) → (fault : StoreFault) × (c.from_residual.result ≡ Err fault)
passed_on c = let told = err_from_is_err_and c.from_residual.result c.from_residual.ensures.1 in (told.0, told.1)

pub returns-in_err-changes-clause-made : goal.returns-in_err-changes-clause-made
returns-in_err-changes-clause-made c = rw ((passed_on c).1) tt

pub returns-in_err-changes-clause-last : goal.returns-in_err-changes-clause-last
returns-in_err-changes-clause-last c = rw ((passed_on c).1) tt

pub returns-in_err-changes-clause-now : goal.returns-in_err-changes-clause-now
returns-in_err-changes-clause-now c = rw ((passed_on c).1) tt

pub returns-in_err-changes-clause-since : goal.returns-in_err-changes-clause-since
returns-in_err-changes-clause-since c = λ number was known. rw ((passed_on c).1) tt

pub returns-in_err-changes-clause-reads : goal.returns-in_err-changes-clause-reads
returns-in_err-changes-clause-reads c = λ right. rw ((passed_on c).1) tt

pub returns-clause-last : goal.returns-clause-last
returns-clause-last c = c.make.ensures.last

pub returns-clause-now : goal.returns-clause-now
returns-clause-now c = c.make.ensures.now

pub returns-clause-since : goal.returns-clause-since
returns-clause-since c = c.make.ensures.since

pub returns-clause-reads : goal.returns-clause-reads
returns-clause-reads c = c.make.ensures.reads

pub make-requires-clause-number : goal.make-requires-clause-number
make-requires-clause-number c = c.requires.number

pub make-requires-clause-edit : goal.make-requires-clause-edit
make-requires-clause-edit c = c.in_ok-changes.ensures.edit.recorded.edit

-- what follows from a success's fact holds of that success
still_ok : {T E A B : Type 0} (result : Result T E) → (A → B) → OnOk result A → OnOk result B
still_ok (Ok done) follows is = follows is
still_ok (Err fault) follows is = tt

pub returns-clause-made : goal.returns-clause-made
returns-clause-made c = still_ok c.make.result (λ map_is. (
  recorded_in c.args.recorded.now.version (map prepared_data c.in_ok-changes.changes.items),
  c.in_ok-changes.ensures.edit,
  map_is,
)) c.make.ensures.map

-- want of memory is a fault of any record
only_memory : (record_is : RecordData) (result : Result (Unit {0}) StoreFault) → IfErr result (λ fault. fault ≡ Memory)
    → IfErr result (IsRecordFault record_is)
only_memory record_is (Ok done) is = tt
only_memory record_is (Err fault) is = inl is

pub returns-clause-fault : goal.returns-clause-fault
returns-clause-fault c = only_memory (record_data c.args.recorded.now) c.make.result c.make.ensures.fault
