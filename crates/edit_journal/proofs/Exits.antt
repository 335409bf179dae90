-- What a function returns where a `?` passes a fault on.
use Rattle.std.proofs.Common.{◌≡◌, Result, Err, IsErrAnd, ◌∙◌, ap}
use Rattle.std.proofs.lemmas.Result.{err_from_is_err_and}
use Rattle.edit_journal.specs.declared.fault.JournalFault.TheVariants.{Device, Damaged, Memory}

-- the fault that is passed on is the one that the call gave
pub passed_on : {T E : Type 0} (result : Result T E) (given fault : E) → IsErrAnd result (λ told. told ≡ given) → given ≡ fault → result ≡ Err fault
passed_on result given fault told is =
    let passed = err_from_is_err_and result told in
    passed.1 ∙ ap Err (passed.2 ∙ is)

-- a failed call of the disk is no damage
pub device_no_damage : Device ≡ Damaged → ⊥
device_no_damage is = absurd cc

-- nor is it want of memory
pub device_no_memory : Device ≡ Memory → ⊥
device_no_memory is = absurd cc

-- want of memory is no damage
pub memory_no_damage : Memory ≡ Damaged → ⊥
memory_no_damage is = absurd cc
