-- Where an answer is Device, a call of the disk has failed.
use Rattle.std.proofs.Common.{◌≡◌, ⊎_elim, inl, inr, ℕ, ◌<◌, ◌≤◌, ◌+◌, ◌-◌, ◌^◌, min, Bool, true, false, Result, Ok, Err}
use Rattle.std.proofs.Common.{refl, sym, ◌∙◌, ap, subst, arith}
use Rattle.std.proofs.lemmas.Bool.{false≢true, cases_lt}
use Rattle.sector_disk.specs.Disk.{HasFailed}
use Rattle.sector_bytes.specs.Counts.{HasRisen, NeverFalls}
use Rattle.sector_bytes.proofs.Counts.{same_count, risen_count, failed_risen}
use Rattle.tile_service.specs.Events.{Tells, edit_answer, left_answer}
use Rattle.tile_service.specs.Machine.{ServiceState, Happening, AnswersBegin, AnswersCancel}
use Rattle.tile_service.specs.Service.{CountsDevice, TellsDevice}
use Rattle.tile_service.specs.declared.event.Answer.{Answer}
use Rattle.tile_service.specs.declared.event.Answer.TheVariants as answers
use Rattle.tile_service.specs.declared.event.Event.TheVariants as events
use Rattle.tile_service.specs.declared.fault.ServiceFault.{ServiceFault}
use Rattle.tile_service.specs.declared.fault.ServiceFault.TheVariants.{Memory, Device}

-- ---- the answer Device

abbrev is_device : ServiceFault → Bool
is_device Device = true
is_device fault = false

-- a fault of another name isn't Device
pub other_fault : (fault : ServiceFault) → is_device fault ≡ false → fault ≡ Device → ⊥
other_fault fault other is = false≢true (sym other ∙ ap is_device is)

abbrev tells_device : Answer → Bool
tells_device (answers.Refused fault) = is_device fault
tells_device answer = false

-- another answer isn't that
pub other_answer : (answer : Answer) → tells_device answer ≡ false → answer ≡ answers.Refused Device → ⊥
other_answer answer other is = false≢true (sym other ∙ ap tells_device is)

device_told : (fault : ServiceFault) → answers.Refused fault ≡ answers.Refused Device → fault ≡ Device
device_told Device is = refl
device_told fault is = absurd (false≢true (ap tells_device is))

-- out of memory is not reported as Device
pub memory_told : (fault : ServiceFault) → fault ≡ Memory → answers.Refused fault ≡ answers.Refused Device → ⊥
memory_told fault memory is = false≢true (ap is_device (sym memory ∙ device_told fault is))

-- ---- what is counted

-- an error that is counted is a failure
pub counted_failed : (old new : ℕ) → new ≡ min (old + 1) (2 ^ 64 - 1) → HasFailed old new
counted_failed old new is = ⊎_elim
    (λ (lt : old < 2 ^ 64 - 1). inl (omega (arith, is, lt)))
    (λ (last : 2 ^ 64 - 1 ≤ old). inr (omega (arith, is, last)))
    (cases_lt old (2 ^ 64 - 1))

-- The count doesn't fall,
pub outcome_counts : (outcome : Result ℕ ServiceFault) (before after : ℕ) → TellsDevice outcome before after → NeverFalls before after
outcome_counts (Ok number) before after counts = same_count before after counts
outcome_counts (Err fault) before after (inl w) = risen_count before after (failed_risen before after w.1)
outcome_counts (Err fault) before after (inr w) = same_count before after w.1

fault_risen : (fault : ServiceFault) (before after : ℕ) → CountsDevice fault before after → fault ≡ Device → HasRisen before after
fault_risen fault before after (inl w) device = failed_risen before after w.1
fault_risen fault before after (inr w) device = absurd (w.0 device)

-- and it has risen where an edit is answered so,
pub edit_risen : (outcome : Result ℕ ServiceFault) (before after : ℕ) → TellsDevice outcome before after
    → edit_answer outcome ≡ answers.Refused Device → HasRisen before after
edit_risen (Ok number) before after counts is = absurd (other_answer (answers.Edited number) refl is)
edit_risen (Err fault) before after counts is = fault_risen fault before after counts (device_told fault is)

-- or a step
pub left_risen : (outcome : Result ℕ ServiceFault) (before after : ℕ) → TellsDevice outcome before after
    → left_answer outcome ≡ answers.Refused Device → HasRisen before after
left_risen (Ok left) before after counts is = absurd (other_answer (answers.Left left) refl is)
left_risen (Err fault) before after counts is = fault_risen fault before after counts (device_told fault is)

-- ---- calls that don't ask the disk

-- a beginning isn't answered so,
pub begin_no_device : (old new : ServiceState) (outcome : Result ℕ ServiceFault) → AnswersBegin old outcome new
    → left_answer outcome ≡ answers.Refused Device → ⊥
begin_no_device old new (Ok left) goes is = other_answer (answers.Left left) refl is
begin_no_device old new (Err fault) goes is =
    (subst (λ (f : ServiceFault). AnswersBegin old (Err f) new) (device_told fault is) goes).1

-- nor is the cancellation of a publication,
pub cancel_no_device : (old new : ServiceState) (fault : ServiceFault) → AnswersCancel old (Err fault) new
    → answers.Refused fault ≡ answers.Refused Device → ⊥
cancel_no_device old new fault goes is = (subst (λ (f : ServiceFault). AnswersCancel old (Err f) new) (device_told fault is) goes).1

-- nor a look at a feature
pub look_no_device : (version id : ℕ) (answer : Answer) (happening : Happening) → Tells version (events.Look id) answer happening
    → answer ≡ answers.Refused Device → ⊥
look_no_device version id answer happening tells is =
    memory_told Device (subst (λ (a : Answer). Tells version (events.Look id) a happening) is tells).0 refl
