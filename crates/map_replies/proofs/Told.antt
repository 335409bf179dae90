-- Faults of an edit as request faults.
use Rattle.std.proofs.Common.{◌≡◌, ℕ, List, ◌⊎◌, inl, inr, refl}
use Rattle.serde_json.specs.Data.{Data}
use Rattle.feature_model.specs.declared.fault.EditFault.{EditFault}
use Rattle.feature_model.specs.declared.fault.EditFault.TheVariants as edits
use Rattle.edit_json.specs.Batches.{IsFirstBatchFault}
use Rattle.edit_json.specs.Checked.{IsFirstCheckedFault}
use Rattle.edit_json.specs.Faults.{IsFirstJsonFault}
use Rattle.map_replies.specs.declared.fault.RequestFault.{RequestFault}
use Rattle.map_replies.specs.declared.fault.RequestFault.TheVariants.{NotFound, Json, Edit, Condition, Gone, Digest, Memory, Device, Damaged}
use Rattle.map_replies.specs.Bodies.{told_as, IsEditFault, IsJson, HasFault, HasBodyFault, HasBatchFault, HasCheckedFault}

-- a fault that satisfies P is reported as out of memory or as itself
pub told : (P : EditFault → Type 0) (e : EditFault) → P e → (told_as e ≡ Memory) ⊎ IsEditFault P (told_as e)
told P edits.Memory is = inl refl
told P edits.Member is = inr (λ e. cc, is)
told P edits.Number is = inr (λ e. cc, is)
told P edits.Layer is = inr (λ e. cc, is)
told P edits.Zoom is = inr (λ e. cc, is)
told P edits.Geometry is = inr (λ e. cc, is)
told P edits.Tags is = inr (λ e. cc, is)
told P edits.Value is = inr (λ e. cc, is)
told P edits.Long is = inr (λ e. cc, is)
told P edits.Reach is = inr (λ e. cc, is)
told P edits.Batch is = inr (λ e. cc, is)
told P edits.Twice is = inr (λ e. cc, is)

-- the fault of a value is that of the body
at_value : (IsFirst : Data → EditFault → Type 0) (body : List ℕ) (d : Data) (fault : RequestFault) → IsJson body d → IsEditFault (IsFirst d) fault
    → HasFault IsFirst body fault
at_value IsFirst body d (Edit e) json is = (is.0, (d, json, is.1))
at_value IsFirst body d NotFound json is = absurd is
at_value IsFirst body d Json json is = absurd is
at_value IsFirst body d Condition json is = absurd is
at_value IsFirst body d Gone json is = absurd is
at_value IsFirst body d Digest json is = absurd is
at_value IsFirst body d Memory json is = absurd is
at_value IsFirst body d Device json is = absurd is
at_value IsFirst body d Damaged json is = absurd is
