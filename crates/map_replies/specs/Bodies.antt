-- The feature, or the changes of an edit, in the body of a request.
use Rattle.std.specs.Prelude.{◌≡◌, ◌≢◌, ℕ, List, Some, IsUtf8}
use Rattle.serde_json.specs.Data.{Data}
use Rattle.serde_json.specs.Read.{read}
use Rattle.feature_model.specs.Data.{FeatureData, EditData}
use Rattle.feature_model.specs.declared.fault.EditFault.{EditFault}
use Rattle.feature_model.specs.declared.fault.EditFault.TheVariants as edits
use Rattle.feature_model.specs.Seen.{SeenData}
use Rattle.edit_json.specs.Batches.{IsBatch, IsFirstBatchFault}
use Rattle.edit_json.specs.Checked.{IsChecked, IsFirstCheckedFault}
use Rattle.edit_json.specs.Faults.{IsFeature, IsFirstJsonFault}
use Rattle.map_replies.specs.declared.fault.RequestFault.{RequestFault}
use Rattle.map_replies.specs.declared.fault.RequestFault.TheVariants.{Json, Edit, Memory}

-- the bytes are a JSON text of this value
abbrev pub IsJson : List ℕ → Data → Type 0
IsJson body d = IsUtf8 body × (read body ≡ Some d)

-- the bytes are no JSON text
abbrev pub IsNoJson : List ℕ → Type 0
IsNoJson body = (d : Data) → ¬ (IsJson body d)

-- the body encodes the feature
pub record SaysFeature (body : List ℕ) (f : FeatureData) : Type 0 where
  pub value : Data
  pub json : IsJson body value
  pub feature : IsFeature value f

-- the body encodes the changes of a batch
pub record SaysChanges (body : List ℕ) (cs : EditData) : Type 0 where
  pub value : Data
  pub json : IsJson body value
  pub batch : IsBatch value cs

-- the changes of an edit, and what its author saw of their numbers
pub record CheckedEdit : Type 0 where
  pub changes : EditData
  pub seen : List SeenData

-- the body encodes the changes, and what their author saw
pub record SaysChecked (body : List ℕ) (e : CheckedEdit) : Type 0 where
  pub value : Data
  pub json : IsJson body value
  pub checked : IsChecked value e.changes e.seen

-- the request fault that reports the fault of an edit
abbrev pub told_as : EditFault → RequestFault
told_as edits.Memory = Memory
told_as fault = Edit fault

-- the fault of an edit, other than out of memory, that satisfies P
abbrev pub IsEditFault : (EditFault → Type 0) → RequestFault → Type 0
IsEditFault P (Edit fault) = (fault ≢ edits.Memory) × P fault
IsEditFault P _ = ⊥

-- a fault that the body has: it isn't JSON, or its value has this fault first
abbrev pub HasFault : (IsFirst : Data → EditFault → Type 0) → List ℕ → RequestFault → Type 0
HasFault IsFirst body Json = IsNoJson body
HasFault IsFirst body (Edit fault) = IsEditFault (λ e. (d : Data) × IsJson body d × IsFirst d e) (Edit fault)
-- no other fault is due to the body
HasFault IsFirst body _ = ⊥

-- a fault of a body that should encode a feature
abbrev pub HasBodyFault : List ℕ → RequestFault → Type 0
HasBodyFault = HasFault IsFirstJsonFault

-- a fault of a body that should encode the changes of a batch
abbrev pub HasBatchFault : List ℕ → RequestFault → Type 0
HasBatchFault = HasFault IsFirstBatchFault

-- a fault of a body that should encode changes, and what their author saw
abbrev pub HasCheckedFault : List ℕ → RequestFault → Type 0
HasCheckedFault = HasFault IsFirstCheckedFault
