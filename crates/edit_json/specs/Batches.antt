-- What a JSON value says of an edit: that it is the edit's value, or the first fault that it has.
use Rattle.std.specs.Prelude.{◌≡◌, ◌≢◌, ℕ, ◌<◌, List, ◌∷◌, length, get_or, map, take, All, ⊤}
use Rattle.serde_json.specs.Data.{unsigned, Data, number, array, object, no_members, member}
use Rattle.serde_json.specs.View.{items_of}
use Rattle.feature_model.specs.declared.fault.EditFault.{EditFault}
use Rattle.feature_model.specs.declared.fault.EditFault.TheVariants as faults
use Rattle.feature_model.specs.Data.{ChangeData, put, delete, EditData}
use Rattle.feature_model.specs.Limits.{NumberFits, AreEnough, HasChanges, AreDistinct}
use Rattle.edit_json.specs.Json.{name_bytes, OutlineData, json_of}
use Rattle.edit_json.specs.Faults.{IsFeature, IsOutline, IsFirstJsonFault}

-- ---- the one JSON value of an edit

-- a change as its JSON value asks for it: its feature is still JSON
pub data AskedData : Type 0 where
  put_asked : ℕ → Data → AskedData
  delete_asked : ℕ → AskedData

abbrev pub asked_number : AskedData → ℕ
asked_number (put_asked id d) = id
asked_number (delete_asked id) = id

abbrev pub asked_json : AskedData → Data
asked_json (put_asked id d) = object (member (name_bytes "feature") d (member (name_bytes "put") (number (unsigned id)) no_members))
asked_json (delete_asked id) = object (member (name_bytes "delete") (number (unsigned id)) no_members)

-- what the value of a change asks for
abbrev pub asked_of : ChangeData → AskedData
asked_of (put id f) = put_asked id (json_of f)
asked_of (delete id) = delete_asked id

-- the list of what is asked for, under its name
abbrev pub list_json : List Data → Data
list_json ds = object (member (name_bytes "changes") (array (items_of ds)) no_members)

abbrev pub asks_json : List AskedData → Data
asks_json ys = list_json (map asked_json ys)

abbrev pub batch_json : EditData → Data
batch_json cs = asks_json (map asked_of cs)

-- ---- an edit's value

-- the change keeps to the limits, but for that of its text
abbrev pub IsJsonChange : ChangeData → Type 0
IsJsonChange (put id f) = NumberFits id × IsFeature (json_of f) f
IsJsonChange (delete id) = NumberFits id

-- the value is the edit's, which keeps to the limits, but for those of texts
pub record IsBatch (d : Data) (cs : EditData) : Type 0 where
  pub is : d ≡ batch_json cs
  pub count : HasChanges cs
  pub distinct : AreDistinct cs
  pub each : All IsJsonChange cs

-- ---- the faults

-- the feature has its members, each of its kind
abbrev pub HasMembers : AskedData → Type 0
HasMembers (put_asked id d) = (o : OutlineData) × IsOutline d o
HasMembers (delete_asked id) = ⊤

-- the value asks for these changes, each with its members
pub record Asks (d : Data) (ys : List AskedData) : Type 0 where
  pub is : d ≡ asks_json ys
  pub members : All HasMembers ys

abbrev pub HasAsked : Data → (List AskedData → Type 0) → Type 0
HasAsked d P = (ys : List AskedData) × Asks d ys × P ys

-- the first value of the list is the JSON of something, which has its members
abbrev pub Begins : {A : Type 0} → (json : A → Data) → (Has : A → Type 0) → List Data → Type 0
Begins {A} json Has ds = (a : A) × (rest : List Data) × (ds ≡ json a ∷ rest) × Has a

-- the first value asks for a change
abbrev pub BeginsAsked : List Data → Type 0
BeginsAsked = Begins asked_json HasMembers

-- no number is repeated
abbrev pub NumbersDiffer : List ℕ → Type 0
NumbersDiffer ns = (k d : ℕ) → k < length ns → All (λ n. n ≢ get_or ns k d) (take k ns)

-- the change can be read
abbrev pub IsSound : AskedData → Type 0
IsSound a = (c : ChangeData) × (a ≡ asked_of c) × IsJsonChange c

-- the fault is that of the change, and none before it is
abbrev pub IsFirstAskedFault : AskedData → EditFault → Type 0
IsFirstAskedFault (put_asked id d) faults.Number = ¬ NumberFits id
IsFirstAskedFault (put_asked id d) faults.Memory = ⊥
IsFirstAskedFault (put_asked id d) fault = NumberFits id × IsFirstJsonFault d fault
IsFirstAskedFault (delete_asked id) faults.Number = ¬ NumberFits id
IsFirstAskedFault (delete_asked id) fault = ⊥

-- the first change that can't be read has this fault
pub record IsFirstAsked (ys : List AskedData) (fault : EditFault) : Type 0 where
  pub index : ℕ
  pub asked : AskedData
  pub within : index < length ys
  pub is : get_or ys index asked ≡ asked
  pub before : All IsSound (take index ys)
  pub fault_is : IsFirstAskedFault asked fault

-- The fault is the value's, and none before it is: first the members of all, then the count, then the numbers, and then the faults of
-- each change. Memory is asked for only once the first value of the list asks for a change.
abbrev pub IsFirstBatchFault : Data → EditFault → Type 0
IsFirstBatchFault d faults.Member = (ys : List AskedData) → ¬ Asks d ys
IsFirstBatchFault d faults.Batch = HasAsked d (λ ys. ¬ AreEnough (length ys))
IsFirstBatchFault d faults.Twice = HasAsked d (λ ys. AreEnough (length ys) × ¬ NumbersDiffer (map asked_number ys))
IsFirstBatchFault d faults.Memory = (ds : List Data) × (d ≡ list_json ds) × BeginsAsked ds
IsFirstBatchFault d fault = HasAsked d (λ ys. AreEnough (length ys) × NumbersDiffer (map asked_number ys) × IsFirstAsked ys fault)
