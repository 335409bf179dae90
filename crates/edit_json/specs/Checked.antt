-- What a JSON value says of an edit that is made only if the map still has what its author saw.
use Rattle.std.specs.Prelude.{◌≡◌, ◌≢◌, ◌⊎◌, List, [], ◌∷◌, ◌++◌, map, All, Option, Some, None, ⊤}
use Rattle.serde_json.specs.Data.{null, unsigned, Data, number, object, no_members, member}
use Rattle.serde_json.specs.View.{view}
use Rattle.feature_model.specs.declared.fault.EditFault.{EditFault}
use Rattle.feature_model.specs.declared.fault.EditFault.TheVariants as faults
use Rattle.feature_model.specs.Data.{FeatureData, EditData}
use Rattle.feature_model.specs.Seen.{SeenData}
use Rattle.edit_json.specs.Json.{name_bytes, OutlineData}
use Rattle.edit_json.specs.Faults.{IsFeature, IsOutline, IsFirstJsonFault}
use Rattle.edit_json.specs.declared.checked.Checked.{Checked}
use Rattle.edit_json.specs.Asked.{asked_data}
use Rattle.edit_json.specs.Batches.{AskedData, put_asked, delete_asked, asked_number, list_json, asks_json, IsBatch, HasMembers, Begins, IsFirstBatchFault}

-- a change as its JSON value asks for it, and the JSON of what its author saw
pub record CheckedData : Type 0 where
  pub asked : AskedData
  pub was : Data

-- the same, as the reader holds it
abbrev pub checked_data : Checked → CheckedData
checked_data c = record { asked = asked_data c.asked; was = view c.was.now }

-- the change's object, with one member more
abbrev pub with_was : AskedData → Data → Data
with_was (put_asked id d) w = object
    (member (name_bytes "feature") d (member (name_bytes "put") (number (unsigned id)) (member (name_bytes "was") w no_members)))
with_was (delete_asked id) w = object (member (name_bytes "delete") (number (unsigned id)) (member (name_bytes "was") w no_members))

abbrev pub checked_json : CheckedData → Data
checked_json x = with_was x.asked x.was

-- null, or an object with the members of a feature
abbrev pub HasWas : Data → Type 0
HasWas w = (w ≡ null) ⊎ ((o : OutlineData) × IsOutline w o)

abbrev pub HasCheckedMembers : CheckedData → Type 0
HasCheckedMembers x = HasMembers x.asked × HasWas x.was

-- the list of what is asked for, under its name
abbrev pub checks_json : List CheckedData → Data
checks_json xs = list_json (map checked_json xs)

-- the value asks for these changes, each with its members
pub record AsksChecked (d : Data) (xs : List CheckedData) : Type 0 where
  pub is : d ≡ checks_json xs
  pub members : All HasCheckedMembers xs

-- the same changes without what was seen, and the value of a batch of them
abbrev pub plain : List CheckedData → List AskedData
plain xs = map (λ x. x.asked) xs

abbrev pub plain_json : List CheckedData → Data
plain_json xs = asks_json (plain xs)

-- ---- its value

-- what was seen is this feature, within the limits, or none
abbrev pub IsWas : Data → Option FeatureData → Type 0
IsWas w None = w ≡ null
IsWas w (Some f) = IsFeature w f

-- each is what was seen of its number
abbrev pub Were : List CheckedData → List SeenData → Type 0
Were [] [] = ⊤
Were (x ∷ xs) (s ∷ all) = (s.id ≡ asked_number x.asked) × IsWas x.was s.feature × Were xs all
Were xs all = ⊥

-- the value is that of a batch, with what was seen of each number
pub record IsChecked (d : Data) (cs : EditData) (all : List SeenData) : Type 0 where
  pub asked : List CheckedData
  pub is : AsksChecked d asked
  pub batch : IsBatch (plain_json asked) cs
  pub were : Were asked all

-- ---- the faults

-- the first of what was seen that is neither null nor a feature has this fault
pub record IsFirstWas (xs : List CheckedData) (fault : EditFault) : Type 0 where
  pub before : List CheckedData
  pub checked : CheckedData
  pub rest : List CheckedData
  pub is : xs ≡ before ++ checked ∷ rest
  pub sound : All (λ x. (o : Option FeatureData) × IsWas x.was o) before
  pub other : checked.was ≢ null
  pub fault_is : IsFirstJsonFault checked.was fault

-- the first value of the list asks for a change
abbrev pub BeginsChecked : Data → Type 0
BeginsChecked d = (ds : List Data) × (d ≡ list_json ds) × Begins checked_json HasCheckedMembers ds

-- The fault is the value's, and none before it is: first the members of all, then those of the changes without what was seen, and then
-- those of what was seen. Memory is asked for only once the first value of the list asks for a change.
abbrev pub IsFirstCheckedFault : Data → EditFault → Type 0
IsFirstCheckedFault d faults.Member = (xs : List CheckedData) → ¬ AsksChecked d xs
IsFirstCheckedFault d faults.Memory = BeginsChecked d
IsFirstCheckedFault d fault = (xs : List CheckedData) × AsksChecked d xs
    × (IsFirstBatchFault (plain_json xs) fault ⊎ ((cs : EditData) × IsBatch (plain_json xs) cs × IsFirstWas xs fault))
