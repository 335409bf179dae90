-- A standby: a server that is given the edits of another one, the leader, each under its number.
use Rattle.std.specs.Prelude.{◌≡◌, ◌+◌, ℕ, List, ◌∷◌, ◌++◌, length}
use Rattle.edit_text.specs.Recorded.{RecordedEdit}
use Rattle.feature_model.specs.Data.{EditData}
use Rattle.feature_store.specs.Store.{FeatureMap, after}
use Rattle.map_replies.specs.Bodies.{SaysChanges}
use Rattle.map_replies.specs.Feed.{changes_of}

-- The leader began with the map m after the edit of number `first`, and has made these edits since. The features are its map after its
-- first edits, those up to the number `last`.
pub record HasFirstEdits (m : FeatureMap) (first : ℕ) (edits : List EditData) (features : FeatureMap) (last : ℕ) : Type 0 where
  pub done : List EditData
  pub more : List EditData
  pub are : edits ≡ done ++ more
  pub last_is : last ≡ first + length done
  pub features_are : features ≡ after m done

-- the leader's edit of this number has these changes
pub record IsEditOf (first : ℕ) (edits : List EditData) (number : ℕ) (cs : EditData) : Type 0 where
  pub earlier : List EditData
  pub later : List EditData
  pub are : edits ≡ earlier ++ cs ∷ later
  pub number_is : number ≡ first + length earlier + 1

-- the body says the changes of the leader's edit of this number
abbrev pub SaysEditOf : (first : ℕ) → List EditData → (number : ℕ) → (body : List ℕ) → Type 0
SaysEditOf first edits number body = (cs : EditData) × SaysChanges body cs × IsEditOf first edits number cs

-- The edits that a leader shows are the last of those that it has made: all after the forgotten ones.
pub record AreLastOf (first : ℕ) (edits : List EditData) (forgotten : ℕ) (shown : List RecordedEdit) : Type 0 where
  pub before : List EditData
  pub are : edits ≡ before ++ changes_of shown
  pub forgotten_is : forgotten ≡ first + length before
