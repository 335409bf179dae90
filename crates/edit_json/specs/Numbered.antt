-- An edit's changes, as they are asked for, beside its number.
use Rattle.std.specs.Prelude.{ℕ, List, [], ◌∷◌, map}
use Rattle.serde_json.specs.Data.{unsigned, Data, number, array, object, no_members, member}
use Rattle.serde_json.specs.View.{items_of}
use Rattle.feature_model.specs.Data.{EditData}
use Rattle.edit_json.specs.Json.{name_bytes}
use Rattle.edit_json.specs.Batches.{asked_json, asked_of}

-- the list under its name, as a batch has it, and the number
abbrev pub numbered_json : ℕ → List Data → Data
numbered_json n ds =
    object (member (name_bytes "changes") (array (items_of ds)) (member (name_bytes "edit") (number (unsigned n)) no_members))

-- the one JSON value of an edit with its number
abbrev pub numbered_edit : ℕ → EditData → Data
numbered_edit n cs = numbered_json n (map asked_json (map asked_of cs))
