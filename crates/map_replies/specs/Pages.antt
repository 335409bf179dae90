-- A page of features: the features of the map from an id on, until their texts have a number of bytes.
use Rattle.std.specs.Prelude.{◌≡◌, ◌<◌, ◌+◌, ◌-◌, ◌⊎◌, ℕ, List, [], ◌∷◌, ◌++◌, length, map, codes, decimal, Option, Some, None, option_map}
use Rattle.serde_json.specs.Written.{compact_text}
use Rattle.edit_json.specs.Json.{json_of}
use Rattle.feature_model.specs.Data.{FeatureData}
use Rattle.feature_store.specs.Store.{FeatureMap, feature_from}
use Rattle.http_serve.specs.Reply.{ReplyView}
use Rattle.tile_service.specs.Machine.{got, Happening, look_from}
use Rattle.map_replies.specs.Lists.{joined}
use Rattle.map_replies.specs.Words.{numbered_body, json_reply}

-- ---- which features

-- an id and its feature
abbrev pub Entry : Type 0
Entry = ℕ × FeatureData

-- The entries are the features of the map from an id on, in ascending ids and none left out, up to the next one, if there is one.
abbrev pub AreFrom : (m : FeatureMap) → (id : ℕ) → List Entry → (next : Option Entry) → Type 0
AreFrom m id [] next = feature_from m id ≡ next
AreFrom m id (e ∷ es) next = (feature_from m id ≡ Some e) × AreFrom m (e.0 + 1) es next

-- The text of a feature with its id, as that of a single one.
abbrev pub listed : Entry → List ℕ
listed e = numbered_body (compact_text (json_of e.1)) e.0

-- The texts of the entries before the last have fewer bytes than this together, and all have as many or more, unless no feature follows.
abbrev pub AreEnough : (bytes : ℕ) → List Entry → (next : Option Entry) → Type 0
AreEnough bytes [] next = (bytes ≡ 0) ⊎ (next ≡ None)
AreEnough bytes (e ∷ es) next = (0 < bytes) × AreEnough (bytes - length (listed e)) es next

-- ---- the text

-- the texts of entries
abbrev pub all_listed : List Entry → List ℕ
all_listed es = joined (map listed es)

unfoldable pub page_start : List ℕ
page_start = codes "{\"features\":["

-- the id to ask for next, if a feature follows
abbrev pub next_text : Option ℕ → List ℕ
next_text None = codes "null"
next_text (Some id) = decimal id

unfoldable pub page_end : Option ℕ → List ℕ
page_end next = codes "],\"next\":" ++ next_text next ++ codes "}"

-- the text of a page
unfoldable pub page_body : List Entry → (next : Option ℕ) → List ℕ
page_body es next = page_start ++ all_listed es ++ page_end next

-- the id of an entry
abbrev pub id_of : Option Entry → Option ℕ
id_of next = option_map (λ (e : Entry). e.0) next

abbrev pub page_reply : List Entry → (next : Option Entry) → ReplyView
page_reply es next = json_reply (page_body es (id_of next))

-- ---- what happens

-- a look at the first feature from an id on, then at the first one after that, and so on
abbrev pub looks_from : ℕ → List Entry → (next : Option Entry) → List Happening
looks_from id [] next = look_from id (got next) ∷ []
looks_from id (e ∷ es) next = look_from id (got (Some e)) ∷ looks_from (e.0 + 1) es next
