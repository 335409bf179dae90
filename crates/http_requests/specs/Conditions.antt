-- Conditions on entity tags (RFC 9110, 13.1).
use Rattle.std.specs.Prelude.{ℕ, List, ◌||◌, ◌&&◌, Bool, false, cond, nat_eq, take, drop, codes, Option, None, Some}
use Rattle.std.specs.List.{list_any}
use Rattle.std.specs.Cmp.Lexicographic.{pointwise}
use Rattle.http_requests.specs.Fields.{NamedValue, is_word, members, only_field}

-- both texts are the same
abbrev pub same_text : List ℕ → List ℕ → Bool
same_text first second = pointwise nat_eq first second

-- what is quoted in an entity tag, with its quotation marks: what follows the `W/` of a weak one, or all of a strong one (RFC 9110, 8.8.3)
abbrev pub opaque_tag : List ℕ → List ℕ
opaque_tag text = cond (same_text (take 2 text) (codes "W/")) (drop 2 text) text

-- The text is this strong tag, or, where weak tags count, a tag with the same opaque tag: the strong and the weak comparison
-- (RFC 9110, 8.8.3.2).
abbrev pub is_tag : (weak : Bool) → (tag : List ℕ) → List ℕ → Bool
is_tag weak tag text = same_text (cond weak (opaque_tag text) text) tag

-- there is a value, which is an asterisk
abbrev pub is_asterisk : Option (List ℕ) → Bool
is_asterisk None = false
is_asterisk (Some value) = same_text value (codes "*")

-- the only field of this name has an asterisk as its value: it names whatever there is, if there is something (RFC 9110, 13.1.1 and 13.1.2)
unfoldable pub is_star : List ℕ → List NamedValue → Bool
is_star word fields = is_asterisk (only_field word fields)

-- The value lists the tag (RFC 9110, 5.6.1). A comma inside a tag separates too: each of its pieces has one quotation mark at most, so none of
-- them is a tag.
abbrev pub lists_tag : (weak : Bool) → (tag : List ℕ) → (value : List ℕ) → Bool
lists_tag weak tag value = list_any (is_tag weak tag) (members value)

-- the field has this name, and its value lists the tag
abbrev pub is_naming : (weak : Bool) → (tag word : List ℕ) → NamedValue → Bool
is_naming weak tag word field = is_word word field.0 && lists_tag weak tag field.1

-- some field of this name lists the tag: several fields of one name are one list (RFC 9110, 5.3)
abbrev pub some_names : (weak : Bool) → (tag word : List ℕ) → List NamedValue → Bool
some_names weak tag word fields = list_any (is_naming weak tag word) fields

-- The condition of this name names a tag with this text: it is an asterisk, or the tag is one of its list (RFC 9110, 13.1.1 and 13.1.2). It
-- doesn't if there is no such field.
unfoldable pub names_tag : (weak : Bool) → (tag word : List ℕ) → List NamedValue → Bool
names_tag weak tag word fields = is_star word fields || some_names weak tag word fields
