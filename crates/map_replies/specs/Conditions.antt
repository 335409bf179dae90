-- What a request asks beside its path and its method, and its conditions on entity tags (RFC 9110, 13).
use Rattle.std.specs.Prelude.{ℕ, List, ◌&&◌, Bool, true, false, cond, not, codes, is_none, is_some, Option, Some, None}
use Rattle.http_requests.specs.Conditions.{is_star, names_tag}
use Rattle.http_requests.specs.Fields.{NamedValue, has_field, only_field}
use Rattle.http_requests.specs.Requests.{RequestView}
use Rattle.feature_model.specs.Data.{FeatureData}
use Rattle.tile_routes.specs.declared.method.Method.{Method}
use Rattle.tile_routes.specs.declared.method.Method.TheVariants.{Get, Head, Post}
use Rattle.map_replies.specs.declared.conditions.Ask.{Ask}
use Rattle.map_replies.specs.declared.conditions.Judged.{Judged}
use Rattle.map_replies.specs.declared.conditions.Judged.TheVariants.{Holds, Fails, Unchanged}
use Rattle.map_replies.specs.declared.conditions.Needed.{Needed}
use Rattle.map_replies.specs.declared.conditions.Needed.TheVariants.{Free, There, Absent, Unmet}

-- The header fields and the query of a request, and the number that tags of tiles begin with. Without such a number replies have no entity tags, and no
-- condition on tags is looked at: its field is one of many that say nothing here.
pub record AskView : Type 0 where
  pub fields : List NamedValue
  pub query : List ℕ
  pub tags : Option ℕ

-- what a request asks
abbrev pub ask_of : (tags : Option ℕ) → RequestView → AskView
ask_of tags request = record { fields = request.fields; query = request.query; tags = tags }

-- the same, as the program has it
abbrev pub ask_view : Ask → AskView
ask_view ask = record { fields = ask.fields.now; query = ask.query.now; tags = ask.tags }

-- ---- ranges

-- The value of the only field range (RFC 9110, 14.2). Under an if-range there is none: that its condition holds isn't looked at, and a range
-- whose condition isn't known to hold is ignored (13.1.5).
abbrev pub range_by : (tags : Option ℕ) → List NamedValue → Option (List ℕ)
range_by None fields = only_field (codes "range") fields
range_by (Some start) fields = cond (has_field (codes "if-range") fields) None (only_field (codes "range") fields)

-- a range is ignored unless the method is GET (14.2)
abbrev pub range_for : Method → AskView → Option (List ℕ)
range_for Get ask = range_by ask.tags ask.fields
range_for method ask = None

-- ---- conditions of GET and HEAD

-- if-match is there, and doesn't name the tag with this text in a strong comparison (13.1.1)
abbrev pub is_other : (tag : List ℕ) → List NamedValue → Bool
is_other tag fields = has_field (codes "if-match") fields && not (names_tag false tag (codes "if-match") fields)

-- if-none-match is there, and names it in a weak comparison (13.1.2)
abbrev pub is_known : (tag : List ℕ) → List NamedValue → Bool
is_known tag fields = has_field (codes "if-none-match") fields && names_tag true tag (codes "if-none-match") fields

-- what the conditions come to where replies have tags: if-match counts first (13.2.2)
abbrev pub judged_by : (tags : Option ℕ) → (tag : List ℕ) → List NamedValue → Judged
judged_by None tag fields = Holds
judged_by (Some start) tag fields = cond (is_other tag fields) Fails (cond (is_known tag fields) Unchanged Holds)

abbrev pub judged : (tag : List ℕ) → AskView → Judged
judged tag ask = judged_by ask.tags tag ask.fields

-- ---- conditions of edits

-- Both conditions are there, or one of them names tags. No feature has a tag that a client could name, so that one is refused whatever it
-- names: nothing is overwritten that the client hasn't seen.
abbrev pub needed_by_fields : (if_match if_none_match : Bool) → (any none : Bool) → Needed
needed_by_fields true true any none = Unmet
needed_by_fields true false any none = cond any There Unmet
needed_by_fields false true any none = cond none Absent Unmet
needed_by_fields false false any none = Free

abbrev pub needed_by : (tags : Option ℕ) → List NamedValue → Needed
needed_by None fields = Free
needed_by (Some start) fields = needed_by_fields (has_field (codes "if-match") fields) (has_field (codes "if-none-match") fields)
    (is_star (codes "if-match") fields) (is_star (codes "if-none-match") fields)

-- what the conditions want of the feature that a request changes (13.1.1 and 13.1.2)
abbrev pub needed : AskView → Needed
needed ask = needed_by ask.tags ask.fields

-- What they want can't be met, so that a request with this method is refused at once: by no feature, or by what an action changes, which is
-- no single feature.
abbrev pub refuses : Needed → Method → Bool
refuses Free method = false
refuses needed Get = false
refuses needed Head = false
refuses needed Post = true
refuses There method = false
refuses Absent method = false
refuses Unmet method = true

-- the feature that is there, or isn't, is what they want
abbrev pub meets : Needed → Option FeatureData → Bool
meets Free found = true
meets There found = is_some found
meets Absent found = is_none found
meets Unmet found = false
