-- Members that are put in the order of their keys are stored in that order, and the values of a list in its own.
use Rattle.std.proofs.Common.{Vec, Global, ◌≡◌, ℕ, List, [], ◌∷◌, ◌++◌, map, Less, Greater, nat_cmp, refl, sym, ap, subst, ◌∙◌}
use Rattle.std.specs.Ordering.{ordering_reverse}
use Rattle.std.specs.Cmp.Lexicographic.{slice_cmp}
use Rattle.std.specs.List.{AllByRecursion}
use Rattle.std.specs.List.Sorted.{IsStrictlySortedBy}
use Rattle.std.proofs.lemmas.Cmp.{nat_list_cmp_total}
use Rattle.std.proofs.lemmas.List.{append-nil, append_assoc, map-append}
use Rattle.std.proofs.lemmas.List.Elements.{All-head, All-tail}
use Rattle.serde_json.specs.Data.{Data, Members, put, member, array}
use Rattle.serde_json.specs.View.{view, items_of}
use Rattle.serde_json.specs.declared.value.Value.{Value, Array}
use Rattle.serde_json.proofs.Views.{view-Array}
use Rattle.feature_model.specs.Data.{TagData}
use Rattle.feature_model.specs.Limits.{keys_of, HasAscendingKeys, ValueFits, ValuesFit}
use Rattle.edit_text.specs.declared.tags.TagText.{TagText}
use Rattle.edit_text.specs.Views.{value_view, tag_view}
use Rattle.edit_json.specs.Json.{value_json, tags_json}

key_above : (k : List ℕ) (ts : List TagData) (t : TagData) (rest : List TagData)
    → AllByRecursion (λ y. slice_cmp nat_cmp k y ≡ Less) (keys_of (ts ++ t ∷ rest)) → slice_cmp nat_cmp t.key k ≡ Greater
key_above k [] t rest h = nat_list_cmp_total.antisymm t.key k ∙ ap ordering_reverse h.0
key_above k (u ∷ ts) t rest h = key_above k ts t rest h.1

put_last : (ts : List TagData) (t : TagData) (rest : List TagData) → HasAscendingKeys (ts ++ t ∷ rest)
    → put t.key (value_json t.value) (tags_json ts) ≡ tags_json (ts ++ t ∷ [])
unfolding IsStrictlySortedBy
put_last [] t rest h = refl
put_last (u ∷ ts) t rest h = rw (key_above u.key ts t rest h.0) (ap (member u.key (value_json u.value)) (put_last ts t rest h.1))

value_between : (ts : List TagData) (t : TagData) (rest : List TagData) → ValuesFit (ts ++ t ∷ rest) → ValueFits t.value
value_between [] t rest h = All-head (λ (u : TagData). ValueFits u.value) t rest h
value_between (u ∷ ts) t rest h = value_between ts t rest (All-tail (λ (v : TagData). ValueFits v.value) u (ts ++ t ∷ rest) h)

-- the tags so far, and those that are left
parts_are : (ts rest left whole : List TagData) (t : TagData) → left ≡ t ∷ rest → ts ++ left ≡ whole → ts ++ t ∷ rest ≡ whole
parts_are ts rest left whole t first all = ap (λ l. ts ++ l) (sym first) ∙ all

-- the first of those that are left fits
pub value_there : (ts rest left whole : List TagData) (t : TagData) → left ≡ t ∷ rest → ts ++ left ≡ whole → ValuesFit whole → ValueFits t.value
value_there ts rest left whole t first all fit = value_between ts t rest (subst ValuesFit (sym (parts_are ts rest left whole t first all)) fit)

pub parts_over : (ts left whole : List TagData) → left ≡ [] → ts ++ left ≡ whole → ts ≡ whole
parts_over ts left whole none all = sym (append-nil ts) ∙ ap (λ l. ts ++ l) (sym none) ∙ all

module _ (ys : List TagText) (x : TagText) (rest left whole : List TagData) where
  pub parts_next : left ≡ tag_view x ∷ rest → map tag_view ys ++ left ≡ whole → map tag_view (ys ++ x ∷ []) ++ rest ≡ whole
  parts_next first all =
      ap (λ l. l ++ rest) (map-append tag_view ys (x ∷ [])) ∙ append_assoc (map tag_view ys) (tag_view x ∷ []) rest
      ∙ parts_are (map tag_view ys) rest left whole (tag_view x) first all

  -- a loop that puts one tag after the other
  pub put_next : (d : Data) (before after : Members) → left ≡ tag_view x ∷ rest → map tag_view ys ++ left ≡ whole → HasAscendingKeys whole
      → d ≡ value_json (value_view x.value) → before ≡ tags_json (map tag_view ys) → after ≡ put x.key.now d before
      → after ≡ tags_json (map tag_view (ys ++ x ∷ []))
  put_next d before after first all order value so_far more =
      more ∙ ap (λ e. put x.key.now e before) value ∙ ap (put x.key.now (value_json (value_view x.value))) so_far
      ∙ put_last (map tag_view ys) (tag_view x) rest (subst HasAscendingKeys (sym (parts_are (map tag_view ys) rest left whole (tag_view x) first all)) order)
      ∙ ap tags_json (sym (map-append tag_view ys (x ∷ [])))

-- A loop that pushed the value of each item made the list of them.
pub list_over : {X : Type 0} (json : X → Data) (list : Vec Value Global) (left all : List X) → left ≡ []
    → map view list.items ++ map json left ≡ map json all → view (Array list) ≡ array (items_of (map json all))
list_over {X} json list left all none so_far =
    view-Array list
    ∙ ap (λ (ds : List Data). array (items_of ds))
    (sym (append-nil (map view list.items)) ∙ ap (λ (xs : List X). map view list.items ++ map json xs) (sym none) ∙ so_far)

-- The value of one item more is pushed.
pub one_more : {X : Type 0} (json : X → Data) (before after : List Value) (value : Value) (x : X) (rest left all : List X) → left ≡ x ∷ rest
    → after ≡ before ++ value ∷ [] → view value ≡ json x → map view before ++ map json left ≡ map json all
    → map view after ++ map json rest ≡ map json all
one_more {X} json before after value x rest left all first pushed is so_far =
    ap (λ (vs : List Value). map view vs ++ map json rest) pushed ∙ ap (λ l. l ++ map json rest) (map-append view before (value ∷ []))
    ∙ append_assoc (map view before) (view value ∷ []) (map json rest) ∙ ap (λ d. map view before ++ d ∷ map json rest) is
    ∙ ap (λ (xs : List X). map view before ++ map json xs) (sym first) ∙ so_far
