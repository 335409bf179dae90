-- The members of `tags`, as they are read.
use Rattle.std.proofs.Common.{◌≡◌, ◌↔◌, ℕ, suc, List, [], ◌∷◌, ◌++◌, length, map, All}
use Rattle.std.proofs.Common.{Ok, String, Global, Less, nat_cmp, refl, sym, ap, subst, ◌∙◌}
use Rattle.std.specs.Prelude.{string_bytes}
use Rattle.std.specs.Cmp.Lexicographic.{slice_cmp}
use Rattle.std.specs.List.{AllByRecursion}
use Rattle.std.specs.List.Sorted.{IsStrictlySortedBy}
use Rattle.std.specs.String.{string_cmp}
use Rattle.std.proofs.lemmas.List.Elements.{All-nil, All-cons, All-head, All-tail}
use Rattle.serde_json.specs.View.{view, members_view}
use Rattle.serde_json.specs.declared.value.Value.{Value}
use Rattle.reader.specs.Reading.{Read}
use Rattle.feature_model.specs.declared.fault.EditFault.{EditFault}
use Rattle.feature_model.specs.Data.{TagData}
use Rattle.feature_model.specs.Limits.{IsName}
use Rattle.edit_json.specs.Faults.{names_of}
use Rattle.edit_json.specs.Tags.{tag_at, tags_at}
use Rattle.edit_json.proofs.SoFar.{goes_on, goes_on-cons}

abbrev pub texts_of : List (String Global) → List (List ℕ)
texts_of ks = map (λ k. string_bytes k) ks

-- the names of the members are the texts of the keys
pub names_of-view : (es : List (String Global × Value)) → names_of (members_view es) ≡ texts_of (map (λ e. e.0) es)
names_of-view [] = refl
names_of-view (e ∷ es) = ap (λ ns. string_bytes e.0 ∷ ns) (names_of-view es)

pub length-names_of : (es : List (String Global × Value)) → length (names_of (members_view es)) ≡ length es
length-names_of [] = refl
length-names_of (e ∷ es) = ap suc (length-names_of es)

-- ---- the names of keys

-- a loop over the keys: those that are left decide
abbrev pub Decide : List (String Global) → Type 0 → Type 0
Decide ks Q = All IsName (texts_of ks) ↔ Q

pub keys_start : (ks : List (String Global)) (es : List (String Global × Value)) → ks ≡ map (λ e. e.0) es → Decide ks (All IsName (names_of (members_view es)))
keys_start ks es e = let P : List (List ℕ) → Type 0 = λ ns. All IsName ns in
    let f : texts_of ks ≡ names_of (members_view es) = ap texts_of e ∙ sym (names_of-view es) in
    (λ h. subst P f h, λ h. subst P (sym f) h)

pub keys_more : (Q : Type 0) (s t : List (String Global)) (k : String Global) → s ≡ k ∷ t → IsName (string_bytes k) → Decide s Q → Decide t Q
keys_more Q s t k e n d = let P : List (String Global) → Type 0 = λ ks. All IsName (texts_of ks) in (
  λ h. d.0 (subst P (sym e) (All-cons IsName (string_bytes k) (texts_of t) n h)),
  λ q. All-tail IsName (string_bytes k) (texts_of t) (subst P e (d.1 q)),
)

-- ---- the order of keys

texts_below : (k : String Global) (ks : List (String Global)) → AllByRecursion (λ l. string_cmp k l ≡ Less) ks
    → AllByRecursion (λ t. slice_cmp nat_cmp (string_bytes k) t ≡ Less) (texts_of ks)
texts_below k [] h = tt
texts_below k (l ∷ ks) h = (h.0, texts_below k ks h.1)

texts_ascend : (ks : List (String Global)) → IsStrictlySortedBy string_cmp ks → IsStrictlySortedBy (slice_cmp nat_cmp) (texts_of ks)
unfolding IsStrictlySortedBy
texts_ascend [] h = tt
texts_ascend (k ∷ ks) h = (texts_below k ks h.0, texts_ascend ks h.1)

pub names_ascend : (es : List (String Global × Value)) → IsStrictlySortedBy string_cmp (map (λ e. e.0) es)
    → IsStrictlySortedBy (slice_cmp nat_cmp) (names_of (members_view es))
names_ascend es h = let P : List (List ℕ) → Type 0 = λ ns. IsStrictlySortedBy (slice_cmp nat_cmp) ns in
    subst P (sym (names_of-view es)) (texts_ascend (map (λ e. e.0) es) h)

-- ---- the tags

-- what is read so far with the members that are left
abbrev pub rest_gives : List TagData → List (String Global × Value) → Read EditFault (List TagData)
rest_gives ts es = goes_on ts (tags_at (members_view es))

pub tags_more : (ts : List TagData) (s t : List (String Global × Value)) (k : String Global) (v : Value) (d : TagData) → s ≡ (k, v) ∷ t
    → tag_at (string_bytes k) (view v) ≡ Ok d
    → rest_gives ts s ≡ rest_gives (ts ++ d ∷ []) t
unfolding tags_at
tags_more ts s t k v d e f = ap (rest_gives ts) e ∙ rw f (goes_on-cons ts d (tags_at (members_view t)))
