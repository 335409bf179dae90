-- Pools by their slots and codes, entry by entry.
use Rattle.std.proofs.Common.{Ordering, is_eq, ◌≡◌, ℕ, zero, suc, ◌-◌, ◌<◌, Bool, true, false, cond, get_or, set, replicate, List, [], ◌∷◌, ◌++◌, length}
use Rattle.std.proofs.Common.{refl, sym, ap, subst, ◌∙◌, arith, inl, inr, ◌⊎◌}
use Rattle.std.specs.Prelude.{Option, Some, None, slice_index}
use Rattle.std.specs.Option.{ForSome, unwrap_or}
use Rattle.std.specs.BTreeMap.{BTreeMap, get, UpdatesBy, is_at}
use Rattle.std.specs.Ordering.{nat_cmp, eq_by_cmp}
use Rattle.std.specs.Map.{KeepsOthers, IsKeyTest, AreApart, lookup}
use Rattle.std.specs.declared.cmp.Ordering.TheVariants.{Less, Equal, Greater}
use Rattle.std.specs.declared.vec.Vec.{Vec}
use Rattle.std.proofs.lemmas.Cmp.{nat_list_cmp_total}
use Rattle.std.proofs.lemmas.Map.Text.{is_eq-slice_cmp}
use Rattle.std.proofs.lemmas.Map.Lookups.{exact_unsigned}
use Rattle.std.specs.Cmp.{eq_by_cmp_equiv, nat_cmp_total, tied_itself}
use Rattle.std.specs.Cmp.Lexicographic.{slice_cmp}
use Rattle.std.specs.Str.{bytes_eq}
use Rattle.std.proofs.lemmas.Bool.{cases_eq}
use Rattle.std.proofs.lemmas.List.{length-append, get_or_append_left, get_or_push, get_or-set_same, get_or-set_other}
use Rattle.std.proofs.lemmas.Slice.Eq.{bytes_eq-Decides}
use Rattle.mvt_write.specs.Codes.{text_code}
use Rattle.mvt_write.specs.Pools.{index_of, has_entry, index_in}
use Rattle.mvt_write.specs.Slots.{place_of, named, slot_index, code_index, bytes_index, led, IsOther}
use Rattle.mvt_write.proofs.Pooled.{index_in_push}

-- ---- what a look-up says of the pool

none_by : (has : Bool) (at : ℕ) → None ≡ cond has (Some at) None → has ≡ false
none_by false at e = refl
none_by true at e = absurd (cc)

pub absent_if_none : (pool : List (List ℕ)) (entry : List ℕ) → None ≡ index_in pool entry → has_entry pool entry ≡ false
absent_if_none pool entry e = none_by (has_entry pool entry) (index_of pool entry) e

some_by : (has : Bool) (at index : ℕ) → Some index ≡ cond has (Some at) None → (at ≡ index) × (has ≡ true)
some_by false at index e = absurd (cc)
some_by true at index e = (cc, refl)

pub held_if_some : (pool : List (List ℕ)) (entry : List ℕ) (index : ℕ) → Some index ≡ index_in pool entry
    → (index_of pool entry ≡ index) × (has_entry pool entry ≡ true)
held_if_some pool entry index e = some_by (has_entry pool entry) (index_of pool entry) index e

-- where an index leads to another entry, the others tell
pub led_on : (pool : List (List ℕ)) (o : Option ℕ) (entry : List ℕ) (other : Option ℕ) → IsOther pool o entry → led pool o entry other ≡ other
led_on pool None entry other is = absurd is
led_on pool (Some index) entry other is = rw is refl

pub led_here : (pool : List (List ℕ)) (o : Option ℕ) (entry : List ℕ) (other : Option ℕ) (index : ℕ) → o ≡ Some index
    → bytes_eq (get_or pool index []) entry ≡ true → led pool o entry other ≡ Some index
led_here pool o entry other index is alike = rw (is, alike) refl

pub led_nowhere : (pool : List (List ℕ)) (o : Option ℕ) (entry : List ℕ) (other : Option ℕ) → o ≡ None → led pool o entry other ≡ None
led_nowhere pool o entry other is = rw is refl

pub is_other : (pool : List (List ℕ)) (o : Option ℕ) (entry : List ℕ) (index : ℕ) → o ≡ Some index → bytes_eq (get_or pool index []) entry ≡ false
    → IsOther pool o entry
is_other pool o entry index is apart = rw is apart

-- an entry whose slot names another and whose code is new isn't held
pub unseen_code : (pool : List (List ℕ)) (slot code other : Option ℕ) (entry : List ℕ) → IsOther pool slot entry → code ≡ None
    → led pool slot entry (led pool code entry other) ≡ index_in pool entry → has_entry pool entry ≡ false
unseen_code pool slot code other entry by_slot none looked =
    absent_if_none pool entry (sym (led_on pool slot entry (led pool code entry other) by_slot ∙ led_nowhere pool code entry other none) ∙ looked)

-- an entry that its slot names
pub first_held : (pool : List (List ℕ)) (slot beside : Option ℕ) (entry : List ℕ) (index : ℕ) → slot ≡ Some index
    → bytes_eq (get_or pool index []) entry ≡ true → led pool slot entry beside ≡ index_in pool entry
    → (index_of pool entry ≡ index) × (has_entry pool entry ≡ true)
first_held pool slot beside entry index is alike looked =
    held_if_some pool entry index (sym (led_here pool slot entry beside index is alike) ∙ looked)

-- an entry that its code names, and not its slot
pub second_held : (pool : List (List ℕ)) (slot code other : Option ℕ) (entry : List ℕ) (index : ℕ) → IsOther pool slot entry → code ≡ Some index
    → bytes_eq (get_or pool index []) entry ≡ true → led pool slot entry (led pool code entry other) ≡ index_in pool entry
    → (index_of pool entry ≡ index) × (has_entry pool entry ≡ true)
second_held pool slot code other entry index by_slot is alike looked =
    held_if_some pool entry index
    (sym (led_on pool slot entry (led pool code entry other) by_slot ∙ led_here pool code entry other index is alike) ∙ looked)

-- the index that a number names
pub named_at : (number : ℕ) → (number ≡ 0 → ⊥) → named number ≡ Some (number - 1)
named_at zero some = absurd (some refl)
named_at (suc index) some = ap Some (omega arith)

-- where slot and code name other entries, the others tell
pub others_tell : (pool : List (List ℕ)) (slot code other : Option ℕ) (entry : List ℕ) → IsOther pool slot entry → IsOther pool code entry
    → led pool slot entry (led pool code entry other) ≡ index_in pool entry → other ≡ index_in pool entry
others_tell pool slot code other entry by_slot by_code looked =
    sym (led_on pool slot entry (led pool code entry other) by_slot ∙ led_on pool code entry other by_code) ∙ looked

-- ---- one entry more

led_push : (pool : List (List ℕ)) (entry query : List ℕ) (o : Option ℕ) (other : Option ℕ) → ForSome o (λ i. i < length pool)
    → led (pool ++ entry ∷ []) o query other ≡ led pool o query other
led_push pool entry query None other within = refl
led_push pool entry query (Some index) other within = rw (get_or_append_left pool (entry ∷ []) [] index (within index refl)) refl

led_last : (pool : List (List ℕ)) (entry query : List ℕ) (other : Option ℕ)
    → led (pool ++ entry ∷ []) (Some (length pool)) query other ≡ cond (bytes_eq entry query) (Some (length pool)) other
led_last pool entry query other = rw (get_or_push pool entry [] (length pool) refl) refl

other_push : (pool : List (List ℕ)) (entry query : List ℕ) (o : Option ℕ) → ForSome o (λ i. i < length pool) → IsOther pool o query
    → IsOther (pool ++ entry ∷ []) o query
other_push pool entry query None within is = absurd is
other_push pool entry query (Some index) within is = rw (get_or_append_left pool (entry ∷ []) [] index (within index refl)) is

-- what finds each entry as before, and the new one at the end
abbrev pub Extends : List (List ℕ) → List ℕ → (List ℕ → Option ℕ) → (List ℕ → Option ℕ) → Type 0
Extends pool entry old new = (q : List ℕ) → new q ≡ cond (bytes_eq entry q) (Some (length pool)) (old q)

-- which entries an index is kept for: those of the new entry's kind, that had none, get the new one
abbrev pub Names : List (List ℕ) → List ℕ → (List ℕ → Option ℕ) → (List ℕ → Option ℕ) → Type 0
Names pool entry old new =
    (q : List ℕ) → ((new q ≡ old q) × (bytes_eq entry q ≡ false)) ⊎ ((new q ≡ Some (length pool)) × (old q ≡ None))

abbrev pub IsWithin : List (List ℕ) → (List ℕ → Option ℕ) → Type 0
IsWithin pool number = (q : List ℕ) → ForSome (number q) (λ i. i < length pool)

module _ (pool : List (List ℕ)) (entry : List ℕ) where
  longer : (o : Option ℕ) → ForSome o (λ i. i < length pool) → ForSome o (λ i. i < length (pool ++ entry ∷ []))
  longer o within index is = omega (arith, within index is, length-append pool (entry ∷ []))

  pub still_within : (number : List ℕ → Option ℕ) → IsWithin pool number → IsWithin (pool ++ entry ∷ []) number
  still_within number within q = longer (number q) (within q)

  named_by : (o n : Option ℕ) (apart : Type 0) → ForSome o (λ i. i < length pool) → ((n ≡ o) × apart) ⊎ ((n ≡ Some (length pool)) × (o ≡ None))
      → ForSome n (λ i. i < length (pool ++ entry ∷ []))
  named_by o n apart within (inl same) = subst (λ (x : Option ℕ). ForSome x (λ i. i < length (pool ++ entry ∷ []))) (sym same.0) (longer o within)
  named_by o n apart within (inr last) =
      λ index is. let same : Some (length pool) ≡ Some index = sym last.0 ∙ is in
      let at : length pool ≡ index = cc in
      omega (arith, at, length-append pool (entry ∷ []))

  pub named_within : (old new : List ℕ → Option ℕ) → IsWithin pool old → Names pool entry old new → IsWithin (pool ++ entry ∷ []) new
  named_within old new within names q = named_by (old q) (new q) (bytes_eq entry q ≡ false) (within q) (names q)

  -- what leads to the same entries as before
  pub same_led : (number other after : List ℕ → Option ℕ) → IsWithin pool number → ((q : List ℕ) → after q ≡ other q) → (q : List ℕ)
      → led (pool ++ entry ∷ []) (number q) q (after q) ≡ led pool (number q) q (other q)
  same_led number other after within same q = led_push pool entry q (number q) (after q) (within q) ∙ ap (λ (o : Option ℕ). led pool (number q) q o) (same q)

  first_by : (query : List ℕ) (old new other after : Option ℕ) → ForSome old (λ i. i < length pool) → (old ≡ None → other ≡ None) → after ≡ other
      → ((new ≡ old) × (bytes_eq entry query ≡ false)) ⊎ ((new ≡ Some (length pool)) × (old ≡ None))
      → led (pool ++ entry ∷ []) new query after ≡ cond (bytes_eq entry query) (Some (length pool)) (led pool old query other)
  first_by query old new other after within free same (inl kept) =
      ap (λ (o : Option ℕ). led (pool ++ entry ∷ []) o query after) kept.0
      ∙ led_push pool entry query old after within ∙ ap (λ (o : Option ℕ). led pool old query o) same ∙ rw kept.1 refl
  first_by query old new other after within free same (inr last) =
      ap (λ (o : Option ℕ). led (pool ++ entry ∷ []) o query after) last.0
      ∙ led_last pool entry query after
      ∙ ap (λ (o : Option ℕ). cond (bytes_eq entry query) (Some (length pool)) o) (same ∙ free last.1 ∙ sym (led_nowhere pool old query other last.1))

  -- the first entry of its kind is added
  pub first_led : (old new other after : List ℕ → Option ℕ) → IsWithin pool old → ((q : List ℕ) → old q ≡ None → other q ≡ None)
      → ((q : List ℕ) → after q ≡ other q) → Names pool entry old new
      → Extends pool entry (λ q. led pool (old q) q (other q)) (λ q. led (pool ++ entry ∷ []) (new q) q (after q))
  first_led old new other after within free same names q = first_by q (old q) (new q) (other q) (after q) (within q) (free q) (same q) (names q)

  free_by : (old new other after : Option ℕ) (apart : Type 0) → (old ≡ None → other ≡ None) → after ≡ other
      → ((new ≡ old) × apart) ⊎ ((new ≡ Some (length pool)) × (old ≡ None)) → new ≡ None → after ≡ None
  free_by old new other after apart free same (inl kept) none = same ∙ free (sym kept.0 ∙ none)
  free_by old new other after apart free same (inr last) none = let no : Some (length pool) ≡ None = sym last.0 ∙ none in absurd (cc)

  pub first_free : (old new other after : List ℕ → Option ℕ) → ((q : List ℕ) → old q ≡ None → other q ≡ None) → ((q : List ℕ) → after q ≡ other q)
      → Names pool entry old new → (q : List ℕ) → new q ≡ None → after q ≡ None
  first_free old new other after free same names q =
      free_by (old q) (new q) (other q) (after q) (bytes_eq entry q ≡ false) (free q) (same q) (names q)

  next_by : (number other after : List ℕ → Option ℕ) (q : List ℕ) (alike : Bool) → bytes_eq entry q ≡ alike → ForSome (number q) (λ i. i < length pool)
      → IsOther pool (number entry) entry → after q ≡ cond alike (Some (length pool)) (other q)
      → led (pool ++ entry ∷ []) (number q) q (after q) ≡ cond alike (Some (length pool)) (led pool (number q) q (other q))
  next_by number other after q false is within leads step =
      led_push pool entry q (number q) (after q) within ∙ ap (λ (o : Option ℕ). led pool (number q) q o) step
  next_by number other after q true is within leads step =
      let e : entry ≡ q = (bytes_eq-Decides entry q).0 is in
      let on : IsOther pool (number q) q = subst (λ (r : List ℕ). IsOther pool (number r) r) e leads in
      led_on (pool ++ entry ∷ []) (number q) q (after q) (other_push pool entry q (number q) within on) ∙ step

  -- another entry of its kind is added
  pub next_led : (number other after : List ℕ → Option ℕ) → IsWithin pool number → IsOther pool (number entry) entry → Extends pool entry other after
      → Extends pool entry (λ q. led pool (number q) q (other q)) (λ q. led (pool ++ entry ∷ []) (number q) q (after q))
  next_led number other after within leads steps q = next_by number other after q (bytes_eq entry q) refl (within q) leads (steps q)

  next_free_by : (number other after : List ℕ → Option ℕ) (q : List ℕ) (alike : Bool) → bytes_eq entry q ≡ alike
      → (number q ≡ None → other q ≡ None) → IsOther pool (number entry) entry → after q ≡ cond alike (Some (length pool)) (other q)
      → number q ≡ None → after q ≡ None
  next_free_by number other after q false is free leads step none = step ∙ free none
  next_free_by number other after q true is free leads step none =
      let e : entry ≡ q = (bytes_eq-Decides entry q).0 is in
      let own : number entry ≡ None = ap number e ∙ none in
      absurd (subst (λ (o : Option ℕ). IsOther pool o entry) own leads)

  pub next_free : (number other after : List ℕ → Option ℕ) → ((q : List ℕ) → number q ≡ None → other q ≡ None) → IsOther pool (number entry) entry
      → Extends pool entry other after → (q : List ℕ) → number q ≡ None → after q ≡ None
  next_free number other after free leads steps q = next_free_by number other after q (bytes_eq entry q) refl (free q) leads (steps q)

  -- a pool in which everything is found, and one entry more
  pub found_more : (old new : List ℕ → Option ℕ) → has_entry pool entry ≡ false → ((q : List ℕ) → old q ≡ index_in pool q) → Extends pool entry old new
      → (q : List ℕ) → new q ≡ index_in (pool ++ entry ∷ []) q
  found_more old new absent found steps q =
      steps q ∙ ap (λ (o : Option ℕ). cond (bytes_eq entry q) (Some (length pool)) o) (found q) ∙ sym (index_in_push pool entry q absent)

-- ---- no entries

pub blank : (n place : ℕ) → slice_index (replicate n 0) place ≡ 0
blank zero place = refl
blank (suc n) zero = refl
blank (suc n) (suc place) = blank n place

pub blank_index : (n : ℕ) (entry : List ℕ) → slot_index (replicate n 0) entry ≡ None
blank_index n entry = ap named (blank n (place_of (text_code entry)))

pub none_held : (entry : List ℕ) → None ≡ index_in [] entry
unfolding has_entry
none_held entry = refl

-- ---- the levels

same_code : (entry q : List ℕ) → bytes_eq entry q ≡ true → text_code q ≡ text_code entry
same_code entry q alike = ap text_code (sym ((bytes_eq-Decides entry q).0 alike))

apart_by : (entry q : List ℕ) (alike : Bool) → bytes_eq entry q ≡ alike → (alike ≡ true → ⊥) → bytes_eq entry q ≡ false
apart_by entry q false is never = is
apart_by entry q true is never = absurd (never refl)

other_code : (entry q : List ℕ) → (text_code q ≡ text_code entry → ⊥) → bytes_eq entry q ≡ false
other_code entry q apart = apart_by entry q (bytes_eq entry q) refl (λ alike. apart (same_code entry q alike))

-- the slot of an entry, once it names the entry
pub slot_names : (pool : List (List ℕ)) (entry : List ℕ) (slots : List ℕ) (place : ℕ) → place < length slots → place ≡ place_of (text_code entry)
    → slice_index slots place ≡ 0 → Names pool entry (slot_index slots) (slot_index (set slots place (suc (length pool))))
slot_names pool entry slots place inside here empty q = elim (cases_eq (place_of (text_code q)) place) [
  | inl same ↦
      let now : slice_index (set slots place (suc (length pool))) (place_of (text_code q)) ≡ suc (length pool) =
      ap (λ (p : ℕ). slice_index (set slots place (suc (length pool))) p) same ∙ get_or-set_same slots place (suc (length pool)) 0 inside in
      let before : slice_index slots (place_of (text_code q)) ≡ 0 = ap (λ (p : ℕ). slice_index slots p) same ∙ empty in
      inr (ap named now, ap named before)
  | inr other ↦
      let now : slice_index (set slots place (suc (length pool))) (place_of (text_code q)) ≡ slice_index slots (place_of (text_code q)) =
      get_or-set_other slots place (place_of (text_code q)) (suc (length pool)) 0 other in
      inl (ap named now, other_code entry q (λ e. other (ap place_of e ∙ sym here)))
]

tied : (k q : ℕ) → q ≡ k → is_eq (nat_cmp k q) ≡ true
tied k q same = rw same (ap is_eq (tied_itself nat_cmp_total k))

untied_by : (k q : ℕ) (o : Ordering) → nat_cmp k q ≡ o → (q ≡ k → ⊥) → is_eq o ≡ false
untied_by k q Less is apart = refl
untied_by k q Equal is apart = absurd (apart (sym (exact_unsigned k q is)))
untied_by k q Greater is apart = refl

untied : (k q : ℕ) → (q ≡ k → ⊥) → is_eq (nat_cmp k q) ≡ false
untied k q apart = untied_by k q (nat_cmp k q) refl apart

-- the code of an entry, once it names the entry
pub code_names : (pool : List (List ℕ)) (entry : List ℕ) (old new : BTreeMap ℕ ℕ) → code_index old entry ≡ None
    → ((k : ℕ) → get nat_cmp new k ≡ cond (is_eq (nat_cmp (text_code entry) k)) (Some (length pool)) (get nat_cmp old k))
    → Names pool entry (code_index old) (code_index new)
code_names pool entry old new none updates q = elim (cases_eq (text_code q) (text_code entry)) [
  | inl same ↦ inr (updates (text_code q) ∙ rw (tied (text_code entry) (text_code q) same) refl, ap (get nat_cmp old) same ∙ none)
  | inr other ↦ inl (updates (text_code q) ∙ rw (untied (text_code entry) (text_code q) other) refl, other_code entry q other)
]

-- a number is the next one only if there was none
pub next_is_new : (found : Option ℕ) (index next : ℕ) → ForSome found (λ i. i < next) → index ≡ unwrap_or found next → index ≡ next → found ≡ None
next_is_new None index next below numbered last = refl
next_is_new (Some i) index next below numbered last = absurd (omega (arith, below i refl, numbered, last))

pub other_is_old : (found : Option ℕ) (index next : ℕ) → index ≡ unwrap_or found next → (index ≡ next → ⊥) → found ≡ Some index
other_is_old None index next numbered apart = absurd (apart numbered)
other_is_old (Some i) index next numbered apart = ap Some (sym numbered)

-- an index that a code has already is kept
pub code_kept : (entry : List ℕ) (old new : BTreeMap ℕ ℕ) (index : ℕ) → code_index old entry ≡ Some index
    → ((k : ℕ) → get nat_cmp new k ≡ cond (is_eq (nat_cmp (text_code entry) k)) (Some index) (get nat_cmp old k)) → (q : List ℕ)
    → code_index new q ≡ code_index old q
code_kept entry old new index is updates q = elim (cases_eq (text_code q) (text_code entry)) [
  | inl same ↦ updates (text_code q) ∙ rw (tied (text_code entry) (text_code q) same) (sym (ap (get nat_cmp old) same ∙ is))
  | inr other ↦ updates (text_code q) ∙ rw (untied (text_code entry) (text_code q) other) refl
]

-- ---- the others

apart_in_order : (bs cs ks : List ℕ) → bytes_eq bs cs ≡ false → is_eq (slice_cmp nat_cmp bs ks) ≡ true → is_eq (slice_cmp nat_cmp cs ks) ≡ false
apart_in_order bs cs ks apart is =
    let here : bs ≡ ks = (bytes_eq-Decides bs ks).0 (sym (is_eq-slice_cmp bs ks) ∙ is) in
    is_eq-slice_cmp cs ks ∙ apart_by cs ks (bytes_eq cs ks) refl
    (λ alike. let same : bs ≡ cs = here ∙ sym ((bytes_eq-Decides cs ks).0 alike) in
    let no : bytes_eq bs cs ≡ true = (bytes_eq-Decides bs cs).1 same in
    absurd (cc))

bytes_by : {A : Type 0} (old new : BTreeMap (Vec ℕ A) ℕ) (bs cs : List ℕ) (w : Option ℕ) (alike : Bool) → bytes_eq bs cs ≡ alike → bytes_index new bs ≡ w
    → (alike ≡ false → bytes_index new cs ≡ bytes_index old cs) → bytes_index new cs ≡ cond alike w (bytes_index old cs)
bytes_by {A} old new bs cs w true is here other = subst (λ (q : List ℕ). bytes_index new q ≡ w) ((bytes_eq-Decides bs cs).0 is) here
bytes_by {A} old new bs cs w false is here other = other refl

other_entries : {K : Type 0} (eq : K → K → Bool) (test other : K → Bool) (old new : List (K × ℕ)) → KeepsOthers eq test old new → IsKeyTest eq other
    → AreApart test other → lookup other new ≡ lookup other old
unfolding KeepsOthers
other_entries {K} eq test other old new keeps is apart = keeps other is apart

-- what the bytes lead to after a change at some bytes
pub bytes_after : {A : Type 0} (bs : List ℕ) (old new : BTreeMap (Vec ℕ A) ℕ) (w : Option ℕ)
    → UpdatesBy (λ x y. slice_cmp nat_cmp x.items y.items) (λ k. slice_cmp nat_cmp bs k.items) old new w
    → (cs : List ℕ) → bytes_index new cs ≡ cond (bytes_eq bs cs) w (bytes_index old cs)
bytes_after {A} bs old new w updates cs =
    bytes_by old new bs cs w (bytes_eq bs cs) refl updates.1
    (λ apart. other_entries (eq_by_cmp (λ x y. slice_cmp nat_cmp x.items y.items)) (is_at (λ k. slice_cmp nat_cmp bs k.items))
    (is_at (λ k. slice_cmp nat_cmp cs k.items)) old.entries new.entries updates.3
    (λ x y. (eq_by_cmp_equiv nat_list_cmp_total).congr cs x.items y.items) (λ k. apart_in_order bs cs k.items apart))
