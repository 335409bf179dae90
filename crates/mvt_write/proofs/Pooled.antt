-- Pools, entry by entry.
use Rattle.std.proofs.Common.{◌≡◌, ℕ, ◌+◌, ◌<◌, ◌≤◌, Bool, true, false, cond, get_or, not, ◌||◌, eqb, List, [], ◌∷◌, ◌++◌, length}
use Rattle.std.proofs.Common.{refl, sym, ap, subst, ◌∙◌, append-nil, arith}
use Rattle.std.specs.Prelude.{filter, Some, All, slice_get}
use Rattle.std.specs.List.{list_any, position_or_len}
use Rattle.std.specs.Str.{bytes_eq}
use Rattle.std.proofs.lemmas.Bool.Decides.{nat_tests}
use Rattle.std.proofs.lemmas.List.Elements.{filter-append, All-cons, All-filter, All-from_recursion, recursion_from_All}
use Rattle.std.proofs.lemmas.List.Sums.{passes_at_first}
use Rattle.std.proofs.lemmas.Option.{slice_get-get_or}
use Rattle.std.proofs.lemmas.List.Folds.{list_any-append, position_or_len_push, prefix_len-append}
use Rattle.std.proofs.lemmas.Map.Views.{any-filter_same}
use Rattle.std.proofs.lemmas.Slice.Eq.{bytes_eq-Decides}
use Rattle.mvt_write.specs.Pools.{pool_of, index_of, has_entry, with_entry, index_in}

-- a test that is passed is passed before the end
first_within : (test : List ℕ → Bool) (held : List ℕ) (pool : List (List ℕ)) (b : Bool) → test held ≡ b
    → (list_any test pool ≡ true → position_or_len test pool < length pool) → list_any test (held ∷ pool) ≡ true
    → position_or_len test (held ∷ pool) < length (held ∷ pool)
first_within test held pool true is behind e = rw is (omega arith)
first_within test held pool false is behind e = let within = behind (rw is at e) in rw is (omega (arith, within))

passes_within : (test : List ℕ → Bool) (pool : List (List ℕ)) → list_any test pool ≡ true → position_or_len test pool < length pool
passes_within test [] e = absurd (cc)
passes_within test (held ∷ pool) e = first_within test held pool (test held) refl (passes_within test pool) e

-- one that isn't passed comes to the end
first_fails : (test : List ℕ → Bool) (held : List ℕ) (pool : List (List ℕ)) (b : Bool) → test held ≡ b
    → (list_any test pool ≡ false → position_or_len test pool ≡ length pool) → list_any test (held ∷ pool) ≡ false
    → position_or_len test (held ∷ pool) ≡ length (held ∷ pool)
first_fails test held pool true is behind e = let no : true ≡ false = rw is at e in absurd (cc)
first_fails test held pool false is behind e = let end = behind (rw is at e) in rw is (omega (arith, end))

fails_to_end : (test : List ℕ → Bool) (pool : List (List ℕ)) → list_any test pool ≡ false → position_or_len test pool ≡ length pool
fails_to_end test [] e = refl
fails_to_end test (held ∷ pool) e = first_fails test held pool (test held) refl (fails_to_end test pool) e

pub index_within : (pool : List (List ℕ)) (entry : List ℕ) → has_entry pool entry ≡ true → index_of pool entry < length pool
unfolding has_entry index_of
index_within pool entry has = passes_within (λ held. bytes_eq held entry) pool has

index_end : (pool : List (List ℕ)) (entry : List ℕ) → has_entry pool entry ≡ false → index_of pool entry ≡ length pool
unfolding has_entry index_of
index_end pool entry has = fails_to_end (λ held. bytes_eq held entry) pool has

or_end : (a b : Bool) → (a || (b || false)) ≡ (a || b)
or_end true b = refl
or_end false true = refl
or_end false false = refl

has_push : (pool : List (List ℕ)) (entry query : List ℕ) → has_entry (pool ++ entry ∷ []) query ≡ (has_entry pool query || bytes_eq entry query)
unfolding has_entry
has_push pool entry query = list_any-append (λ held. bytes_eq held query) pool (entry ∷ [])
    ∙ or_end (list_any (λ held. bytes_eq held query) pool) (bytes_eq entry query)

index_push : (pool : List (List ℕ)) (entry query : List ℕ)
    → index_of (pool ++ entry ∷ []) query ≡ cond (eqb (index_of pool query) (length pool)) (length pool + cond (bytes_eq entry query) 0 1) (index_of pool query)
unfolding index_of
index_push pool entry query = position_or_len_push (λ held. bytes_eq held query) pool entry

push_by : (pool : List (List ℕ)) (entry query : List ℕ) (same has : Bool) → has_entry pool entry ≡ false → bytes_eq entry query ≡ same
    → has_entry pool query ≡ has → index_in (pool ++ entry ∷ []) query ≡ cond same (Some (length pool)) (index_in pool query)
push_by pool entry query true true absent alike is =
    let e : entry ≡ query = (bytes_eq-Decides entry query).0 alike in
    let no : has_entry pool query ≡ false = subst (λ (q : List ℕ). has_entry pool q ≡ false) e absent in
    absurd (cc)
push_by pool entry query true false absent alike is =
    let end = index_end pool query is in
    rw (has_push pool entry query, index_push pool entry query, is, alike) (ap Some (grind (arith, nat_tests)))
push_by pool entry query false true absent alike is =
    let within = index_within pool query is in
    rw (has_push pool entry query, index_push pool entry query, is, alike) (ap Some (grind (arith, nat_tests)))
push_by pool entry query false false absent alike is =
    rw (has_push pool entry query, is, alike) refl

-- what is found once an entry is added
pub index_in_push : (pool : List (List ℕ)) (entry query : List ℕ) → has_entry pool entry ≡ false
    → index_in (pool ++ entry ∷ []) query ≡ cond (bytes_eq entry query) (Some (length pool)) (index_in pool query)
index_in_push pool entry query absent = push_by pool entry query (bytes_eq entry query) (has_entry pool query) absent refl refl

-- an entry is held once it is added
with_entry_by : (pool : List (List ℕ)) (entry : List ℕ) (has : Bool) → has_entry pool entry ≡ has → has_entry (with_entry pool entry) entry ≡ true
with_entry_by pool entry true is = rw is is
with_entry_by pool entry false is = rw (is, has_push pool entry entry, is) ((bytes_eq-Decides entry entry).1 refl)

pub has-with_entry : (pool : List (List ℕ)) (entry : List ℕ) → has_entry (with_entry pool entry) entry ≡ true
has-with_entry pool entry = with_entry_by pool entry (has_entry pool entry) refl

-- an entry that is added is the last
pub placed_last : (pool : List (List ℕ)) (entry : List ℕ) → has_entry pool entry ≡ false → index_of (pool ++ entry ∷ []) entry ≡ length pool
placed_last pool entry absent =
    let end = index_end pool entry absent in
    let at : eqb (index_of pool entry) (length pool) ≡ true = rw end (grind (arith, nat_tests)) in
    let alike : bytes_eq entry entry ≡ true = (bytes_eq-Decides entry entry).1 refl in
    index_push pool entry entry ∙ rw (at, alike) (omega arith)

-- ---- one use more

-- what is equal to one entry isn't equal to another
apart_by : (held first entry : List ℕ) (b : Bool) → bytes_eq first entry ≡ false → bytes_eq held entry ≡ true → bytes_eq held first ≡ b → not b ≡ true
apart_by held first entry false apart is same = refl
apart_by held first entry true apart is same =
    let e : first ≡ entry = sym ((bytes_eq-Decides held first).0 same) ∙ (bytes_eq-Decides held entry).0 is in
    let alike : bytes_eq first entry ≡ true = (bytes_eq-Decides first entry).1 e in
    absurd (cc)

abbrev without : List ℕ → List (List ℕ) → List (List ℕ)
without first pool = filter (λ held. not (bytes_eq held first)) pool

length_by : (first held : List ℕ) (pool : List (List ℕ)) (same : Bool) → bytes_eq held first ≡ same → length (without first pool) ≤ length pool
    → length (without first (held ∷ pool)) ≤ length (held ∷ pool)
length_by first held pool true is behind = rw is (omega (arith, behind))
length_by first held pool false is behind = rw is (omega (arith, behind))

length-without : (first : List ℕ) (pool : List (List ℕ)) → length (without first pool) ≤ length pool
length-without first [] = omega arith
length-without first (held ∷ pool) = length_by first held pool (bytes_eq held first) refl (length-without first pool)

-- another entry stays, where one is taken out
has-without : (first : List ℕ) (pool : List (List ℕ)) (entry : List ℕ) → bytes_eq first entry ≡ false
    → has_entry (without first pool) entry ≡ has_entry pool entry
unfolding has_entry
has-without first pool entry apart =
    any-filter_same (λ held. bytes_eq held entry) (λ held. not (bytes_eq held first)) true
    (λ held is. apart_by held first entry (bytes_eq held first) apart is refl) pool

has-cons : (first : List ℕ) (pool : List (List ℕ)) (entry : List ℕ) → has_entry (first ∷ pool) entry ≡ (bytes_eq first entry || has_entry pool entry)
unfolding has_entry
has-cons first pool entry = refl

pub with_held : (pool : List (List ℕ)) (entry : List ℕ) → has_entry pool entry ≡ true → with_entry pool entry ≡ pool
with_held pool entry has = rw has refl

apart_back : (first entry : List ℕ) (b : Bool) → bytes_eq first entry ≡ false → bytes_eq entry first ≡ b → b ≡ false
apart_back first entry false apart is = refl
apart_back first entry true apart is =
    let alike : bytes_eq first entry ≡ true = (bytes_eq-Decides first entry).1 (sym ((bytes_eq-Decides entry first).0 is)) in
    absurd (cc)

pub with_new : (pool : List (List ℕ)) (entry : List ℕ) → has_entry pool entry ≡ false → with_entry pool entry ≡ pool ++ entry ∷ []
with_new pool entry has = rw has refl

push_first : (first : List ℕ) (pool : List (List ℕ)) (entry : List ℕ) (same has : Bool) → bytes_eq first entry ≡ same → has_entry pool entry ≡ has
    → first ∷ without first (with_entry pool entry) ≡ with_entry (first ∷ without first pool) entry
push_first first pool entry true true same has =
    let there : has_entry (first ∷ without first pool) entry ≡ true = has-cons first (without first pool) entry ∙ rw same refl in
    ap (λ (p : List (List ℕ)). first ∷ without first p) (with_held pool entry has) ∙ sym (with_held (first ∷ without first pool) entry there)
push_first first pool entry true false same has =
    let there : has_entry (first ∷ without first pool) entry ≡ true = has-cons first (without first pool) entry ∙ rw same refl in
    let e : first ≡ entry = (bytes_eq-Decides first entry).0 same in
    let back : bytes_eq entry first ≡ true = (bytes_eq-Decides entry first).1 (sym e) in
    let last : without first (entry ∷ []) ≡ [] = rw back refl in
    let less : without first (pool ++ entry ∷ []) ≡ without first pool = filter-append (λ held. not (bytes_eq held first)) pool (entry ∷ [])
    ∙ ap (λ (end : List (List ℕ)). without first pool ++ end) last ∙ append-nil (without first pool) in
    ap (λ (p : List (List ℕ)). first ∷ without first p) (with_new pool entry has) ∙ ap (λ (p : List (List ℕ)). first ∷ p) less
    ∙ sym (with_held (first ∷ without first pool) entry there)
push_first first pool entry false true same has =
    let there : has_entry (first ∷ without first pool) entry ≡ true = has-cons first (without first pool) entry
    ∙ rw (same, has-without first pool entry same) has in
    ap (λ (p : List (List ℕ)). first ∷ without first p) (with_held pool entry has) ∙ sym (with_held (first ∷ without first pool) entry there)
push_first first pool entry false false same has =
    let there : has_entry (first ∷ without first pool) entry ≡ false = has-cons first (without first pool) entry
    ∙ rw (same, has-without first pool entry same) has in
    let turned : bytes_eq entry first ≡ false = apart_back first entry (bytes_eq entry first) same refl in
    let last : without first (entry ∷ []) ≡ entry ∷ [] = rw turned refl in
    let more : without first (pool ++ entry ∷ []) ≡ without first pool ++ entry ∷ [] = filter-append (λ held. not (bytes_eq held first)) pool (entry ∷ [])
    ∙ ap (λ (end : List (List ℕ)). without first pool ++ end) last in
    ap (λ (p : List (List ℕ)). first ∷ without first p) (with_new pool entry has) ∙ ap (λ (p : List (List ℕ)). first ∷ p) more
    ∙ sym (with_new (first ∷ without first pool) entry there)

-- a pool after one use more
pub pool_of-push : (uses : List (List ℕ)) (entry : List ℕ) → pool_of (uses ++ entry ∷ []) ≡ with_entry (pool_of uses) entry
unfolding pool_of has_entry
pool_of-push [] entry = refl
pool_of-push (first ∷ uses) entry = ap (λ (pool : List (List ℕ)). first ∷ without first pool) (pool_of-push uses entry)
    ∙ push_first first (pool_of uses) entry (bytes_eq first entry) (has_entry (pool_of uses) entry) refl refl

-- ---- more entries change no index

grows_by : (pool : List (List ℕ)) (entry : List ℕ) (has : Bool) → has_entry pool entry ≡ has → (more : List (List ℕ)) × (with_entry pool entry ≡ pool ++ more)
grows_by pool entry true has = ([], with_held pool entry has ∙ sym (append-nil pool))
grows_by pool entry false has = (entry ∷ [], with_new pool entry has)

pub grows : (pool : List (List ℕ)) (entry : List ℕ) → (more : List (List ℕ)) × (with_entry pool entry ≡ pool ++ more)
grows pool entry = grows_by pool entry (has_entry pool entry) refl

pub index_of-append : (pool more : List (List ℕ)) (entry : List ℕ) → has_entry pool entry ≡ true → index_of (pool ++ more) entry ≡ index_of pool entry
unfolding index_of
index_of-append pool more entry has =
    let within : position_or_len (λ held. bytes_eq held entry) pool < length pool = index_within pool entry has in
    let apart : eqb (position_or_len (λ held. bytes_eq held entry) pool) (length pool) ≡ false = grind (arith, nat_tests, within) in
    prefix_len-append (λ held. not (bytes_eq held entry)) pool more ∙ rw apart refl

-- ---- what a pool holds

-- an entry stands at its index
pub found_at : (pool : List (List ℕ)) (entry : List ℕ) → has_entry pool entry ≡ true → slice_get pool (index_of pool entry) ≡ Some entry
unfolding index_of
found_at pool entry has =
    let test = λ (held : List ℕ). bytes_eq held entry in
    let within : position_or_len test pool < length pool = index_within pool entry has in
    let passes : bytes_eq (get_or pool (position_or_len test pool) []) entry ≡ true = passes_at_first test pool [] within in
    slice_get-get_or pool (position_or_len test pool) [] within ∙ ap Some ((bytes_eq-Decides (get_or pool (position_or_len test pool) []) entry).0 passes)

-- a pool holds what is used
has_by : (first : List ℕ) (uses : List (List ℕ)) (entry : List ℕ) (same : Bool) → bytes_eq first entry ≡ same
    → has_entry (pool_of uses) entry ≡ has_entry uses entry → has_entry (first ∷ without first (pool_of uses)) entry ≡ has_entry (first ∷ uses) entry
has_by first uses entry true is behind = rw (has-cons first (without first (pool_of uses)) entry, has-cons first uses entry, is) refl
has_by first uses entry false is behind =
    rw (has-cons first (without first (pool_of uses)) entry, has-cons first uses entry, is, has-without first (pool_of uses) entry is) behind

pub has-pool_of : (uses : List (List ℕ)) (entry : List ℕ) → has_entry (pool_of uses) entry ≡ has_entry uses entry
unfolding pool_of
has-pool_of [] entry = refl
has-pool_of (first ∷ uses) entry = has_by first uses entry (bytes_eq first entry) refl (has-pool_of uses entry)

-- and nothing else
pub All-pool_of : (P : List ℕ → Type 0) (uses : List (List ℕ)) → All P uses → All P (pool_of uses)
unfolding pool_of
All-pool_of P [] all = all
All-pool_of P (first ∷ uses) all =
    let each = recursion_from_All P (first ∷ uses) all in
    All-cons P first (without first (pool_of uses)) each.0
    (All-filter (λ held. not (bytes_eq held first)) P (pool_of uses) (All-pool_of P uses (All-from_recursion P uses each.1)))

pub length-pool_of : (uses : List (List ℕ)) → length (pool_of uses) ≤ length uses
unfolding pool_of
length-pool_of [] = omega arith
length-pool_of (first ∷ uses) = omega (arith, length-pool_of uses, length-without first (pool_of uses))
