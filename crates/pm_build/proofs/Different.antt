-- Different contents: offsets, places, and what one more changes.
use Rattle.std.proofs.Common.{◌≡◌, ◌≢◌, ℕ, zero, suc, ◌+◌, ◌<◌, ◌≤◌, Bool, true, false, cond, List, [], ◌∷◌, ◌++◌, length, map, take, ◌⊎◌, inl, inr}
use Rattle.std.proofs.Common.{Option, Some, None, refl, sym, ap, subst, ◌∙◌, append_assoc, arith}
use Rattle.std.specs.Option.{is_some}
use Rattle.std.specs.List.{AllByRecursion, Contains, concat}
use Rattle.std.specs.Str.{bytes_eq}
use Rattle.std.proofs.lemmas.Bool.{true≢false, cond-true, cond-false, false_from_ne_true}
use Rattle.std.proofs.lemmas.List.{length-append, map_push, get_or_append_left}
use Rattle.std.proofs.lemmas.List.Elements.{All-from_recursion, Contains-append_right}
use Rattle.std.proofs.lemmas.Slice.Eq.{bytes_eq-Decides}
use Rattle.pm_build.specs.Different.{offset_from, with_content, with_contents, contents_of, content_at}
use Rattle.pm_build.specs.Placed.{AreDifferent}
use Rattle.pm_build.specs.Runs.{TileRun, repeated, tiles_in}
use Rattle.pm_build.specs.Tiles.{Tile}
use Rattle.pm_build.proofs.Joining.{HasCount}
use Rattle.pm_build.proofs.Pieces.{all_push}

pub same_bytes : (x : List ℕ) → bytes_eq x x ≡ true
same_bytes x = (bytes_eq-Decides x x).1 refl

other_bytes : (x y : List ℕ) → x ≢ y → bytes_eq x y ≡ false
other_bytes x y n = false_from_ne_true (bytes_eq x y) (λ h. n ((bytes_eq-Decides x y).0 h))

-- a content that isn't there is none of them
pub record IsNone (from : ℕ) (c : List ℕ) (cs : List (List ℕ)) (q : List ℕ) : Type 0 where
  pub test : bytes_eq q c ≡ false
  pub rest : offset_from (from + length c) cs q ≡ None

pub none_parts : (from : ℕ) (c : List ℕ) (cs : List (List ℕ)) (q : List ℕ) → offset_from from (c ∷ cs) q ≡ None → IsNone from c cs q
unfolding offset_from
none_parts from c cs q h = by (bytes_eq q c) refl h
  where
    by : (b : Bool) → bytes_eq q c ≡ b → cond b (Some from) (offset_from (from + length c) cs q) ≡ None → IsNone from c cs q
    by true e g = cc
    by false e g = record { test = e; rest = g }

-- ---- the offsets with one more

pub push_same : (from : ℕ) (cs : List (List ℕ)) (d : List ℕ) → offset_from from cs d ≡ None
    → offset_from from (cs ++ d ∷ []) d ≡ Some (from + length (concat cs))
unfolding offset_from
push_same from [] d h = cond-true (bytes_eq d d) _ _ (same_bytes d) ∙ ap (λ (n : ℕ). Some n) (let e : from ≡ from + 0 = omega arith in e)
push_same from (c ∷ cs) d h =
    let n = none_parts from c cs d h in
    let e : from + length c + length (concat cs) ≡ from + length (c ++ concat cs) = omega (arith, length-append c (concat cs)) in
    cond-false (bytes_eq d c) _ _ n.test ∙ push_same (from + length c) cs d n.rest ∙ ap (λ (n : ℕ). Some n) e

pub push_kept : (from : ℕ) (cs : List (List ℕ)) (d q : List ℕ) (k : ℕ) → offset_from from cs q ≡ Some k → offset_from from (cs ++ d ∷ []) q ≡ Some k
unfolding offset_from
push_kept from [] d q k h = cc
push_kept from (c ∷ cs) d q k h = by (bytes_eq q c) (push_kept (from + length c) cs d q k) h
  where
    by : (b : Bool) → (offset_from (from + length c) cs q ≡ Some k → offset_from (from + length c) (cs ++ d ∷ []) q ≡ Some k)
        → cond b (Some from) (offset_from (from + length c) cs q) ≡ Some k
        → cond b (Some from) (offset_from (from + length c) (cs ++ d ∷ []) q) ≡ Some k
    by true on g = g
    by false on g = on g

pub concat_push : (cs : List (List ℕ)) (d : List ℕ) → length (concat (cs ++ d ∷ [])) ≡ length (concat cs) + length d
concat_push [] d = omega (arith, length-append d [])
concat_push (c ∷ cs) d = omega (arith, length-append c (concat (cs ++ d ∷ [])), length-append c (concat cs), concat_push cs d)

-- ---- a content more

pub with_there : (cs : List (List ℕ)) (d : List ℕ) (k : ℕ) → offset_from 0 cs d ≡ Some k → cs ≡ with_content cs d
unfolding with_content
with_there cs d k h = sym (cond-true (is_some (offset_from 0 cs d)) _ _ (ap (λ (o : Option ℕ). is_some o) h))

pub with_new : (cs : List (List ℕ)) (d : List ℕ) → offset_from 0 cs d ≡ None → with_content cs d ≡ cs ++ d ∷ []
unfolding with_content
with_new cs d h = cond-false (is_some (offset_from 0 cs d)) _ _ (ap (λ (o : Option ℕ). is_some o) h)

-- a content is there or not
pub by_offset : (cs : List (List ℕ)) (d : List ℕ) → ((k : ℕ) × (offset_from 0 cs d ≡ Some k)) ⊎ (offset_from 0 cs d ≡ None)
by_offset cs d = by (offset_from 0 cs d) refl
  where
    by : (o : Option ℕ) → offset_from 0 cs d ≡ o → ((k : ℕ) × (offset_from 0 cs d ≡ Some k)) ⊎ (offset_from 0 cs d ≡ None)
    by None e = inr e
    by (Some k) e = inl (k, e)

-- it is among those with it
pub with_has : (cs : List (List ℕ)) (d : List ℕ) → (k : ℕ) × (offset_from 0 (with_content cs d) d ≡ Some k)
with_has cs d = elim (by_offset cs d) [
  | inl there ↦ (there.0, ap (λ (x : List (List ℕ)). offset_from 0 x d) (sym (with_there cs d there.0 there.1)) ∙ there.1)
  | inr none ↦ (0 + length (concat cs), ap (λ (x : List (List ℕ)). offset_from 0 x d) (with_new cs d none) ∙ push_same 0 cs d none)
]

-- and changes nothing any more
with_again : (cs : List (List ℕ)) (d : List ℕ) → with_content (with_content cs d) d ≡ with_content cs d
with_again cs d = let has = with_has cs d in sym (with_there (with_content cs d) d has.0 has.1)

-- the others keep their offsets
with_kept : (cs : List (List ℕ)) (d q : List ℕ) (k : ℕ) → offset_from 0 cs q ≡ Some k → offset_from 0 (with_content cs d) q ≡ Some k
with_kept cs d q k h = elim (by_offset cs d) [
  | inl there ↦ ap (λ (x : List (List ℕ)). offset_from 0 x q) (sym (with_there cs d there.0 there.1)) ∙ h
  | inr none ↦ ap (λ (x : List (List ℕ)). offset_from 0 x q) (with_new cs d none) ∙ push_kept 0 cs d q k h
]

pub all_kept : (cs ds : List (List ℕ)) (q : List ℕ) (k : ℕ) → offset_from 0 cs q ≡ Some k → offset_from 0 (with_contents cs ds) q ≡ Some k
unfolding with_contents
all_kept cs [] q k h = h
all_kept cs (d ∷ ds) q k h = all_kept (with_content cs d) ds q k (with_kept cs d q k h)

-- ---- the contents of tiles and of runs

pub with_more : (cs : List (List ℕ)) (d : List ℕ) (ds : List (List ℕ)) → with_contents cs (d ∷ ds) ≡ with_contents (with_content cs d) ds
unfolding with_contents
with_more cs d ds = refl

pub with_none : (cs : List (List ℕ)) → with_contents cs [] ≡ cs
unfolding with_contents
with_none cs = refl

with_push : (cs ds : List (List ℕ)) (d : List ℕ) → with_contents cs (ds ++ d ∷ []) ≡ with_content (with_contents cs ds) d
unfolding with_contents
with_push cs [] d = refl
with_push cs (e ∷ ds) d = with_push (with_content cs e) ds d

pub contents_push : (ts : List Tile) (t : Tile) → contents_of (ts ++ t ∷ []) ≡ with_content (contents_of ts) t.1
contents_push ts t =
    ap (λ (ds : List (List ℕ)). with_contents [] ds) (map_push (λ (u : Tile). u.1) ts t) ∙ with_push [] (map (λ (u : Tile). u.1) ts) t.1

with_repeated : (cs : List (List ℕ)) (first more : ℕ) (c : List ℕ) (ts : List Tile)
    → with_contents cs (map (λ (t : Tile). t.1) (repeated first (suc more) c ++ ts)) ≡ with_contents (with_content cs c) (map (λ (t : Tile). t.1) ts)
with_repeated cs first zero c ts = with_more cs c (map (λ (t : Tile). t.1) ts)
with_repeated cs first (suc more) c ts =
    with_more cs c (map (λ (t : Tile). t.1) (repeated (suc first) (suc more) c ++ ts)) ∙ with_repeated (with_content cs c) (suc first) more c ts
    ∙ ap (λ (x : List (List ℕ)). with_contents x (map (λ (t : Tile). t.1) ts)) (with_again cs c)

with_run : (cs : List (List ℕ)) (r : TileRun) (ts : List Tile) → 0 < r.count
    → with_contents cs (map (λ (t : Tile). t.1) (repeated r.first r.count r.content ++ ts))
    ≡ with_contents (with_content cs r.content) (map (λ (t : Tile). t.1) ts)
with_run cs r ts some = by r.count refl some
  where
    by : (n : ℕ) → r.count ≡ n → 0 < n
        → with_contents cs (map (λ (t : Tile). t.1) (repeated r.first n r.content ++ ts))
        ≡ with_contents (with_content cs r.content) (map (λ (t : Tile). t.1) ts)
    by zero e some = absurd (omega arith)
    by (suc n) e some = with_repeated cs r.first n r.content ts

with_runs : (cs : List (List ℕ)) (rs : List TileRun) → AllByRecursion HasCount rs
    → with_contents cs (map (λ (t : Tile). t.1) (tiles_in rs)) ≡ with_contents cs (map (λ r. r.content) rs)
with_runs cs [] h = refl
with_runs cs (r ∷ rs) h =
    with_run cs r (tiles_in rs) h.0.0 ∙ with_runs (with_content cs r.content) rs h.1 ∙ sym (with_more cs r.content (map (λ x. x.content) rs))

-- the different contents of tiles are those of their runs
pub contents_of_runs : (rs : List TileRun) → AllByRecursion HasCount rs → contents_of (tiles_in rs) ≡ with_contents [] (map (λ r. r.content) rs)
contents_of_runs rs h = with_runs [] rs h

-- ---- that they are different

pub different_push : (from : ℕ) (cs : List (List ℕ)) (d : List ℕ) → AreDifferent cs → offset_from from cs d ≡ None → AreDifferent (cs ++ d ∷ [])
different_push from [] d h none = (tt, tt)
different_push from (c ∷ cs) d h none =
    let n = none_parts from c cs d none in
    let other : d ≢ c = λ same. true≢false (sym (same_bytes d) ∙ ap (λ x. bytes_eq d x) same ∙ n.test) in
    (all_push (λ x. x ≢ c) cs d h.0 other, different_push (from + length c) cs d h.1 n.rest)

different_with : (cs : List (List ℕ)) (d : List ℕ) → AreDifferent cs → AreDifferent (with_content cs d)
different_with cs d h = elim (by_offset cs d) [
  | inl there ↦ subst AreDifferent (with_there cs d there.0 there.1) h
  | inr none ↦ subst AreDifferent (sym (with_new cs d none)) (different_push 0 cs d h none)
]

pub different_all : (cs ds : List (List ℕ)) → AreDifferent cs → AreDifferent (with_contents cs ds)
unfolding with_contents
different_all cs [] h = h
different_all cs (d ∷ ds) h = different_all (with_content cs d) ds (different_with cs d h)

-- what holds of each of them
each_with : (P : List ℕ → Type 0) (cs : List (List ℕ)) (d : List ℕ) → AllByRecursion P cs → P d → AllByRecursion P (with_content cs d)
each_with P cs d h p = elim (by_offset cs d) [
  | inl there ↦ subst (AllByRecursion P) (with_there cs d there.0 there.1) h
  | inr none ↦ subst (AllByRecursion P) (sym (with_new cs d none)) (all_push P cs d h p)
]

each_of_all : (P : List ℕ → Type 0) (cs ds : List (List ℕ)) → AllByRecursion P cs → AllByRecursion P ds → AllByRecursion P (with_contents cs ds)
unfolding with_contents
each_of_all P cs [] h g = h
each_of_all P cs (d ∷ ds) h g = each_of_all P (with_content cs d) ds (each_with P cs d h g.0) g.1

each_there : (all before ds : List (List ℕ)) → all ≡ before ++ ds → AllByRecursion (Contains all) ds
each_there all before [] e = tt
each_there all before (d ∷ ds) e = (
  subst (λ (x : List (List ℕ)). Contains x d) (sym e) (Contains-append_right before (d ∷ ds) d (0, omega arith, refl)),
  each_there all (before ++ d ∷ []) ds (e ∙ sym (append_assoc before (d ∷ []) ds)),
)

-- each of them is the content of a run
pub used_all : (ds : List (List ℕ)) → AllByRecursion (λ c. Contains ds c) (with_contents [] ds)
used_all ds = each_of_all (λ c. Contains ds c) [] ds tt (each_there ds [] ds refl)

-- ---- places

none_from : (from : ℕ) (cs : List (List ℕ)) (q : List ℕ) → ((i : ℕ) → i < length cs → content_at cs i ≡ q → ⊥) → offset_from from cs q ≡ None
unfolding offset_from
none_from from [] q h = refl
none_from from (c ∷ cs) q h =
    cond-false (bytes_eq q c) _ _ (other_bytes q c (λ s. h 0 (omega arith) (sym s)))
    ∙ none_from (from + length c) cs q (λ i lt e. h (suc i) (omega (arith, lt)) e)

-- a content that stands at no place isn't there
pub none_at : (cs : List (List ℕ)) (q : List ℕ) → ((i : ℕ) → i < length cs → content_at cs i ≡ q → ⊥) → offset_from 0 cs q ≡ None
none_at cs q h = none_from 0 cs q h

there_from : (from : ℕ) (cs : List (List ℕ)) (i : ℕ) → i < length cs → (k : ℕ) × (offset_from from cs (content_at cs i) ≡ Some k)
unfolding offset_from
there_from from [] i lt = absurd (omega (arith, lt))
there_from from (c ∷ cs) zero lt = (from, cond-true (bytes_eq c c) _ _ (same_bytes c))
there_from from (c ∷ cs) (suc i) lt = by (bytes_eq (content_at cs i) c) (there_from (from + length c) cs i (omega (arith, lt)))
  where
    by : (b : Bool) → (k : ℕ) × (offset_from (from + length c) cs (content_at cs i) ≡ Some k)
        → (k : ℕ) × (cond b (Some from) (offset_from (from + length c) cs (content_at cs i)) ≡ Some k)
    by true on = (from, refl)
    by false on = on

-- with a content that stands at a place nothing changes
pub with_at : (cs : List (List ℕ)) (i : ℕ) (d : List ℕ) → i < length cs → content_at cs i ≡ d → cs ≡ with_content cs d
with_at cs i d lt is =
    let there = there_from 0 cs i lt in with_there cs d there.0 (ap (λ (q : List ℕ). offset_from 0 cs q) (sym is) ∙ there.1)

-- the offset of the content at a place
pub offset_at : (from : ℕ) (cs : List (List ℕ)) (i : ℕ) → AreDifferent cs → i < length cs
    → offset_from from cs (content_at cs i) ≡ Some (from + length (concat (take i cs)))
unfolding offset_from
offset_at from [] i d lt = absurd (omega (arith, lt))
offset_at from (c ∷ cs) zero d lt =
    cond-true (bytes_eq c c) _ _ (same_bytes c) ∙ ap (λ (n : ℕ). Some n) (let e : from ≡ from + 0 = omega arith in e)
offset_at from (c ∷ cs) (suc i) d lt =
    let other : content_at cs i ≢ c = All-from_recursion (λ x. x ≢ c) cs d.0 i [] (omega (arith, lt)) in
    let e : from + length c + length (concat (take i cs)) ≡ from + length (c ++ concat (take i cs)) = omega (arith, length-append c (concat (take i cs))) in
    cond-false (bytes_eq (content_at cs i) c) _ _ (other_bytes (content_at cs i) c other) ∙ offset_at (from + length c) cs i d.1 (omega (arith, lt))
    ∙ ap (λ (n : ℕ). Some n) e

-- the places of the others stay
pub at_with : (cs : List (List ℕ)) (d : List ℕ) (i : ℕ) → i < length cs → content_at (with_content cs d) i ≡ content_at cs i
at_with cs d i lt = elim (by_offset cs d) [
  | inl there ↦ ap (λ (x : List (List ℕ)). content_at x i) (sym (with_there cs d there.0 there.1))
  | inr none ↦ ap (λ (x : List (List ℕ)). content_at x i) (with_new cs d none) ∙ get_or_append_left cs (d ∷ []) [] i lt
]

pub length_with : (cs : List (List ℕ)) (d : List ℕ) → length cs ≤ length (with_content cs d)
length_with cs d = elim (by_offset cs d) [
  | inl there ↦ omega (arith, ap (λ (x : List (List ℕ)). length x) (with_there cs d there.0 there.1))
  | inr none ↦ omega (arith, ap (λ (x : List (List ℕ)). length x) (with_new cs d none), length-append cs (d ∷ []))
]

with_one : (cs : List (List ℕ)) (d : List ℕ) → length (with_content cs d) ≤ length cs + 1
with_one cs d = elim (by_offset cs d) [
  | inl there ↦ omega (arith, ap (λ (x : List (List ℕ)). length x) (with_there cs d there.0 there.1))
  | inr none ↦ omega (arith, ap (λ (x : List (List ℕ)). length x) (with_new cs d none), length-append cs (d ∷ []))
]

-- there are no more contents than those that they are from
pub count_all : (cs ds : List (List ℕ)) → length (with_contents cs ds) ≤ length cs + length ds
unfolding with_contents
count_all cs [] = omega arith
count_all cs (d ∷ ds) = omega (arith, with_one cs d, count_all (with_content cs d) ds)
