-- The longest runs of tiles: that `runs_of` are the longest runs, that no others are, and what one tile more does to them.
use Rattle.std.proofs.Common.{◌≡◌, ℕ, zero, suc, ◌+◌, ◌<◌, ◌≤◌, ◌^◌, Bool, true, false, cond, eqb, ltb, List, [], ◌∷◌, ◌++◌, length, refl, sym}
use Rattle.std.proofs.Common.{ap, subst, ◌∙◌, arith, if◌then◌else◌}
use Rattle.std.specs.List.{AllByRecursion}
use Rattle.std.proofs.lemmas.Bool.{false≢true, eqb-true, eq-eqb, ltb-true, lt-ltb, and_parts, and_from}
use Rattle.std.proofs.lemmas.List.{append_assoc, append-nil, length-append}
use Rattle.std.proofs.lemmas.Slice.Eq.{bytes_eq-Decides}
use Rattle.pm_build.specs.declared.limit.TheConstants.{MAX_ENTRIES}
use Rattle.pm_build.specs.Building.{AreTooMany}
use Rattle.pm_build.specs.Tiles.{Tile}
use Rattle.pm_build.specs.Runs.{TileRun, repeated, tiles_in, CanJoin, NoneJoin, AreLongestRuns}
use Rattle.pm_build.specs.Joined.{goes_on, run_of, one_more, runs_from, runs_of, goes_on_last, last_grown, with_tile}

-- ---- the test

-- what it means that a tile continues a run
pub record Follows (r : TileRun) (t : Tile) : Type 0 where
  pub id_is : t.0 ≡ r.first + r.count
  pub room : r.count < 4294967295
  pub content_is : t.1 ≡ r.content

pub follows : (r : TileRun) (t : Tile) → goes_on r t ≡ true → Follows r t
follows r t h =
    let both = and_parts (eqb t.0 (r.first + r.count)) _ h in
    let rest = and_parts (ltb r.count 4294967295) _ both.1 in
    record {
      id_is = eqb-true _ _ both.0;
      room = ltb-true _ _ rest.0;
      content_is = (bytes_eq-Decides t.1 r.content).0 rest.1;
    }

passes : (r : TileRun) (t : Tile) → Follows r t → goes_on r t ≡ true
passes r t f = and_from _ _ (eq-eqb _ _ f.id_is) (and_from _ _ (lt-ltb _ _ f.room) ((bytes_eq-Decides t.1 r.content).1 f.content_is))

-- ---- one tile more

pub step_on : (r : TileRun) (t : Tile) (ts : List Tile) → goes_on r t ≡ true → runs_from r (t ∷ ts) ≡ runs_from (one_more r) ts
unfolding runs_from
step_on r t ts h = ap (λ b. cond b (runs_from (one_more r) ts) (r ∷ runs_from (run_of t) ts)) h

pub step_off : (r : TileRun) (t : Tile) (ts : List Tile) → goes_on r t ≡ false → runs_from r (t ∷ ts) ≡ r ∷ runs_from (run_of t) ts
unfolding runs_from
step_off r t ts h = ap (λ b. cond b (runs_from (one_more r) ts) (r ∷ runs_from (run_of t) ts)) h

step_done : (r : TileRun) → runs_from r [] ≡ r ∷ []
unfolding runs_from
step_done r = refl

runs_of_first : (t : Tile) (ts : List Tile) → runs_of (t ∷ ts) ≡ runs_from (run_of t) ts
unfolding runs_of
runs_of_first t ts = refl

-- ---- they are the longest runs

repeated_push : (first count : ℕ) (content : List ℕ) (ts : List Tile)
    → repeated first (suc count) content ++ ts ≡ repeated first count content ++ (first + count, content) ∷ ts
repeated_push first zero content ts = let e : first ≡ first + zero = omega arith in ap (λ (n : ℕ). let t : Tile = (n, content) in t ∷ ts) e
repeated_push first (suc count) content ts =
    let e : suc first + count ≡ first + suc count = omega arith in
    ap (λ (x : List Tile). let t : Tile = (first, content) in t ∷ x)
    (repeated_push (suc first) count content ts ∙ ap (λ (n : ℕ). let t : Tile = (n, content) in repeated (suc first) count content ++ t ∷ ts) e)

together_from : (r : TileRun) (ts : List Tile) → tiles_in (runs_from r ts) ≡ repeated r.first r.count r.content ++ ts
unfolding runs_from
together_from r [] = refl
together_from r (t ∷ ts) = by (goes_on r t) refl (together_from (one_more r) ts) (together_from (run_of t) ts)
  where
    by : (b : Bool) → goes_on r t ≡ b → tiles_in (runs_from (one_more r) ts) ≡ repeated r.first (r.count + 1) r.content ++ ts
        → tiles_in (runs_from (run_of t) ts) ≡ repeated t.0 1 t.1 ++ ts
        → tiles_in (cond b (runs_from (one_more r) ts) (r ∷ runs_from (run_of t) ts)) ≡ repeated r.first r.count r.content ++ t ∷ ts
    by true h on off =
        let f = follows r t h in
        let e : r.count + 1 ≡ suc r.count = omega arith in
        let same : (r.first + r.count, r.content) ≡ t = cc in
        on ∙ ap (λ n. repeated r.first n r.content ++ ts) e ∙ repeated_push r.first r.count r.content ts
        ∙ ap (λ (x : Tile). repeated r.first r.count r.content ++ x ∷ ts) same
    by false h on off = ap (λ x. repeated r.first r.count r.content ++ x) off

together : (ts : List Tile) → tiles_in (runs_of ts) ≡ ts
unfolding runs_of
together [] = refl
together (t ∷ ts) = together_from (run_of t) ts

-- a run of some tiles, and not of too many
abbrev pub HasCount : TileRun → Type 0
HasCount r = (0 < r.count) × (r.count < 2 ^ 32)

counts_from : (r : TileRun) (ts : List Tile) → HasCount r → AllByRecursion HasCount (runs_from r ts)
unfolding runs_from
counts_from r [] h = (h, tt)
counts_from r (t ∷ ts) h = by (goes_on r t) refl (counts_from (one_more r) ts) (counts_from (run_of t) ts)
  where
    by : (b : Bool) → goes_on r t ≡ b → (HasCount (one_more r) → AllByRecursion HasCount (runs_from (one_more r) ts))
        → (HasCount (run_of t) → AllByRecursion HasCount (runs_from (run_of t) ts))
        → AllByRecursion HasCount (cond b (runs_from (one_more r) ts) (r ∷ runs_from (run_of t) ts))
    by true e on off = on (omega arith, let f = follows r t e in omega (arith, f.room))
    by false e on off = (h, off (omega arith, omega arith))

counts : (ts : List Tile) → AllByRecursion HasCount (runs_of ts)
unfolding runs_of
counts [] = tt
counts (t ∷ ts) = counts_from (run_of t) ts (omega arith, omega arith)

-- the first of the runs has the run's first id
record Begins (r : TileRun) (runs : List TileRun) : Type 0 where
  head : TileRun
  rest : List TileRun
  is : runs ≡ head ∷ rest
  first_is : head.first ≡ r.first
  content_is : head.content ≡ r.content

begins : (r : TileRun) (ts : List Tile) → Begins r (runs_from r ts)
unfolding runs_from
begins r [] = record { head = r; rest = []; is = refl; first_is = refl; content_is = refl }
begins r (t ∷ ts) = elim (goes_on r t) as (λ b. Begins r (cond b (runs_from (one_more r) ts) (r ∷ runs_from (run_of t) ts))) [
  | true ↦ (let b = begins (one_more r) ts in record { head = b.head; rest = b.rest; is = b.is; first_is = b.first_is; content_is = b.content_is })
  | false ↦ record { head = r; rest = runs_from (run_of t) ts; is = refl; first_is = refl; content_is = refl }
]

cannot_join : (r : TileRun) (t : Tile) (s : TileRun) → goes_on r t ≡ false → s.first ≡ t.0 → s.content ≡ t.1 → ¬ CanJoin r s
cannot_join r t s h first content can =
    false≢true (sym h ∙ passes r t (record { id_is = sym first ∙ can.follows; room = (let k = can.room in omega arith); content_is = sym content ∙ can.same }))

behind_none : (r : TileRun) (t : Tile) (runs : List TileRun) → goes_on r t ≡ false → Begins (run_of t) runs → NoneJoin runs → NoneJoin (r ∷ runs)
behind_none r t runs h b n = subst (λ (x : List TileRun). NoneJoin (r ∷ x)) (sym b.is) (cannot_join r t b.head h b.first_is b.content_is, subst NoneJoin b.is n)

none_from : (r : TileRun) (ts : List Tile) → NoneJoin (runs_from r ts)
unfolding runs_from
none_from r [] = tt
none_from r (t ∷ ts) = by (goes_on r t) refl (none_from (one_more r) ts) (none_from (run_of t) ts)
  where
    by : (b : Bool) → goes_on r t ≡ b → NoneJoin (runs_from (one_more r) ts) → NoneJoin (runs_from (run_of t) ts)
        → NoneJoin (cond b (runs_from (one_more r) ts) (r ∷ runs_from (run_of t) ts))
    by true e on off = on
    by false e on off = behind_none r t (runs_from (run_of t) ts) e (begins (run_of t) ts) off

none : (ts : List Tile) → NoneJoin (runs_of ts)
unfolding runs_of
none [] = tt
none (t ∷ ts) = none_from (run_of t) ts

pub longest_from_runs_of : (ts : List Tile) → AreLongestRuns ts (runs_of ts)
longest_from_runs_of ts = record { together = together ts; each = counts ts; longest = none ts }

-- ---- no others are

-- a run takes up tiles that go on with it
takes_up : (first count more : ℕ) (content : List ℕ) (ts : List Tile) → count + more < 2 ^ 32
    → runs_from (record { first = first; count = count; content = content }) (repeated (first + count) more content ++ ts)
    ≡ runs_from (record { first = first; count = count + more; content = content }) ts
takes_up first count zero content ts h =
    let e : count ≡ count + zero = omega arith in
    ap (λ (n : ℕ). let r : TileRun = record { first = first; count = n; content = content } in runs_from r ts) e
takes_up first count (suc more) content ts h =
    let r : TileRun = record { first = first; count = count; content = content } in
    let t : Tile = (first + count, content) in
    let on = step_on r t (repeated (suc (first + count)) more content ++ ts) (passes r t (record { id_is = refl; room = omega arith; content_is = refl })) in
    let e : suc (first + count) ≡ first + (count + 1) = omega arith in
    let k : count + 1 + more ≡ count + suc more = omega arith in
    on ∙ ap (λ (n : ℕ). runs_from (one_more r) (repeated n more content ++ ts)) e ∙ takes_up first (count + 1) more content ts (omega arith)
    ∙ ap (λ (n : ℕ). let s : TileRun = record { first = first; count = n; content = content } in runs_from s ts) k

takes_all : (first count : ℕ) (content : List ℕ) (ts : List Tile) → 0 < count → count < 2 ^ 32
    → runs_of (repeated first count content ++ ts) ≡ runs_from (record { first = first; count = count; content = content }) ts
takes_all first zero content ts some fits = absurd (omega arith)
takes_all first (suc more) content ts some fits =
    let t : Tile = (first, content) in
    let e : suc first ≡ first + 1 = omega arith in
    let k : 1 + more ≡ suc more = omega arith in
    runs_of_first t (repeated (suc first) more content ++ ts) ∙ ap (λ (n : ℕ). runs_from (run_of t) (repeated n more content ++ ts)) e
    ∙ takes_up first 1 more content ts (omega arith)
    ∙ ap (λ (n : ℕ). let s : TileRun = record { first = first; count = n; content = content } in runs_from s ts) k

stops_before : (r : TileRun) (first count : ℕ) (content : List ℕ) (ts : List Tile) → 0 < count → ((t : Tile) → t ≡ (first, content) → goes_on r t ≡ false)
    → runs_from r (repeated first count content ++ ts) ≡ r ∷ runs_of (repeated first count content ++ ts)
stops_before r first zero content ts some not = absurd (omega arith)
stops_before r first (suc more) content ts some not =
    let t : Tile = (first, content) in
    let left = repeated (suc first) more content ++ ts in
    step_off r t left (not t refl) ∙ ap (λ x. r ∷ x) (sym (runs_of_first t left))

not_on : (r s : TileRun) → r.count < 2 ^ 32 → ¬ CanJoin r s → (t : Tile) → t ≡ (s.first, s.content) → goes_on r t ≡ false
not_on r s fits cannot t e = by (goes_on r t) refl
  where
    by : (b : Bool) → goes_on r t ≡ b → b ≡ false
    by false h = refl
    by true h =
        let f = follows r t h in
        let first : t.0 ≡ s.first = ap (λ (p : Tile). p.0) e in
        let content : t.1 ≡ s.content = ap (λ (p : Tile). p.1) e in
        absurd (cannot (record { follows = sym first ∙ f.id_is; same = sym content ∙ f.content_is; room = omega (arith, f.room) }))

stops : (r : TileRun) (rs : List TileRun) → r.count < 2 ^ 32 → AllByRecursion HasCount rs → NoneJoin (r ∷ rs)
    → runs_from r (tiles_in rs) ≡ r ∷ runs_of (tiles_in rs)
unfolding runs_of
stops r [] fits each n = step_done r
stops r (s ∷ rs) fits each n = stops_before r s.first s.count s.content (tiles_in rs) each.0.0 (not_on r s fits n.0)

tail_none : (r : TileRun) (rs : List TileRun) → NoneJoin (r ∷ rs) → NoneJoin rs
tail_none r [] n = tt
tail_none r (s ∷ rs) n = n.1

only_runs : (rs : List TileRun) → AllByRecursion HasCount rs → NoneJoin rs → runs_of (tiles_in rs) ≡ rs
unfolding runs_of
only_runs [] each n = refl
only_runs (r ∷ rs) each n =
    takes_all r.first r.count r.content (tiles_in rs) each.0.0 each.0.1 ∙ stops r rs each.0.1 each.1 n
    ∙ ap (λ x. r ∷ x) (only_runs rs each.1 (tail_none r rs n))

-- tiles have one list of longest runs
pub runs_of_from_longest : (ts : List Tile) (runs : List TileRun) → AreLongestRuns ts runs → runs_of ts ≡ runs
runs_of_from_longest ts runs h = ap runs_of (sym h.together) ∙ only_runs runs h.each h.longest

-- ---- one more tile after the others

with_behind : (r : TileRun) (rs : List TileRun) (t : Tile) → 0 < length rs → with_tile (r ∷ rs) t ≡ r ∷ with_tile rs t
with_behind r [] t some = absurd (omega arith)
with_behind r (s ∷ rs) t some = by (goes_on_last (s ∷ rs) t)
  where
    by : (b : Bool) → (if b then r ∷ last_grown (s ∷ rs) else r ∷ s ∷ rs ++ run_of t ∷ []) ≡ r ∷ (if b then last_grown (s ∷ rs) else s ∷ rs ++ run_of t ∷ [])
    by true = refl
    by false = refl

some_from : (r : TileRun) (ts : List Tile) → 0 < length (runs_from r ts)
some_from r ts = let b = begins r ts in omega (arith, ap length b.is)

from_push : (r : TileRun) (ts : List Tile) (t : Tile) → runs_from r (ts ++ t ∷ []) ≡ with_tile (runs_from r ts) t
unfolding runs_from
from_push r [] t = refl
from_push r (u ∷ us) t = by (goes_on r u) (from_push (one_more r) us t) (from_push (run_of u) us t)
  where
    by : (b : Bool) → runs_from (one_more r) (us ++ t ∷ []) ≡ with_tile (runs_from (one_more r) us) t
        → runs_from (run_of u) (us ++ t ∷ []) ≡ with_tile (runs_from (run_of u) us) t
        → cond b (runs_from (one_more r) (us ++ t ∷ [])) (r ∷ runs_from (run_of u) (us ++ t ∷ []))
        ≡ with_tile (cond b (runs_from (one_more r) us) (r ∷ runs_from (run_of u) us)) t
    by true on off = on
    by false on off = ap (λ x. r ∷ x) off ∙ sym (with_behind r (runs_from (run_of u) us) t (some_from (run_of u) us))

-- the longest runs of tiles with one more after them
pub runs_push : (ts : List Tile) (t : Tile) → runs_of (ts ++ t ∷ []) ≡ with_tile (runs_of ts) t
unfolding runs_of runs_from
runs_push [] t = refl
runs_push (u ∷ us) t = from_push (run_of u) us t

-- ---- more tiles have no fewer runs

pub length_grown : (rs : List TileRun) → length (last_grown rs) ≡ length rs
length_grown [] = refl
length_grown (r ∷ []) = refl
length_grown (r ∷ s ∷ rs) = ap suc (length_grown (s ∷ rs))

no_fewer : (rs : List TileRun) (t : Tile) → length rs ≤ length (with_tile rs t)
no_fewer rs t = by (goes_on_last rs t)
  where
    by : (b : Bool) → length rs ≤ length (if b then last_grown rs else rs ++ run_of t ∷ [])
    by true = omega (arith, length_grown rs)
    by false = omega (arith, length-append rs (run_of t ∷ []))

pub runs_behind : (ts us : List Tile) → length (runs_of ts) ≤ length (runs_of (ts ++ us))
runs_behind ts [] = omega (arith, ap (λ (x : List Tile). length (runs_of x)) (append-nil ts))
runs_behind ts (u ∷ us) =
    omega (
      arith,
      no_fewer (runs_of ts) u,
      ap (λ (x : List TileRun). length x) (runs_push ts u),
      runs_behind (ts ++ u ∷ []) us,
      ap (λ (x : List Tile). length (runs_of x)) (append_assoc ts (u ∷ []) us),
    )

-- if tiles need more entries than an archive has, they do with any tiles after them
pub too_many_behind : (ts us : List Tile) (runs : List TileRun) → AreTooMany ts → AreLongestRuns (ts ++ us) runs → MAX_ENTRIES < length runs
too_many_behind ts us runs (found, longest, many) all =
    omega (
      arith,
      many,
      ap (λ (x : List TileRun). length x) (runs_of_from_longest ts found longest),
      runs_behind ts us,
      ap (λ (x : List TileRun). length x) (runs_of_from_longest (ts ++ us) runs all),
    )
