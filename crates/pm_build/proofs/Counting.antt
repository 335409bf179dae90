-- Spans of contents, that is the offset and the length of each: as many as there are contents.
use Rattle.std.proofs.Common.{◌≡◌, ℕ, suc, ◌+◌, ◌<◌, Bool, true, false, cond, eqb, List, [], ◌∷◌, ◌++◌, length, map, Some, Decides, refl, sym, ap, subst, ◌∙◌}
use Rattle.std.proofs.Common.{arith}
use Rattle.std.specs.Cmp.{IsEquivalence, decided}
use Rattle.std.specs.List.{AllByRecursion, Contains, IsDistinct, concat}
use Rattle.std.specs.Set.{is_member}
use Rattle.std.specs.Str.{bytes_eq}
use Rattle.std.proofs.lemmas.Bool.{false_from_ne_true}
use Rattle.std.proofs.lemmas.Bool.Decides.{Decides-and, Decides-eqb, same_from_decides}
use Rattle.std.proofs.lemmas.List.{append_assoc, length-append}
use Rattle.std.proofs.lemmas.List.Elements.{All-contains, All-from_recursion}
use Rattle.std.proofs.lemmas.Map.Made.{length-from_keys, is_member-Decides}
use Rattle.std.proofs.lemmas.Slice.Eq.{bytes_eq-Decides}
use Rattle.pm_directory.specs.Counts.{span_of, same_span, contents_of}
use Rattle.pm_directory.specs.declared.entry.DirectoryEntry.{DirectoryEntry}
use Rattle.pm_build.specs.Runs.{TileRun}
use Rattle.pm_build.specs.Different.{offset_from}
use Rattle.pm_build.specs.Offsets.{spans_from, EachPlaced, ArePlacedRuns}

-- ---- a content at its offset

-- the bytes before a content and after it
pub record Stands (from : ℕ) (cs : List (List ℕ)) (q : List ℕ) (k : ℕ) : Type 0 where
  pub front : List ℕ
  pub rest : List ℕ
  pub bytes : concat cs ≡ front ++ (q ++ rest)
  pub begins : from + length front ≡ k
  pub listed : Contains (spans_from from cs) (k, length q)
  pub among : Contains cs q

behind : (from : ℕ) (c : List ℕ) (cs : List (List ℕ)) (q : List ℕ) (k : ℕ) → Stands (from + length c) cs q k → Stands from (c ∷ cs) q k
behind from c cs q k s = record {
  front = c ++ s.front;
  rest = s.rest;
  bytes = ap (λ x. c ++ x) s.bytes ∙ sym (append_assoc c s.front (q ++ s.rest));
  begins = (let b = s.begins in omega (arith, length-append c s.front));
  listed = (suc s.listed.0, (let l = s.listed.1 in omega arith), s.listed.2);
  among = (suc s.among.0, (let l = s.among.1 in omega arith), s.among.2);
}

here : (from : ℕ) (c : List ℕ) (cs : List (List ℕ)) (q : List ℕ) (k : ℕ) → q ≡ c → from ≡ k → Stands from (c ∷ cs) q k
here from c cs q k same is = record {
  front = [];
  rest = concat cs;
  bytes = ap (λ x. x ++ concat cs) (sym same);
  begins = omega arith;
  listed = (0, omega arith, (let p : (from, length c) ≡ (k, length q) = cc in p));
  among = (0, omega arith, sym same);
}

pub stands : (from : ℕ) (cs : List (List ℕ)) (q : List ℕ) (k : ℕ) → offset_from from cs q ≡ Some k → Stands from cs q k
unfolding offset_from
stands from [] q k h = cc
stands from (c ∷ cs) q k h = by (bytes_eq q c) refl (stands (from + length c) cs q k) h
  where
    by : (b : Bool) → bytes_eq q c ≡ b → (offset_from (from + length c) cs q ≡ Some k → Stands (from + length c) cs q k)
        → cond b (Some from) (offset_from (from + length c) cs q) ≡ Some k → Stands from (c ∷ cs) q k
    by true e on g = here from c cs q k ((bytes_eq-Decides q c).0 e) cc
    by false e on g = behind from c cs q k (on g)

-- ---- the test of two spans

span_Decides : (p q : ℕ × ℕ) → Decides (same_span p q) (p ≡ q)
span_Decides p q =
    let both = Decides-and (eqb p.0 q.0) (eqb p.1 q.1) (Decides-eqb p.0 q.0) (Decides-eqb p.1 q.1) in (
      λ h. let e = both.0 h in ap (λ (n : ℕ). let x : ℕ × ℕ = (n, p.1) in x) e.0 ∙ ap (λ (n : ℕ). let x : ℕ × ℕ = (q.0, n) in x) e.1,
      λ h. both.1 (ap (λ (x : ℕ × ℕ). x.0) h, ap (λ (x : ℕ × ℕ). x.1) h),
    )

span_laws : IsEquivalence same_span
span_laws = decided same_span span_Decides

-- ---- no two contents have one span

apart_behind : (x : ℕ × ℕ) (from : ℕ) (cs : List (List ℕ)) → x.0 < from → AllByRecursion (λ y. same_span x y ≡ false) (spans_from from cs)
apart_behind x from [] lt = tt
apart_behind x from (c ∷ cs) lt = (
  false_from_ne_true (same_span x (from, length c))
      (λ h. let e : x.0 ≡ from = ap (λ (p : ℕ × ℕ). p.0) ((span_Decides x (from, length c)).0 h) in omega arith),
  apart_behind x (from + length c) cs (omega arith),
)

distinct_spans : (from : ℕ) (cs : List (List ℕ)) → AllByRecursion (λ c. 0 < length c) cs → IsDistinct same_span (spans_from from cs)
unfolding IsDistinct
distinct_spans from [] h = tt
distinct_spans from (c ∷ cs) h = (apart_behind (from, length c) (from + length c) cs (let some = h.0 in omega arith), distinct_spans (from + length c) cs h.1)

length_spans : (from : ℕ) (cs : List (List ℕ)) → length (spans_from from cs) ≡ length cs
length_spans from [] = refl
length_spans from (c ∷ cs) = ap suc (length_spans (from + length c) cs)

-- ---- the spans of the entries are those of the contents

listed_spans : (cs : List (List ℕ)) (rs : List TileRun) (es : List DirectoryEntry) → EachPlaced cs rs es
    → AllByRecursion (Contains (spans_from 0 cs)) (map span_of es)
listed_spans cs [] [] h = tt
listed_spans cs [] (e ∷ es) h = absurd h
listed_spans cs (r ∷ rs) [] h = absurd h
listed_spans cs (r ∷ rs) (e ∷ es) h =
    let span : (e.offset, length r.content) ≡ span_of e = ap (λ (n : ℕ). let p : ℕ × ℕ = (e.offset, n) in p) (sym h.0.length_is) in
    (subst (λ (p : ℕ × ℕ). Contains (spans_from 0 cs) p) span (stands 0 cs r.content e.offset h.0.offset_is).listed, listed_spans cs rs es h.1)

-- two lists of spans have the same spans
same_members : (xs ys : List (ℕ × ℕ)) → AllByRecursion (Contains ys) xs → AllByRecursion (Contains xs) ys → (q : ℕ × ℕ)
    → is_member same_span xs q ≡ is_member same_span ys q
same_members xs ys in_ys in_xs q =
    let one = is_member-Decides span_Decides xs q in
    let other = is_member-Decides span_Decides ys q in
    same_from_decides (is_member same_span xs q) (is_member same_span ys q) one (
      λ h. All-contains (Contains xs) ys q (All-from_recursion (Contains xs) ys in_xs) (other.0 h),
      λ h. other.1 (All-contains (Contains ys) xs q (All-from_recursion (Contains ys) xs in_ys) h),
    )

pub as_many_spans : (rs : List TileRun) (es : List DirectoryEntry) (cs : List (List ℕ)) → ArePlacedRuns rs es cs → AllByRecursion (λ c. 0 < length c) cs
    → contents_of es ≡ length cs
as_many_spans rs es cs h some =
    sym (length-from_keys span_laws (spans_from 0 cs) (map span_of es) (distinct_spans 0 cs some)
    (same_members (spans_from 0 cs) (map span_of es) h.reached (listed_spans cs rs es h.each))) ∙ length_spans 0 cs
