-- What is known of different contents, and how one that is equal is found.
use Rattle.std.proofs.Common.{◌≡◌, ◌≢◌, ℕ, zero, suc, ◌+◌, ◌<◌, ◌≤◌, Bool, true, false, ltb, cond, List, [], ◌∷◌, ◌++◌, length, take, get_or}
use Rattle.std.proofs.Common.{Option, Some, None, inl, inr, refl, sym, ap, subst, ◌∙◌, arith}
use Rattle.std.specs.List.{concat}
use Rattle.std.specs.Ordering.{nat_cmp, is_eq}
use Rattle.std.specs.BTreeMap.{BTreeMap, get, Updates}
use Rattle.std.specs.declared.cmp.Ordering.TheVariants.{Less, Equal, Greater}
use Rattle.std.proofs.lemmas.Bool.{cases_lt, cases_eq, ne_eqb}
use Rattle.std.proofs.lemmas.List.{length-append, get_or_append_left, get_or-append-add}
use Rattle.pm_build.specs.declared.index.Stored.{Stored}
use Rattle.pm_build.specs.Different.{content_at, offset_from}
use Rattle.pm_build.specs.Hashing.{content_hash}
use Rattle.pm_build.specs.Indexed.{AreSpans, up_to, IsLastOf, IsNextOf, IsIndexOf}
use Rattle.pm_build.proofs.Different.{none_at, concat_push}

-- ---- one after the other

pub spans_count : (from : ℕ) (cs : List (List ℕ)) (ss : List Stored) → AreSpans from cs ss → length ss ≡ length cs
spans_count from [] [] h = refl
spans_count from [] (s ∷ ss) h = absurd h
spans_count from (c ∷ cs) [] h = absurd h
spans_count from (c ∷ cs) (s ∷ ss) h = ap suc (spans_count (from + length c) cs ss h.2)

pub span_begins : (from : ℕ) (cs : List (List ℕ)) (ss : List Stored) (i : ℕ) (d : Stored) → AreSpans from cs ss → i < length cs
    → (get_or ss i d).offset ≡ from + length (concat (take i cs))
span_begins from [] ss i d h lt = absurd (omega (arith, lt))
span_begins from (c ∷ cs) [] i d h lt = absurd h
span_begins from (c ∷ cs) (s ∷ ss) zero d h lt = omega (arith, h.0)
span_begins from (c ∷ cs) (s ∷ ss) (suc i) d h lt =
    let on = span_begins (from + length c) cs ss i d h.2 (omega (arith, lt)) in omega (arith, on, length-append c (concat (take i cs)))

pub span_long : (from : ℕ) (cs : List (List ℕ)) (ss : List Stored) (i : ℕ) (d : Stored) → AreSpans from cs ss → i < length cs
    → (get_or ss i d).len ≡ length (content_at cs i)
span_long from [] ss i d h lt = absurd (omega (arith, lt))
span_long from (c ∷ cs) [] i d h lt = absurd h
span_long from (c ∷ cs) (s ∷ ss) zero d h lt = h.1
span_long from (c ∷ cs) (s ∷ ss) (suc i) d h lt = span_long (from + length c) cs ss i d h.2 (omega (arith, lt))

pub spans_push : (from : ℕ) (cs : List (List ℕ)) (ss : List Stored) (c : List ℕ) (s : Stored) → AreSpans from cs ss
    → s.offset ≡ from + length (concat cs) → s.len ≡ length c → AreSpans from (cs ++ c ∷ []) (ss ++ s ∷ [])
spans_push from [] [] c s h at size = (omega (arith, at), size, tt)
spans_push from [] (r ∷ ss) c s h at size = absurd h
spans_push from (b ∷ cs) [] c s h at size = absurd h
spans_push from (b ∷ cs) (r ∷ ss) c s h at size =
    (h.0, h.1, spans_push (from + length b) cs ss c s h.2 (omega (arith, at, length-append b (concat cs))) size)

-- ---- contents of one hash

-- the last of the first contents stays when others come after them
last_stays : (cs ds : List (List ℕ)) (hash count : ℕ) (place : Option ℕ) → ((i : ℕ) → i < count → content_at ds i ≡ content_at cs i)
    → IsLastOf cs hash count place → IsLastOf ds hash count place
last_stays cs ds hash count place same is = record {
  every = λ i lt e. is.every i lt (ap content_hash (sym (same i lt)) ∙ e);
  there = λ k e. let h = is.there k e in (h.0, ap content_hash (same k h.0) ∙ h.1);
}

-- a content of this hash is the last one then
last_new : (cs : List (List ℕ)) (hash count : ℕ) → content_hash (content_at cs count) ≡ hash → IsLastOf cs hash (count + 1) (Some count)
last_new cs hash count is = record {
  every = λ i lt e. omega (arith, lt);
  there = λ k e. let same : count ≡ k = cc in (omega (arith, same), ap (λ (n : ℕ). content_hash (content_at cs n)) (sym same) ∙ is);
}

-- a content of another hash isn't
last_other : (cs : List (List ℕ)) (hash count : ℕ) (place : Option ℕ) → content_hash (content_at cs count) ≢ hash → IsLastOf cs hash count place
    → IsLastOf cs hash (count + 1) place
last_other cs hash count place other is = record {
  every = λ i lt e. elim (cases_lt i count) [
    | inl low ↦ is.every i low e
    | inr high ↦ (let at : i ≡ count = omega (arith, lt, high) in absurd (other (ap (λ (n : ℕ). content_hash (content_at cs n)) (sym at) ∙ e)))
  ];
  there = λ k e. let h = is.there k e in (omega (arith, h.0), h.1);
}

-- ---- the search

pub next_first : (cs : List (List ℕ)) (q : List ℕ) (last : Option ℕ) → IsLastOf cs (content_hash q) (length cs) last → IsNextOf cs q last
next_first cs q last is = record { others = λ i lt e. is.every i lt (ap content_hash e); there = is.there }

pub next_before : (cs : List (List ℕ)) (q : List ℕ) (place : ℕ) (before : Option ℕ) → IsNextOf cs q (Some place) → content_at cs place ≢ q
    → IsLastOf cs (content_hash (content_at cs place)) place before → IsNextOf cs q before
next_before cs q place before is other last =
    let here = is.there place refl in
    record {
      others = λ i lt e.
          let low = is.others i lt e in
          let unequal : i ≢ place = λ at. other (ap (λ (n : ℕ). content_at cs n) (sym at) ∙ e) in
          last.every i (by i low unequal) (ap content_hash e ∙ sym here.1);
      there = λ k e. let h = last.there k e in (omega (arith, h.0, here.0), h.1 ∙ here.1);
    }
  where
    by : (i : ℕ) → i < suc place → i ≢ place → i < place
    by i low unequal = elim (cases_lt i place) [
      | inl lt ↦ lt
      | inr le ↦ absurd (unequal (omega (arith, low, le)))
    ]

pub next_none : (cs : List (List ℕ)) (q : List ℕ) → IsNextOf cs q None → offset_from 0 cs q ≡ None
next_none cs q is = none_at cs q (λ i lt e. let low = is.others i lt e in omega (arith, low))

pub next_over : (cs : List (List ℕ)) (q : List ℕ) (next : Option ℕ) → ((k : ℕ) → next ≡ Some k → ⊥) → IsNextOf cs q next → offset_from 0 cs q ≡ None
next_over cs q None over is = next_none cs q is
next_over cs q (Some k) over is = absurd (over k refl)

pub up_to_before : (cs : List (List ℕ)) (hash place : ℕ) (before : Option ℕ) → IsLastOf cs hash place before → up_to before ≤ place
up_to_before cs hash place None is = omega arith
up_to_before cs hash place (Some k) is = let low = (is.there k refl).0 in omega (arith, low)

pub falls : (cs : List (List ℕ)) (hash place : ℕ) (before next : Option ℕ) → next ≡ Some place → IsLastOf cs hash place before → up_to before < up_to next
falls cs hash place before next here is =
    let low = up_to_before cs hash place before is in
    let top = ap (λ (o : Option ℕ). up_to o) here in
    omega (arith, low, top)

-- ---- numbers

apart : (x y : ℕ) → (x ≡ y → ⊥) → is_eq (nat_cmp x y) ≡ false
apart x y other = rw (ne_eqb x y other) (by (ltb x y))
  where
    by : (b : Bool) → is_eq (cond b Less (cond false Equal Greater)) ≡ false
    by true = refl
    by false = refl

-- ---- with one content more

module _ (cs : List (List ℕ)) (content : List ℕ) where
  abbrev count : ℕ
  count = length cs

  abbrev more : List (List ℕ)
  more = cs ++ content ∷ []

  earlier_at : (i : ℕ) → i < count → content_at more i ≡ content_at cs i
  earlier_at i lt = get_or_append_left cs (content ∷ []) [] i lt

  here_at : content_at more count ≡ content
  here_at =
      let n : count ≡ count + 0 = omega arith in
      ap (λ (k : ℕ). content_at more k) n ∙ get_or-append-add cs (content ∷ []) 0 []

  -- for each hash the last one is known
  grown_last : (hash : ℕ) (old new : BTreeMap ℕ ℕ) → hash ≡ content_hash content → ((h : ℕ) → IsLastOf cs h count (get nat_cmp old h))
      → Updates nat_cmp old new hash (Some count) → (h : ℕ) → IsLastOf more h (count + 1) (get nat_cmp new h)
  grown_last hash old new hash_is last_of updates h = elim (cases_eq hash h) [
    | inl same ↦
        subst (λ (o : Option ℕ). IsLastOf more h (count + 1) o) (sym (ap (λ (k : ℕ). get nat_cmp new k) (sym same) ∙ updates.1))
        (last_new more h count (ap content_hash here_at ∙ sym hash_is ∙ same))
    | inr other ↦
        subst (λ (o : Option ℕ). IsLastOf more h (count + 1) o) (sym (updates.2 h (apart hash h other)))
        (last_other more h count (get nat_cmp old h) (λ e. other (hash_is ∙ sym (ap content_hash here_at) ∙ e))
        (last_stays cs more h count (get nat_cmp old h) earlier_at (last_of h)))
  ]

  -- and from each content the one before it with its hash
  grown_chained : (hash : ℕ) (ss : List Stored) (s : Stored) → hash ≡ content_hash content → length ss ≡ count → IsLastOf cs hash count s.before
      → ((place : ℕ) (d : Stored) → place < length ss → IsLastOf cs (content_hash (content_at cs place)) place (get_or ss place d).before)
      → (place : ℕ) (d : Stored) → place < count + 1
      → IsLastOf more (content_hash (content_at more place)) place (get_or (ss ++ s ∷ []) place d).before
  grown_chained hash ss s hash_is size before chained place d lt = elim (cases_lt place count) [
    | inl low ↦
        subst (λ (r : Stored). IsLastOf more (content_hash (content_at more place)) place r.before)
        (sym (get_or_append_left ss (s ∷ []) d place (omega (arith, low, size))))
        (subst (λ (c : List ℕ). IsLastOf more (content_hash c) place (get_or ss place d).before) (sym (earlier_at place low))
        (last_stays cs more _ place _ (λ i below. earlier_at i (omega (arith, below, low))) (chained place d (omega (arith, low, size)))))
    | inr high ↦
        let at : place ≡ count = omega (arith, lt, high) in
        let behind : count ≡ length ss + 0 = omega (arith, size) in
        let record_is : get_or (ss ++ s ∷ []) count d ≡ s = ap (λ (n : ℕ). get_or (ss ++ s ∷ []) n d) behind ∙ get_or-append-add ss (s ∷ []) 0 d in
        let hash_here : hash ≡ content_hash (content_at more count) = hash_is ∙ sym (ap content_hash here_at) in
        subst (λ (n : ℕ). IsLastOf more (content_hash (content_at more n)) n (get_or (ss ++ s ∷ []) n d).before) (sym at)
        (subst (λ (r : Stored). IsLastOf more (content_hash (content_at more count)) count r.before) (sym record_is)
        (subst (λ (h : ℕ). IsLastOf more h count s.before) hash_here
        (last_stays cs more hash count s.before earlier_at before)))
  ]

  pub index_push : (ds : List (List ℕ)) (ss rs : List Stored) (s : Stored) (total sum hash : ℕ) (old new : BTreeMap ℕ ℕ) → IsIndexOf cs ss total old
      → hash ≡ content_hash content → ds ≡ more → rs ≡ ss ++ s ∷ [] → s.offset ≡ total → s.len ≡ length content → s.before ≡ get nat_cmp old hash
      → Updates nat_cmp old new hash (Some (length ss)) → sum ≡ total + length content → IsIndexOf ds rs sum new
  index_push ds ss rs s total sum hash old new is hash_is contents stored at size before updates sum_is =
      let n = spans_count 0 cs ss is.spans in
      let m : length (ss ++ s ∷ []) ≡ count + 1 = omega (arith, n, length-append ss (s ∷ [])) in
      let last_of : (h : ℕ) → IsLastOf cs h count (get nat_cmp old h) = λ h. subst (λ (k : ℕ). IsLastOf cs h k (get nat_cmp old h)) n (is.last_of h) in
      let here : IsLastOf cs hash count s.before = subst (λ (o : Option ℕ). IsLastOf cs hash count o) (sym before) (last_of hash) in
      let up = subst (λ (k : ℕ). Updates nat_cmp old new hash (Some k)) n updates in
      let grown : IsIndexOf more (ss ++ s ∷ []) sum new = record {
        spans = spans_push 0 cs ss content s is.spans (omega (arith, at, is.total_is)) size;
        total_is = omega (arith, sum_is, is.total_is, concat_push cs content);
        chained = λ place d lt. grown_chained hash ss s hash_is n here is.chained place d (omega (arith, lt, m));
        last_of = λ h. subst (λ (k : ℕ). IsLastOf more h k (get nat_cmp new h)) (sym m) (grown_last hash old new hash_is last_of up h);
      } in
      subst (λ (x : List (List ℕ)). IsIndexOf x rs sum new) (sym contents)
      (subst (λ (x : List Stored). IsIndexOf more x sum new) (sym stored) grown)
