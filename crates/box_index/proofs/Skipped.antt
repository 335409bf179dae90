-- Runs of neighbouring blocks, each with a span.
use Rattle.std.proofs.Common.{◌≡◌, ◌≢◌, ℕ, ◌+◌, ◌-◌, ◌*◌, ◌/◌, ◌<◌, ◌⊎◌, false, List, [], ◌∷◌, ◌++◌, length, get_or, set, take, drop, All}
use Rattle.std.proofs.Common.{inl, inr, refl, sym, ap, subst, ◌∙◌, arith}
use Rattle.std.specs.Int.{div_ceil}
use Rattle.std.specs.List.Sorted.{IsPermutation}
use Rattle.std.proofs.lemmas.Bool.{cases_lt}
use Rattle.std.proofs.lemmas.Bool.Decides.{eqb_tells}
use Rattle.std.proofs.lemmas.List.{length-take, length-drop, length-set, get_or-take, get_or-drop, get_or-set_same, get_or-set_other, get_or_append_left}
use Rattle.std.proofs.lemmas.List.{get_or_push, take-append-drop, take-take, drop-take}
use Rattle.std.proofs.lemmas.List.Concat.{flat_map-append}
use Rattle.std.proofs.lemmas.List.Elements.{All-head, All-tail, All-push}
use Rattle.std.proofs.lemmas.List.Sorted.{All-permutation}
use Rattle.feature_model.specs.declared.feature.WorldBox.{WorldBox}
use Rattle.box_index.specs.declared.entry.IndexEntry.{IndexEntry}
use Rattle.box_index.specs.declared.span.Span.{Span}
use Rattle.box_index.specs.declared.runs.TheConstants.{RUN}
use Rattle.box_index.specs.Blocks.{joined}
use Rattle.box_index.specs.Covers.{Covers, CoversAll}
use Rattle.box_index.specs.Runs.{AreCovered, AreCoveredTo}
use Rattle.box_index.specs.Shown.{shows, ids_shown}
use Rattle.box_index.proofs.Covers.{covers_all_part}
use Rattle.box_index.proofs.Shown.{none_shown, ids_shown-append}

-- ---- what a query finds

-- a list up to an element after this one
pub take_both : {X : Type 0} (n m : ℕ) (xs : List X) → take (n + m) xs ≡ take n xs ++ take m (drop n xs)
take_both n m xs =
    sym (take-append-drop n (take (n + m) xs))
    ∙ ap (λ front. front ++ drop n (take (n + m) xs)) (take-take n (n + m) xs (omega arith))
    ∙ ap (λ back. take n xs ++ back) (drop-take n m xs)

module _ (bounds : WorldBox) (zoom : ℕ) where
  -- where a span shows nothing, no block shows anything whose entries it covers
  pub none_shown_in : (s : Span) (bs : List (List IndexEntry)) → All (CoversAll s) bs → shows bounds zoom s ≡ false → ids_shown bounds zoom (joined bs) ≡ []
  none_shown_in s [] all none = refl
  none_shown_in s (b ∷ bs) all none =
      ids_shown-append bounds zoom b (joined bs)
      ∙ ap (λ ids. ids ++ ids_shown bounds zoom (joined bs)) (none_shown bounds zoom s b (All-head (CoversAll s) b bs all) none)
      ∙ none_shown_in s bs (All-tail (CoversAll s) b bs all) none

  -- the ids of one run more
  pub run_more : (bs : List (List IndexEntry)) (r : ℕ) (found more : List ℕ) → found ≡ ids_shown bounds zoom (joined (take (r * RUN) bs))
      → more ≡ ids_shown bounds zoom (joined (take RUN (drop (r * RUN) bs))) → found ++ more ≡ ids_shown bounds zoom (joined (take ((r + 1) * RUN) bs))
  run_more bs r found more so_far is =
      let front = take (r * RUN) bs in
      let run = take RUN (drop (r * RUN) bs) in
      let next : r * RUN + RUN ≡ (r + 1) * RUN = omega arith in
      ap (λ ids. ids ++ more) so_far ∙ ap (λ ids. ids_shown bounds zoom (joined front) ++ ids) is
      ∙ sym (ids_shown-append bounds zoom (joined front) (joined run))
      ∙ ap (ids_shown bounds zoom) (sym (flat_map-append (λ es. es) front run) ∙ ap joined (sym (take_both (r * RUN) RUN bs) ∙ ap (λ n. take n bs) next))

-- ---- spans that cover

-- a run's span covers each of its blocks
pub run_covered : (ss : List Span) (bs : List (List IndexEntry)) (r : ℕ) (s : Span) → AreCovered ss bs
    → All (CoversAll (get_or ss r s)) (take RUN (drop (r * RUN) bs))
run_covered ss bs r s h = λ k b within.
    let short : k < RUN = omega (arith, within, length-take RUN (drop (r * RUN) bs)) in
    let near : r * RUN + k < length bs = omega (arith, within, length-take RUN (drop (r * RUN) bs), length-drop (r * RUN) bs) in
    subst (CoversAll (get_or ss r s)) (sym (get_or-take RUN (drop (r * RUN) bs) k b short ∙ get_or-drop (r * RUN) bs k b))
    (h.covered r (r * RUN + k) s b (omega arith) (omega arith) near near)

same_or : (k i : ℕ) → (k ≡ i) ⊎ (k ≢ i)
same_or k i = elim (eqb_tells k i) [ inl p ↦ inl p.1 | inr p ↦ inr p.1 ]

-- an entry more in a block, and a wider span of its run
pub covered_put : (ss new : List Span) (bs : List (List IndexEntry)) (i : ℕ) (e : IndexEntry) → i < length bs → length new ≡ length ss
    → ((s : Span) → Covers (get_or new (i / RUN) s) e.span) → ((r : ℕ) (s : Span) → r < length ss → Covers (get_or new r s) (get_or ss r s))
    → AreCovered ss bs → AreCovered new (set bs i (get_or bs i [] ++ e ∷ []))
covered_put ss new bs i e lt same own wider h =
    let more = get_or bs i [] ++ e ∷ [] in
    record {
      count = same ∙ h.count ∙ ap (λ n. div_ceil n RUN) (sym (length-set bs i more));
      covered = λ r k s b first last below within.
          let near : k < length bs = omega (arith, below, length-set bs i more) in
          let among : r < length ss = omega (arith, h.count, near) in
          let part = wider r s among in
          elim (same_or k i) [
            | inl is ↦
                let home : r ≡ i / RUN = omega arith in
                let old : CoversAll (get_or new r s) (get_or bs i []) =
                covers_all_part (get_or new r s) (get_or ss r s) (get_or bs i []) part (h.covered r i s [] (omega arith) (omega arith) lt lt) in
                let here : CoversAll (get_or new r s) more =
                All-push (λ x. Covers (get_or new r s) x.span) (get_or bs i []) e old (subst (λ j. Covers (get_or new j s) e.span) (sym home) (own s)) in
                subst (λ j. CoversAll (get_or new r s) (get_or (set bs i more) j b)) (sym is)
                (subst (CoversAll (get_or new r s)) (sym (get_or-set_same bs i more b lt)) here)
            | inr other ↦
                subst (CoversAll (get_or new r s)) (sym (get_or-set_other bs i k more b other))
                (covers_all_part (get_or new r s) (get_or ss r s) (get_or bs k b) part (h.covered r k s b first last near near))
          ];
    }

-- an entry less in a block
pub covered_less : (n : ℕ) (ss : List Span) (bs : List (List IndexEntry)) (i : ℕ) (less : List IndexEntry) (e : IndexEntry) → i < length bs
    → IsPermutation (get_or bs i []) (e ∷ less) → AreCoveredTo n ss bs → AreCoveredTo n ss (set bs i less)
covered_less n ss bs i less e lt taken h = λ r k s b first last below within.
    let near : k < length bs = omega (arith, within, length-set bs i less) in
    elim (same_or k i) [
      | inl is ↦
          let old : CoversAll (get_or ss r s) (get_or bs i []) = h r i s [] (omega arith) (omega arith) (omega arith) lt in
          let here : CoversAll (get_or ss r s) less =
          All-tail (λ x. Covers (get_or ss r s) x.span) e less (All-permutation (λ x. Covers (get_or ss r s) x.span) (get_or bs i []) (e ∷ less) taken old) in
          subst (λ j. CoversAll (get_or ss r s) (get_or (set bs i less) j b)) (sym is)
          (subst (CoversAll (get_or ss r s)) (sym (get_or-set_same bs i less b lt)) here)
      | inr other ↦ subst (CoversAll (get_or ss r s)) (sym (get_or-set_other bs i k less b other)) (h r k s b first last below near)
    ]

-- the blocks before this one are the same
pub covered_before : (n : ℕ) (ss : List Span) (bs new : List (List IndexEntry)) → take n new ≡ take n bs → AreCoveredTo (length bs) ss bs
    → AreCoveredTo n ss new
covered_before n ss bs new same h = λ r k s b first last below within.
    let near : k < length bs = omega (arith, below, within, ap length same, length-take n new, length-take n bs) in
    subst (CoversAll (get_or ss r s)) (sym (get_or-take n bs k b below) ∙ ap (λ xs. get_or xs k b) (sym same) ∙ get_or-take n new k b below)
    (h r k s b first last near near)

-- one run more
pub covered_push : (ss : List Span) (bs : List (List IndexEntry)) (last_run : ℕ) (wide : Span) → length ss ≡ last_run
    → All (CoversAll wide) (take RUN (drop (last_run * RUN) bs)) → AreCoveredTo (last_run * RUN) ss bs
    → AreCoveredTo ((last_run + 1) * RUN) (ss ++ wide ∷ []) bs
covered_push ss bs last_run wide len all h = λ r k s b first last below within.
    elim (cases_lt r last_run) [
      | inl before ↦
          subst (λ span. CoversAll span (get_or bs k b)) (sym (get_or_append_left ss (wide ∷ []) s r (omega (arith, len, before))))
          (h r k s b first last (omega (arith, before, last)) within)
      | inr after ↦
          let here : length ss ≡ r = omega (arith, len, after, first, below) in
          let j = k - last_run * RUN in
          let short : j < RUN = omega (arith, len, here, first, last) in
          let back : last_run * RUN + j ≡ k = omega (arith, len, here, first) in
          let inside : j < length (take RUN (drop (last_run * RUN) bs)) =
          omega (arith, within, back, short, length-take RUN (drop (last_run * RUN) bs), length-drop (last_run * RUN) bs) in
          subst (λ span. CoversAll span (get_or bs k b)) (sym (get_or_push ss wide s r here))
          (subst (CoversAll wide) (get_or-take RUN (drop (last_run * RUN) bs) j b short ∙ get_or-drop (last_run * RUN) bs j b ∙ ap (λ n. get_or bs n b) back)
          (all j b inside))
    ]

-- two changes, each of what comes after an element
pub same_before : {X : Type 0} (i j : ℕ) (old between new : List X) → j ≡ i - 1 → take i between ≡ take i old → take j new ≡ take j between
    → take (i - 1) new ≡ take (i - 1) old
same_before i j old between new is first second =
    subst (λ n. take n new ≡ take n between) is second
    ∙ sym (take-take (i - 1) i between (omega arith)) ∙ ap (take (i - 1)) first ∙ take-take (i - 1) i old (omega arith)
