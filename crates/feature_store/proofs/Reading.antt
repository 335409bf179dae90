-- What is read of a map by ascending number, and what a look-up from a number on finds of a moment.
use Rattle.std.proofs.Common.{◌≡◌, ℕ, ◌+◌, ◌<◌, ◌≤◌, true, false, cond, List, [], ◌∷◌, ◌++◌, Option, Some, None, All, Bor, map}
use Rattle.std.proofs.Common.{inl, inr, refl, sym, ap, subst, ◌∙◌, arith}
use Rattle.std.specs.Prelude.{◌⊎◌, nat_lt, nat_le, length, IsSome, IfSome}
use Rattle.std.specs.BTreeMap.{is_at}
use Rattle.std.specs.List.{Contains}
use Rattle.std.specs.Map.{keys_of, lookup}
use Rattle.std.specs.Option.{is_some, unwrap_or, option_copied, option_map}
use Rattle.std.specs.Ordering.{nat_cmp}
use Rattle.std.proofs.lemmas.Bool.{cases_lt, false≢true}
use Rattle.std.proofs.lemmas.Bool.Decides.{nat_tests}
use Rattle.std.proofs.lemmas.List.{map-append}
use Rattle.std.proofs.lemmas.List.Elements.{All-nil, All-cons, All-head, All-tail, All-weaker}
use Rattle.number_map.specs.Blocks.{Ascends, AreAbove, first_from}
use Rattle.number_map.proofs.Entries.{ascends_head, ascends_tail, raised, lookup_here, lookup_on, lookup_above}
use Rattle.number_map.proofs.Numbers.{by_order}
use Rattle.box_index.specs.declared.entry.IndexEntry.{IndexEntry}
use Rattle.feature_model.specs.Data.{FeatureData, put}
use Rattle.feature_model.specs.Types.{IsChange}
use Rattle.feature_model.specs.declared.limits.TheConstants.{NUMBER_END}
use Rattle.tile_cutter.specs.Cut.{feature_cut}
use Rattle.feature_store.specs.Indexed.{ShowsAll, index_entry}
use Rattle.feature_store.specs.Inside.{Stored, stored_data, entries_data, IsOwn}
use Rattle.feature_store.specs.Moments.{MomentView, IsAsOf, had_by}
use Rattle.feature_store.specs.Reading.{below, entry_of, nearer, stored_in}
use Rattle.feature_store.specs.Store.{FeatureMap, IsMap, feature_at, feature_from, snapshot}
use Rattle.feature_store.proofs.Entries.{feature_found}
use Rattle.feature_store.proofs.Listed.{contains_here, contains_on}
use Rattle.feature_store.proofs.Snapshots.{snapshot_both, snapshot_none}

-- ---- the features below a number

is_less : (a b : ℕ) → a < b → nat_lt a b ≡ true
is_less a b h = grind (arith, nat_tests)

is_no_less : (a b : ℕ) → b ≤ a → nat_lt a b ≡ false
is_no_less a b h = grind (arith, nat_tests)

pub with_lower : (n : ℕ) (e : ℕ × FeatureData) (m : FeatureMap) → e.0 < n → below n (e ∷ m) ≡ e ∷ below n m
unfolding below
with_lower n e m lt = ap (λ b. cond b (e ∷ below n m) (below n m)) (is_less e.0 n lt)

pub without_higher : (n : ℕ) (e : ℕ × FeatureData) (m : FeatureMap) → n ≤ e.0 → below n (e ∷ m) ≡ below n m
unfolding below
without_higher n e m ge = ap (λ b. cond b (e ∷ below n m) (below n m)) (is_no_less e.0 n ge)

pub of_none : (n : ℕ) → below n [] ≡ []
unfolding below
of_none n = refl

pub none_below : (m : FeatureMap) → below 0 m ≡ []
none_below [] = of_none 0
none_below (e ∷ m) = without_higher 0 e m (omega arith) ∙ none_below m

above_all : (n k : ℕ) (m : FeatureMap) → n ≤ k + 1 → AreAbove k m → below n m ≡ []
above_all n k [] le above = of_none n
above_all n k (e ∷ m) le above = let h = above.0 in without_higher n e m (omega (arith, h, le)) ∙ above_all n k m le above.1

-- no number from `n` on and below `k` has a feature
abbrev pub NoneIn : FeatureMap → (n k : ℕ) → Type 0
NoneIn m n k = (j : ℕ) → n ≤ j → j < k → lookup (is_at (nat_cmp j)) m ≡ None

-- a number with a feature isn't among those with none
some_there : (e : ℕ × FeatureData) (m : FeatureMap) → lookup (is_at (nat_cmp e.0)) (e ∷ m) ≡ None → ⊥
some_there e m none = false≢true (ap is_some (sym none ∙ lookup_here e.0 e m refl))

none_on : (n k : ℕ) (e : ℕ × FeatureData) (m : FeatureMap) → e.0 < n → NoneIn (e ∷ m) n k → NoneIn m n k
none_on n k e m lt none j ge less = sym (lookup_on j e m (λ s. omega (arith, s, lt, ge))) ∙ none j ge less

-- the features below the number after `k`, where none is between
below_next : (m : FeatureMap) (n k : ℕ) → Ascends m → n ≤ k → NoneIn m n k
    → below (k + 1) m ≡ below n m ++ entry_of k (lookup (is_at (nat_cmp k)) m)
below_next [] n k ascends le none = of_none (k + 1) ∙ sym (ap (λ l. l ++ []) (of_none n))
below_next (e ∷ m) n k ascends le none = elim (cases_lt e.0 n) [
  | inl lt ↦
      with_lower (k + 1) e m (omega (arith, lt, le))
      ∙ ap (λ l. e ∷ l) (below_next m n k (ascends_tail e m ascends) le (none_on n k e m lt none))
      ∙ ap (λ o. (e ∷ below n m) ++ entry_of k o) (sym (lookup_on k e m (λ s. omega (arith, s, lt, le))))
      ∙ ap (λ l. l ++ entry_of k (lookup (is_at (nat_cmp k)) (e ∷ m))) (sym (with_lower n e m lt))
  | inr ge ↦ by_order e.0 k
      (λ less. absurd (some_there e m (none e.0 ge less)))
      (λ same.
      with_lower (k + 1) e m (omega (arith, same))
      ∙ ap (λ l. e ∷ l) (above_all (k + 1) e.0 m (omega (arith, same)) (ascends_head e m ascends))
      ∙ ap (λ j. (j, e.1) ∷ []) same
      ∙ ap (entry_of k) (sym (lookup_here k e m (sym same)))
      ∙ ap (λ l. l ++ entry_of k (lookup (is_at (nat_cmp k)) (e ∷ m)))
      (sym (without_higher n e m ge ∙ above_all n e.0 m (omega (arith, ge)) (ascends_head e m ascends))))
      (λ more.
      without_higher (k + 1) e m (omega (arith, more))
      ∙ above_all (k + 1) e.0 m (omega (arith, more)) (ascends_head e m ascends)
      ∙ ap (entry_of k) (sym (lookup_on k e m (λ s. omega (arith, s, more))
      ∙ lookup_above m k (raised m k e.0 (omega (arith, more)) (ascends_head e m ascends))))
      ∙ ap (λ l. l ++ entry_of k (lookup (is_at (nat_cmp k)) (e ∷ m)))
      (sym (without_higher n e m ge ∙ above_all n e.0 m (omega (arith, ge)) (ascends_head e m ascends))))
]

-- all features, where none is left
below_last : (m : FeatureMap) (n end : ℕ) → All (λ e. e.0 < end) m → NoneIn m n end → below n m ≡ m
below_last [] n end all none = of_none n
below_last (e ∷ m) n end all none = elim (cases_lt e.0 n) [
  | inl lt ↦ with_lower n e m lt ∙ ap (λ l. e ∷ l) (below_last m n end (All-tail (λ d. d.0 < end) e m all) (none_on n end e m lt none))
  | inr ge ↦ absurd (some_there e m (none e.0 ge (All-head (λ d. d.0 < end) e m all)))
]

numbers_end : (m : FeatureMap) → IsMap m → All (λ e. e.0 < NUMBER_END) m
numbers_end m is_map = All-weaker (λ e. IsChange (put e.0 e.1)) (λ e. e.0 < NUMBER_END) (λ e edit. edit.0.number) m is_map.edits

-- all features are below the end of numbers
pub all_below : (m : FeatureMap) (n : ℕ) → IsMap m → NUMBER_END ≤ n → below n m ≡ m
all_below m n is_map ge = below_last m n NUMBER_END (numbers_end m is_map) (λ j from less. absurd (omega (arith, ge, from, less)))

-- ---- a search from a number on

module _ {T : Type 0} where
  here_first : (n : ℕ) (d : ℕ × T) (es : List (ℕ × T)) → n ≤ d.0 → first_from n (d ∷ es) ≡ Some d
  here_first n d es ge = let test : nat_le n d.0 ≡ true = grind (arith, nat_tests) in ap (λ b. cond b (Some d) (first_from n es)) test

  later_first : (n : ℕ) (d : ℕ × T) (es : List (ℕ × T)) → d.0 < n → first_from n (d ∷ es) ≡ first_from n es
  later_first n d es lt = let test : nat_le n d.0 ≡ false = grind (arith, nat_tests) in ap (λ b. cond b (Some d) (first_from n es)) test

  -- the entry is the first one with a number from `n` on
  record IsFirst (es : List (ℕ × T)) (n : ℕ) (e : ℕ × T) : Type 0 where
    from : n ≤ e.0
    here : lookup (is_at (nat_cmp e.0)) es ≡ Some e.1
    between : (j : ℕ) → n ≤ j → j < e.0 → lookup (is_at (nat_cmp j)) es ≡ None

  is_first : (es : List (ℕ × T)) (n : ℕ) (e : ℕ × T) → Ascends es → first_from n es ≡ Some e → IsFirst es n e
  is_first [] n e ascends is = absurd (false≢true (ap is_some is))
  is_first (d ∷ es) n e ascends is = elim (cases_lt d.0 n) [
    | inl lt ↦
        let rest = is_first es n e (ascends_tail d es ascends) (sym (later_first n d es lt) ∙ is) in
        let from = rest.from in
        record {
          from = from;
          here = lookup_on e.0 d es (λ s. omega (arith, s, from, lt)) ∙ rest.here;
          between = λ j ge less. lookup_on j d es (λ s. omega (arith, s, lt, ge)) ∙ rest.between j ge less;
        }
    | inr ge ↦
        let same : d ≡ e = ap (λ o. unwrap_or o d) (sym (here_first n d es ge) ∙ is) in
        let number : d.0 ≡ e.0 = ap (λ (x : ℕ × T). x.0) same in
        record {
          from = omega (arith, ge, number);
          here = lookup_here e.0 d es (sym number) ∙ ap (λ (x : ℕ × T). Some x.1) same;
          between = λ j from less. lookup_on j d es (λ s. omega (arith, s, less, number))
              ∙ lookup_above es j (raised es j d.0 (omega (arith, less, number)) (ascends_head d es ascends));
        }
  ]

  none_from : (es : List (ℕ × T)) (n : ℕ) → first_from n es ≡ None → (j : ℕ) → n ≤ j → lookup (is_at (nat_cmp j)) es ≡ None
  none_from [] n is j ge = refl
  none_from (d ∷ es) n is j ge = elim (cases_lt d.0 n) [
    | inl lt ↦ lookup_on j d es (λ s. omega (arith, s, lt, ge)) ∙ none_from es n (sym (later_first n d es lt) ∙ is) j ge
    | inr more ↦ absurd (false≢true (ap is_some (sym is ∙ here_first n d es more)))
  ]

  -- what holds of each entry holds of the one that is found
  of_first : (P : ℕ × T → Type 0) (es : List (ℕ × T)) (n : ℕ) (e : ℕ × T) → first_from n es ≡ Some e → All P es → P e
  of_first P [] n e is all = absurd (false≢true (ap is_some is))
  of_first P (d ∷ es) n e is all = elim (cases_lt d.0 n) [
    | inl lt ↦ of_first P es n e (sym (later_first n d es lt) ∙ is) (All-tail P d es all)
    | inr ge ↦ subst P (ap (λ o. unwrap_or o d) (sym (here_first n d es ge) ∙ is)) (All-head P d es all)
  ]

-- ---- of a moment

-- no number from `n` on and below this one had a feature, and it had this one
pub record IsLook (m : FeatureMap) (n : ℕ) (e : ℕ × Option Stored) : Type 0 where
  pub from : n ≤ e.0
  pub own : IfSome e.1 (λ s. s.0 ≡ e.0)
  pub here : option_map stored_data e.1 ≡ lookup (is_at (nat_cmp e.0)) m
  pub between : NoneIn m n e.0

-- no feature is left
look_end : (m : FeatureMap) (n : ℕ) → IsMap m → NoneIn m n NUMBER_END → below n m ≡ m
look_end m n is_map none = below_last m n NUMBER_END (numbers_end m is_map) none

looked_up : (m : FeatureMap) (j : ℕ) → lookup (is_at (nat_cmp j)) m ≡ feature_at m j
unfolding feature_at
looked_up m j = refl

module _ (t : MomentView) (es : List (ℕ × Stored)) (n : ℕ) (as_of : IsAsOf t (entries_data es)) (there : t.lost ≡ false) (ascends : Ascends es)
    (own : All IsOwn es) where
  had : (j : ℕ) → lookup (is_at (nat_cmp j)) t.features
      ≡ had_by (lookup (is_at (nat_cmp j)) t.kept) (option_map stored_data (lookup (is_at (nat_cmp j)) es))
  had j =
      looked_up t.features j ∙ as_of.each j there
      ∙ ap (had_by (lookup (is_at (nat_cmp j)) t.kept)) (feature_found es j)

  -- nothing was kept of a number, and it has nothing
  had_none : (j : ℕ) → lookup (is_at (nat_cmp j)) t.kept ≡ None → lookup (is_at (nat_cmp j)) es ≡ None → lookup (is_at (nat_cmp j)) t.features ≡ None
  had_none j kept now =
      had j ∙ ap (λ o. had_by o (option_map stored_data (lookup (is_at (nat_cmp j)) es))) kept ∙ ap (option_map stored_data) now

  look_kept : (k : ℕ × Option Stored) → first_from n t.kept ≡ Some k
      → ((j : ℕ) → n ≤ j → j < k.0 → lookup (is_at (nat_cmp j)) es ≡ None) → IsLook t.features n k
  look_kept k is none =
      let first = is_first t.kept n k as_of.kept.ascending is in record {
        from = first.from;
        own = of_first (λ e. IfSome e.1 (λ s. s.0 ≡ e.0)) t.kept n k is as_of.kept.own;
        here = sym (had k.0 ∙ ap (λ o. had_by o (option_map stored_data (lookup (is_at (nat_cmp k.0)) es))) first.here);
        between = λ j ge less. had_none j (first.between j ge less) (none j ge less);
      }

  look_now : (e : ℕ × Stored) → first_from n es ≡ Some e
      → ((j : ℕ) → n ≤ j → j ≤ e.0 → lookup (is_at (nat_cmp j)) t.kept ≡ None) → IsLook t.features n (e.0, Some e.1)
  look_now e is none =
      let first = is_first es n e ascends is in
      let from = first.from in
      record {
        from = from;
        own = of_first IsOwn es n e is own;
        here = sym (had e.0 ∙ ap (λ o. had_by o (option_map stored_data (lookup (is_at (nat_cmp e.0)) es))) (none e.0 from (omega arith))
            ∙ ap (option_map stored_data) first.here);
        between = λ j ge less. had_none j (none j ge (omega (arith, less))) (first.between j ge less);
      }

  -- the nearer of what is found of both
  look_some : (kept : Option (ℕ × Option Stored)) (now : Option (ℕ × Stored)) (e : ℕ × Option Stored) → first_from n t.kept ≡ kept → first_from n es ≡ now
      → nearer kept now ≡ Some e → IsLook t.features n e
  look_some None None e none nothing is = absurd (false≢true (ap is_some is))
  look_some None (Some d) e none found is =
      subst (IsLook t.features n) (ap (λ o. unwrap_or o e) is) (look_now d found (λ j ge le. none_from t.kept n none j ge))
  look_some (Some k) None e found none is =
      subst (IsLook t.features n) (ap (λ o. unwrap_or o e) is) (look_kept k found (λ j ge less. none_from es n none j ge))
  look_some (Some k) (Some d) e kept now is = elim (cases_lt d.0 k.0) [
    | inl lt ↦
        let first = is_first t.kept n k as_of.kept.ascending kept in
        subst (IsLook t.features n)
        (ap (λ o. unwrap_or o e) (ap (λ b. cond b (Some (d.0, Some d.1)) (Some k)) (sym (is_less d.0 k.0 lt)) ∙ is))
        (look_now d now (λ j ge le. first.between j ge (omega (arith, le, lt))))
    | inr ge ↦
        let first = is_first es n d ascends now in
        subst (IsLook t.features n)
        (ap (λ o. unwrap_or o e) (ap (λ b. cond b (Some (d.0, Some d.1)) (Some k)) (sym (is_no_less d.0 k.0 ge)) ∙ is))
        (look_kept k kept (λ j from less. first.between j from (omega (arith, less, ge))))
  ]

  no_look : (kept : Option (ℕ × Option Stored)) (now : Option (ℕ × Stored)) → first_from n t.kept ≡ kept → first_from n es ≡ now
      → nearer kept now ≡ None → (j : ℕ) → n ≤ j → lookup (is_at (nat_cmp j)) t.features ≡ None
  no_look None None none nothing is = λ j ge. had_none j (none_from t.kept n none j ge) (none_from es n nothing j ge)
  no_look None (Some d) none found is = absurd (false≢true (ap is_some (sym is)))
  no_look (Some k) None found nothing is = absurd (false≢true (ap is_some (sym is)))
  no_look (Some k) (Some d) kept now is = elim (cases_lt d.0 k.0) [
    | inl lt ↦ absurd (false≢true (ap is_some (sym is ∙ ap (λ b. cond b (Some (d.0, Some d.1)) (Some k)) (is_less d.0 k.0 lt))))
    | inr ge ↦ absurd (false≢true (ap is_some (sym is ∙ ap (λ b. cond b (Some (d.0, Some d.1)) (Some k)) (is_no_less d.0 k.0 ge))))
  ]

  -- the same without where it lies in memory
  module _ (kept : Option (Bor (ℕ × Option Stored))) (now : Option (Bor (ℕ × Stored))) (found : Option (ℕ × Option (Bor Stored)))
      (kept_is : first_from n t.kept ≡ option_copied kept) (now_is : first_from n es ≡ option_copied now)
      (nearer_is : option_map (λ e. (e.0, option_copied e.1)) found ≡ nearer (option_copied kept) (option_copied now)) where
    pub look_found : (e : ℕ × Option (Bor Stored)) → found ≡ Some e → IsLook t.features n (e.0, option_copied e.1)
    look_found e is =
        look_some (option_copied kept) (option_copied now) (e.0, option_copied e.1) kept_is now_is
        (sym nearer_is ∙ ap (option_map (λ e. (e.0, option_copied e.1))) is)

    pub look_nothing : found ≡ None → below n t.features ≡ t.features
    look_nothing is =
        look_end t.features n as_of.is_map (λ j from less. no_look (option_copied kept) (option_copied now) kept_is now_is
        (sym nearer_is ∙ ap (option_map (λ e. (e.0, option_copied e.1))) is) j from)

-- the features below the number after it
pub look_next : (m : FeatureMap) (n : ℕ) (e : ℕ × Option Stored) → IsMap m → IsLook m n e
    → below (e.0 + 1) m ≡ below n m ++ entry_of e.0 (option_map stored_data e.1)
look_next m n e is_map look =
    below_next m n e.0 is_map.ascending look.from look.between ∙ ap (λ o. below n m ++ entry_of e.0 o) (sym look.here)

-- a number that no feature has is past all of them
pub look_past : (m : FeatureMap) (n : ℕ) (e : ℕ × Option Stored) → IsMap m → IsLook m n e → NUMBER_END ≤ e.0 → below n m ≡ m
look_past m n e is_map look ge = look_end m n is_map (λ j from less. look.between j from (omega (arith, less, ge)))

pub look_own : (m : FeatureMap) (n : ℕ) (e : ℕ × Option (Bor Stored)) → IsLook m n (e.0, option_copied e.1) → IfSome e.1 (λ s. s.now.0 ≡ e.0)
look_own m n e look = by e.1 look.own
  where
    by : (o : Option (Bor Stored)) → IfSome (option_copied o) (λ s. s.0 ≡ e.0) → IfSome o (λ s. s.now.0 ≡ e.0)
    by None is = is
    by (Some s) is = is

-- ---- a reader

-- what is read of a number, whose text is its own
pub stored_is : (n : ℕ) (o : Option (Bor Stored)) → IfSome o (λ s. s.now.0 ≡ n) → stored_in (option_copied o)
    ≡ entry_of n (option_map stored_data (option_copied o))
stored_is n None own = refl
stored_is n (Some s) own = ap (λ k. (k, s.now.1) ∷ []) own

module _ (m : FeatureMap) (n k : ℕ) (o : Option (Bor Stored)) (own : IfSome o (λ s. s.now.0 ≡ k))
    (next : below (k + 1) m ≡ below n m ++ entry_of k (option_map stored_data (option_copied o))) where
  read_more : below n m ++ stored_in (option_copied o) ≡ below (k + 1) m
  read_more = ap (λ l. below n m ++ l) (stored_is k o own) ∙ sym next

  pub text_read : (old new : List ℕ) → old ≡ snapshot (below n m) → new ≡ old ++ snapshot (stored_in (option_copied o)) → new ≡ snapshot (below (k + 1) m)
  text_read old new before after =
      after ∙ ap (λ t. t ++ snapshot (stored_in (option_copied o))) before
      ∙ sym (snapshot_both (below n m) (stored_in (option_copied o))) ∙ ap snapshot read_more

  pub boxes_read : (old new : List IndexEntry) → old ≡ map index_entry (below n m) → new ≡ old ++ map index_entry (stored_in (option_copied o))
      → new ≡ map index_entry (below (k + 1) m)
  boxes_read old new before after =
      after ∙ ap (λ t. t ++ map index_entry (stored_in (option_copied o))) before
      ∙ sym (map-append index_entry (below n m) (stored_in (option_copied o))) ∙ ap (map index_entry) read_more

pub no_text : (m : FeatureMap) → [] ≡ snapshot (below 0 m)
no_text m = sym (ap snapshot (none_below m) ∙ snapshot_none)

-- ---- a list of numbers

-- the numbers up to the next one
pub listed_next : (m : FeatureMap) (n : ℕ) (e : ℕ × FeatureData) (listed : List ℕ) → IsMap m → feature_from m n ≡ Some e → listed ≡ keys_of (below n m)
    → listed ++ e.0 ∷ [] ≡ keys_of (below (e.0 + 1) m)
unfolding feature_from
listed_next m n e listed is_map is so_far =
    let first = is_first m n e is_map.ascending is in
    ap (λ ns. ns ++ e.0 ∷ []) so_far
    ∙ sym (map-append (λ (d : ℕ × FeatureData). d.0) (below n m) ((e.0, e.1) ∷ []))
    ∙ ap keys_of (sym (below_next m n e.0 is_map.ascending first.from first.between ∙ ap (λ o. below n m ++ entry_of e.0 o) first.here))

-- all numbers, where none is next
pub listed_all : (m : FeatureMap) (n : ℕ) → IsMap m → feature_from m n ≡ None → keys_of (below n m) ≡ keys_of m
unfolding feature_from
listed_all m n is_map none = ap keys_of (look_end m n is_map (λ j from less. none_from m n none j from))

-- the next number can be followed by one
pub next_end : (m : FeatureMap) (n : ℕ) (e : ℕ × FeatureData) → IsMap m → feature_from m n ≡ Some e → e.0 < NUMBER_END
unfolding feature_from
next_end m n e is_map is = of_first (λ d. d.0 < NUMBER_END) m n e is (numbers_end m is_map)

-- no more numbers are listed than there are
pub few_listed : (m : FeatureMap) (n : ℕ) → length (keys_of (below n m)) ≤ length m
few_listed [] n = omega (arith, ap (λ (l : FeatureMap). length (keys_of l)) (of_none n))
few_listed (e ∷ m) n = by (cases_lt e.0 n) (few_listed m n)
  where
    by : (e.0 < n) ⊎ (n ≤ e.0) → length (keys_of (below n m)) ≤ length m → length (keys_of (below n (e ∷ m))) ≤ length (e ∷ m)
    by (inl lt) rest = omega (arith, rest, ap (λ (l : FeatureMap). length (keys_of l)) (with_lower n e m lt))
    by (inr ge) rest = omega (arith, rest, ap (λ (l : FeatureMap). length (keys_of l)) (without_higher n e m ge))

-- a tile needs no numbers but those of its map
every_key : (m : FeatureMap) → All (λ e. Contains (keys_of m) e.0) m
every_key [] = All-nil (λ e. Contains [] e.0)
every_key (e ∷ m) =
    All-cons (λ d. Contains (keys_of (e ∷ m)) d.0) e m (contains_here e.0 (keys_of m))
    (All-weaker (λ d. Contains (keys_of m) d.0) (λ d. Contains (keys_of (e ∷ m)) d.0) (λ d in_rest. contains_on e.0 (keys_of m) d.0 in_rest) m (every_key m))

pub all_numbers_show : (m : FeatureMap) (z x y : ℕ) (numbers : List ℕ) → IsMap m → numbers ≡ keys_of m → ShowsAll m z x y numbers
all_numbers_show m z x y numbers is_map is =
    subst (ShowsAll m z x y) (sym is) (record {
      ascending = is_map.ascending;
      every = All-weaker (λ e. Contains (keys_of m) e.0) (λ e. IsSome (feature_cut e.1 z x y) → Contains (keys_of m) e.0) (λ e there some. there)
          m (every_key m);
    })
