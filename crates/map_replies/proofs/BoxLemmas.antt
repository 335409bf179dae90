-- Pages of the features in a box.
use Rattle.std.proofs.Common.{◌≡◌, ◌<◌, ◌≤◌, ◌+◌, ◌-◌, ◌∙◌, ◌⊎◌, inl, inr, ℕ, zero, suc, List, [], ◌∷◌, ◌++◌, length, map, take, get_or, Bool, true, false, cond}
use Rattle.std.proofs.Common.{Option, Some, None, IsSome, Result, Ok, Err, refl, sym, ap, subst, arith}
use Rattle.std.specs.Prelude.{nat_le, IfOk, OnOk}
use Rattle.std.specs.Map.{keys_of}
use Rattle.std.specs.Option.{is_some, option_map, unwrap_or}
use Rattle.std.proofs.lemmas.Bool.{cases_lt, false≢true}
use Rattle.std.proofs.lemmas.Bool.Decides.{nat_tests}
use Rattle.std.proofs.lemmas.List.{take_more, take_all, get_or-map, length-map}
use Rattle.feature_model.specs.declared.feature.WorldBox.{WorldBox}
use Rattle.feature_store.specs.InBox.{AreNext, in_box, is_in_box}
use Rattle.feature_store.specs.Store.{FeatureMap, feature_from}
use Rattle.feature_store.specs.declared.in_box.TheConstants.{BOX_LOOKS}
use Rattle.http_serve.specs.Reply.{ReplyView}
use Rattle.number_map.specs.Blocks.{first_from}
use Rattle.sector_disk.specs.Disk.{History}
use Rattle.tile_service.specs.Service.{ServiceView}
use Rattle.map_replies.specs.BoxPages.{left_after, AreWithin, IsBoxPage}
use Rattle.map_replies.specs.Lists.{comma_if}
use Rattle.map_replies.specs.Meanings.{MeansBox, Answers}
use Rattle.map_replies.specs.Pages.{Entry, AreFrom, listed, all_listed, page_reply, looks_from}
use Rattle.map_replies.specs.declared.pages.TheConstants.{PAGE_BYTES}
use Rattle.map_replies.proofs.ListLemmas.{are_some, some_after}
use Rattle.map_replies.proofs.PageLemmas.{listed_on, takes_looks}

-- ---- the first feature from an id on

is_le : (a b : ℕ) → a ≤ b → nat_le a b ≡ true
is_le a b h = grind (arith, nat_tests)

is_more : (a b : ℕ) → b < a → nat_le a b ≡ false
is_more a b h = grind (arith, nat_tests)

here_first : (n : ℕ) (d : Entry) (m : FeatureMap) → n ≤ d.0 → first_from n (d ∷ m) ≡ Some d
here_first n d m ge = ap (λ (b : Bool). cond b (Some d) (first_from n m)) (is_le n d.0 ge)

later_first : (n : ℕ) (d : Entry) (m : FeatureMap) → d.0 < n → first_from n (d ∷ m) ≡ first_from n m
later_first n d m lt = ap (λ (b : Bool). cond b (Some d) (first_from n m)) (is_more n d.0 lt)

not_below : (m : FeatureMap) (n : ℕ) (e : Entry) → first_from n m ≡ Some e → n ≤ e.0
not_below [] n e is = absurd (false≢true (ap is_some is))
not_below (d ∷ m) n e is = elim (cases_lt d.0 n) [
  | inl lt ↦ not_below m n e (sym (later_first n d m lt) ∙ is)
  | inr ge ↦ let same : d ≡ e = ap (λ (o : Option Entry). unwrap_or o d) (sym (here_first n d m ge) ∙ is) in
      subst (λ (x : Entry). n ≤ x.0) same ge
]

self_first : (m : FeatureMap) (n : ℕ) (e : Entry) → first_from n m ≡ Some e → first_from e.0 m ≡ Some e
self_first [] n e is = absurd (false≢true (ap is_some is))
self_first (d ∷ m) n e is = elim (cases_lt d.0 n) [
  | inl lt ↦
      let found = sym (later_first n d m lt) ∙ is in
      later_first e.0 d m (let ge = not_below m n e found in omega (arith, lt, ge)) ∙ self_first m n e found
  | inr ge ↦ let same : d ≡ e = ap (λ (o : Option Entry). unwrap_or o d) (sym (here_first n d m ge) ∙ is) in
      here_first e.0 d m (omega (arith, ap (λ (x : Entry). x.0) same)) ∙ ap Some same
]

-- a feature that is found from an id on is found from its own
pub found_self : (m : FeatureMap) (n : ℕ) (e : Entry) → feature_from m n ≡ Some e → feature_from m e.0 ≡ Some e
unfolding feature_from
found_self m n e is = self_first m n e is

pub are_from : (m : FeatureMap) (id : ℕ) (es : List Entry) (next : Option Entry) → AreNext m id es next → AreFrom m id es next
are_from m id [] next is = is
are_from m id (e ∷ es) next is = (is.0, are_from m (e.0 + 1) es next is.1)

-- ---- those in the box

module _ (m : FeatureMap) (bounds : WorldBox) where
  -- where the one at an index stands among the features that are looked at: those before it are those before it in the box, and some others
  pub record IsAt (id : ℕ) (looked : List Entry) (k : ℕ) : Type 0 where
    pub front : List Entry
    pub entry : Entry
    pub from : AreFrom m id front (Some entry)
    pub found : feature_from m entry.0 ≡ Some entry
    pub before : in_box bounds front ≡ take k (in_box bounds looked)
    pub is : (d : Entry) → get_or (in_box bounds looked) k d ≡ entry

  with_met : (d : Entry) (es : List Entry) → is_in_box bounds d ≡ true → in_box bounds (d ∷ es) ≡ d ∷ in_box bounds es
  with_met d es met = ap (λ (b : Bool). cond b (d ∷ in_box bounds es) (in_box bounds es)) met

  without_other : (d : Entry) (es : List Entry) → is_in_box bounds d ≡ false → in_box bounds (d ∷ es) ≡ in_box bounds es
  without_other d es other = ap (λ (b : Bool). cond b (d ∷ in_box bounds es) (in_box bounds es)) other

  at_met : (id : ℕ) (d : Entry) (looked : List Entry) (k : ℕ) → feature_from m id ≡ Some d → is_in_box bounds d ≡ true
      → ((j : ℕ) → j < length (in_box bounds looked) → IsAt (d.0 + 1) looked j) → k < length (in_box bounds (d ∷ looked)) → IsAt id (d ∷ looked) k
  at_met id d looked zero is met later lt = record {
    front = [];
    entry = d;
    from = is;
    found = found_self m id d is;
    before = sym (ap (take 0) (with_met d looked met));
    is = λ e. ap (λ (l : List Entry). get_or l 0 e) (with_met d looked met);
  }
  at_met id d looked (suc k) is met later lt =
      let same = with_met d looked met in
      let at = later k (omega (arith, lt, ap length same)) in
      record {
        front = d ∷ at.front;
        entry = at.entry;
        from = (is, at.from);
        found = at.found;
        before = with_met d at.front met ∙ ap (λ (l : List Entry). d ∷ l) at.before ∙ sym (ap (take (suc k)) same);
        is = λ e. ap (λ (l : List Entry). get_or l (suc k) e) same ∙ at.is e;
      }

  at_other : (id : ℕ) (d : Entry) (looked : List Entry) (k : ℕ) → feature_from m id ≡ Some d → is_in_box bounds d ≡ false
      → ((j : ℕ) → j < length (in_box bounds looked) → IsAt (d.0 + 1) looked j) → k < length (in_box bounds (d ∷ looked)) → IsAt id (d ∷ looked) k
  at_other id d looked k is other later lt =
      let same = without_other d looked other in
      let at = later k (omega (arith, lt, ap length same)) in
      record {
        front = d ∷ at.front;
        entry = at.entry;
        from = (is, at.from);
        found = at.found;
        before = without_other d at.front other ∙ at.before ∙ sym (ap (take k) same);
        is = λ e. ap (λ (l : List Entry). get_or l k e) same ∙ at.is e;
      }

  pub found_at : (id : ℕ) (looked : List Entry) (next : Option Entry) → AreFrom m id looked next → (k : ℕ) → k < length (in_box bounds looked)
      → IsAt id looked k
  found_at id [] next are k lt = absurd (omega (arith, lt))
  found_at id (d ∷ looked) next are k lt = by (is_in_box bounds d) refl (found_at (d.0 + 1) looked next are.1)
    where
      by : (b : Bool) → is_in_box bounds d ≡ b → ((j : ℕ) → j < length (in_box bounds looked) → IsAt (d.0 + 1) looked j) → IsAt id (d ∷ looked) k
      by true met later = at_met id d looked k are.0 met later lt
      by false other later = at_other id d looked k are.0 other later lt

-- ---- the page so far

left_push : (bytes : ℕ) (es : List Entry) (e : Entry) → left_after bytes (es ++ e ∷ []) ≡ left_after bytes es - length (listed e)
left_push bytes [] e = refl
left_push bytes (d ∷ es) e = left_push (bytes - length (listed d)) es e

within_push : (bytes : ℕ) (es : List Entry) (e : Entry) → AreWithin bytes es → 0 < left_after bytes es → AreWithin bytes (es ++ e ∷ [])
within_push bytes [] e within some = (some, tt)
within_push bytes (d ∷ es) e within some = (within.0, within_push (bytes - length (listed d)) es e within.1 some)

-- the first so many of the entries are listed
pub record AreListed (es : List Entry) (k : ℕ) (old text : List ℕ) (left : ℕ) (more : Bool) : Type 0 where
  pub texts : text ≡ old ++ all_listed (take k es)
  pub some : more ≡ are_some (take k es)
  pub left_is : left ≡ left_after PAGE_BYTES (take k es)
  pub within : AreWithin PAGE_BYTES (take k es)

-- one more
pub listed_more : (es : List Entry) (k : ℕ) (e : Entry) (old text new : List ℕ) (left rest : ℕ) (more : Bool) → k < length es → get_or es k e ≡ e
    → 0 < left → rest ≡ left - length (listed e) → new ≡ text ++ (comma_if more ++ listed e) → AreListed es k old text left more
    → AreListed es (k + 1) old new rest true
listed_more es k e old text new left rest more lt is some rest_is new_is so =
    let next : take (k + 1) es ≡ take k es ++ e ∷ [] = take_more es k e lt ∙ ap (λ (d : Entry). take k es ++ d ∷ []) is in
    record {
      texts = listed_on old text new more (take k es) e so.texts so.some new_is ∙ ap (λ (l : List Entry). old ++ all_listed l) (sym next);
      some = sym (some_after (take k es) e) ∙ ap are_some (sym next);
      left_is = rest_is ∙ ap (λ (n : ℕ). n - length (listed e)) so.left_is ∙ sym (left_push PAGE_BYTES (take k es) e)
          ∙ ap (left_after PAGE_BYTES) (sym next);
      within = subst (AreWithin PAGE_BYTES) (sym next)
          (within_push PAGE_BYTES (take k es) e so.within (let here = so.left_is in omega (arith, some, here)));
    }

-- the feature that is found is the one that was looked for
pub ok_added : {E : Type 0} (r : Result ℕ E) (m : FeatureMap) (id : ℕ) (d : Entry) (old new : List ℕ) (more : Bool) → Some d ≡ feature_from m id
    → OnOk r (new ≡ old ++ (comma_if more ++ listed d)) → IfOk r (λ size. size ≡ length (listed d))
    → IfOk r (λ size. (e : Entry) → feature_from m id ≡ Some e → (new ≡ old ++ (comma_if more ++ listed e)) × (size ≡ length (listed e)))
ok_added (Ok size) m id d old new more is items size_is = λ e other.
    let same : d ≡ e = ap (λ (o : Option Entry). unwrap_or o d) (is ∙ other) in
    subst (λ (x : Entry). (new ≡ old ++ (comma_if more ++ listed x)) × (size ≡ length (listed x))) same (items, size_is)
ok_added (Err fault) m id d old new more is items size_is = tt

-- the number at an index is that of the entry there
pub number_at : (es : List Entry) (numbers : List ℕ) (k n : ℕ) (e : Entry) → numbers ≡ keys_of es → k < length es
    → ((d : Entry) → get_or es k d ≡ e) → get_or numbers k n ≡ e.0
number_at es numbers k n e same lt is =
    ap (λ (ns : List ℕ). get_or ns k n) same ∙ get_or-map (λ (x : Entry). x.0) es k e n lt ∙ ap (λ (x : Entry). x.0) (is e)

pub below_count : (es : List Entry) (numbers : List ℕ) (k : ℕ) → numbers ≡ keys_of es → k < length numbers → k < length es
below_count es numbers k same lt = omega (arith, lt, ap length same, length-map es (λ (x : Entry). x.0))

pub past_count : (es : List Entry) (numbers : List ℕ) (k : ℕ) → numbers ≡ keys_of es → length numbers ≤ k → take k es ≡ es
past_count es numbers k same past = take_all k es (omega (arith, past, ap length same, length-map es (λ (x : Entry). x.0)))

-- the page is full
pub full_page : (es front listed_here : List Entry) (next : Option Entry) (k : ℕ) (old text : List ℕ) (left : ℕ) (more : Bool) → listed_here ≡ take k es
    → AreListed es k old text left more → left ≡ 0 → IsBoxPage front listed_here next × (text ≡ old ++ all_listed listed_here)
full_page es front listed_here next k old text left more same so none = (
  record {
    within = subst (AreWithin PAGE_BYTES) (sym same) so.within;
    ends = inl (ap (left_after PAGE_BYTES) same ∙ sym so.left_is ∙ none);
  },
  so.texts ∙ ap (λ (l : List Entry). old ++ all_listed l) (sym same),
)

ends_by : (next : Option Entry) (n : Option ℕ) (count : ℕ) → n ≡ option_map (λ e. e.0) next → (IsSome n → BOX_LOOKS ≤ count)
    → (next ≡ None) ⊎ (BOX_LOOKS ≤ count)
ends_by None n count is many = inl refl
ends_by (Some e) n count is many = inr (many (subst IsSome (sym is) refl))

-- all that was found is listed
pub whole_page : (es looked : List Entry) (next : Option Entry) (n : Option ℕ) (k : ℕ) (old text : List ℕ) (left : ℕ) (more : Bool) → take k es ≡ es
    → AreListed es k old text left more → n ≡ option_map (λ e. e.0) next → (IsSome n → BOX_LOOKS ≤ length looked)
    → IsBoxPage looked es next × (text ≡ old ++ all_listed es)
whole_page es looked next n k old text left more same so is many = (
  record { within = subst (AreWithin PAGE_BYTES) same so.within; ends = inr (ends_by next n (length looked) is many) },
  so.texts ∙ ap (λ (l : List Entry). old ++ all_listed l) same,
)

-- ---- what happens

module _ {D : Type 0} (sectors : D → ℕ) (honest : D → Type 0) (history : D → History) where
  pub box_told : (old : ServiceView D) (bounds : WorldBox) (id : ℕ) (looked : List Entry) (next : Option Entry) (reply : ReplyView)
      → AreFrom old.features id looked next → IsBoxPage looked (in_box bounds looked) next → reply ≡ page_reply (in_box bounds looked) next
      → Answers sectors honest history (MeansBox bounds id) old old reply
  box_told old bounds id looked next reply from page is =
      (looks_from id looked next, inr (looked, next, page, is, refl), takes_looks sectors honest history old id looked next from)
