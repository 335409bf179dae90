-- What an edit leaves: the layers of the tiles that it doesn't reach, so tiles that were kept, and earlier maps.
use Rattle.std.proofs.Common.{◌≡◌, ◌≢◌, ℕ, ◌<◌, ◌≤◌, ◌+◌, Bool, true, false, List, [], ◌∷◌, ◌++◌, length, length-append, All}
use Rattle.std.proofs.Common.{Option, Some, None, refl, sym, subst, ◌∙◌, arith}
use Rattle.std.proofs.lemmas.List.Elements.{All-cons, All-head, All-tail, All-weaker}
use Rattle.std.proofs.lemmas.List.Sums.{fold-append}
use Rattle.number_map.proofs.Numbers.{by_order}
use Rattle.number_map.proofs.Entries.{lookup_here, lookup_on}
use Rattle.feature_model.specs.Data.{FeatureData, ChangeData, put, delete}
use Rattle.feature_model.specs.Spelled.{spelled_change, spelled_changes}
use Rattle.feature_model.specs.Types.{IsChange, LiesInWorld}
use Rattle.feature_store.specs.Content.{IsTileContent}
use Rattle.feature_store.specs.Layers.{is_tile, layers}
use Rattle.feature_store.specs.Store.{FeatureMap, IsMap, feature_at, with_feature, without_feature, changed, edited, snapshot, puts_in}
use Rattle.feature_store.specs.declared.limit.TheConstants.{TEXTS_END}
use Rattle.feature_store.proofs.Laws.{layers_outside, map_after_change, snapshot_after_put, snapshot_after_delete}
use Rattle.tile_cache.specs.Touched.{Mark, Reaches, Remembers}
use Rattle.tile_cache.specs.Kept.{CacheView}
use Rattle.tile_cache.specs.declared.cached_tiles.Origin.{Origin}
use Rattle.cached_map.specs.Cached.{CachedView, box_of, with_mark, marks_of, marks_after, IsUntouched, AreKept, WasMap}
use Rattle.cached_map.proofs.Unreached.{IsHidden, layers_put, layers_removed, unreached}

-- ---- features of a map

lies_at : (m : FeatureMap) (id : ℕ) (f : FeatureData) → All (λ e. LiesInWorld e.1.geometry) m → feature_at m id ≡ Some f → LiesInWorld f.geometry
unfolding feature_at
lies_at [] id f all is = cc
lies_at (e ∷ m) id f all is =
    let P : ℕ × FeatureData → Type 0 = λ d. LiesInWorld d.1.geometry in
    let on : (id ≢ e.0) → LiesInWorld f.geometry =
    λ h. lies_at m id f (All-tail P e m all) (sym (lookup_on id e m h) ∙ is) in
    by_order id e.0 (λ h. on (λ s. omega (arith, h, s)))
    (λ h. let same : e.1 ≡ f = cc' (sym (lookup_here id e m h) ∙ is) in subst (λ d. LiesInWorld d.geometry) same (All-head P e m all))
    (λ h. on (λ s. omega (arith, h, s)))
  where
    cc' : {a b : FeatureData} → Some a ≡ Some b → a ≡ b
    cc' same = cc

in_world : (m : FeatureMap) → IsMap m → All (λ e. LiesInWorld e.1.geometry) m
in_world m is = All-weaker (λ e. IsChange (put e.0 e.1)) (λ e. LiesInWorld e.1.geometry) (λ e edit. edit.1.geometry) m is.edits

-- ---- the marks of an edit

-- a mark with a greater number doesn't reach an untouched tile
beyond : (f : FeatureData) (number last n z x y : ℕ) (marks : List Mark) → last < number → n ≤ last → IsUntouched ((box_of f, number) ∷ marks) z x y n
    → ¬ Reaches (box_of f) z x y
beyond f number last n z x y marks later below all reaches =
    absurd (omega (arith, later, below, All-head (λ (m : Mark). Reaches m.0 z x y → m.1 ≤ n) (box_of f, number) marks all reaches))

rest_of : (old : Option FeatureData) (number n z x y : ℕ) (marks : List Mark) → IsUntouched (with_mark old number marks) z x y n → IsUntouched marks z x y n
rest_of None number n z x y marks all = all
rest_of (Some f) number n z x y marks all = All-tail (λ (m : Mark). Reaches m.0 z x y → m.1 ≤ n) (box_of f, number) marks all

numbers_on : (last number : ℕ) (marks : List Mark) → last < number → All (λ m. m.1 ≤ last) marks → All (λ m. m.1 ≤ number) marks
numbers_on last number marks later all =
    All-weaker (λ (m : Mark). m.1 ≤ last) (λ (m : Mark). m.1 ≤ number) (λ m below. omega (arith, below, later)) marks all

numbers_with : (old : Option FeatureData) (last number : ℕ) (marks : List Mark) → last < number → All (λ m. m.1 ≤ last) marks
    → All (λ m. m.1 ≤ number) (with_mark old number marks)
numbers_with None last number marks later all = numbers_on last number marks later all
numbers_with (Some f) last number marks later all =
    All-cons (λ (m : Mark). m.1 ≤ number) (box_of f, number) marks (omega arith) (numbers_on last number marks later all)

-- ---- what an edit leaves

-- an edit with a later number, that marks what it touches, leaves the layers of each tile that it doesn't reach
pub record IsEdited (old new : CachedView) (marked : List Mark → List Mark) : Type 0 where
  pub later : old.last < new.last
  pub remembers : (marks : List Mark) → Remembers old.touched marks → Remembers new.touched (marked marks)
  pub numbers : (marks : List Mark) → All (λ m. m.1 ≤ old.last) marks → All (λ m. m.1 ≤ new.last) (marked marks)
  pub before : (marks : List Mark) (z x y n : ℕ) → IsUntouched (marked marks) z x y n → IsUntouched marks z x y n
  pub leaves : (marks : List Mark) (z x y n : ℕ) → n ≤ old.last → IsUntouched (marked marks) z x y n → layers new.features z x y ≡ layers old.features z x y

module _ (old new : CachedView) (id : ℕ) where
  -- the marks of what the number had
  abbrev pub removal : List Mark → List Mark
  removal marks = with_mark (feature_at old.features id) new.last marks

  -- what the tile shows of the number's feature, once an edit with a greater number is known not to reach it
  hidden_before : IsMap old.features → old.last < new.last → (z x y n : ℕ) (marks : List Mark) → is_tile z x y ≡ true → n ≤ old.last
      → IsUntouched (removal marks) z x y n → (f : FeatureData) → feature_at old.features id ≡ Some f → IsHidden z x y f
  hidden_before is_map later z x y n marks tile below all f is =
      unreached f z x y tile (lies_at old.features id f (in_world old.features is_map) is)
      (beyond f new.last old.last n z x y marks later below (subst (λ o. IsUntouched (with_mark o new.last marks) z x y n) is all))

  pub removed : IsMap old.features → old.last < new.last → new.features ≡ without_feature old.features id
      → ((marks : List Mark) → Remembers old.touched marks → Remembers new.touched (removal marks)) → IsEdited old new removal
  removed is_map later is remembers = record {
    later = later;
    remembers = remembers;
    numbers = λ marks all. numbers_with (feature_at old.features id) old.last new.last marks later all;
    before = λ marks z x y n all. rest_of (feature_at old.features id) new.last n z x y marks all;
    leaves = λ marks z x y n below all.
        subst (λ m. layers m z x y ≡ layers old.features z x y) (sym is) (go marks z x y n below all (is_tile z x y) refl);
  }
    where
      go : (marks : List Mark) (z x y n : ℕ) → n ≤ old.last → IsUntouched (removal marks) z x y n
          → (b : Bool) → is_tile z x y ≡ b → layers (without_feature old.features id) z x y ≡ layers old.features z x y
      go marks z x y n below all false none = layers_outside (without_feature old.features id) z x y none ∙ sym (layers_outside old.features z x y none)
      go marks z x y n below all true tile = layers_removed z x y old.features id (hidden_before is_map later z x y n marks tile below all)

-- ---- changes that are made together

-- Changes by an edit of this number, that mark what they touch, leave the layers of each tile that they don't reach, for numbers up to
-- the last before it.
pub record IsMarked (last number : ℕ) (m made : FeatureMap) (marked : List Mark → List Mark) : Type 0 where
  pub numbers : (marks : List Mark) → All (λ m. m.1 ≤ number) marks → All (λ m. m.1 ≤ number) (marked marks)
  pub before : (marks : List Mark) (z x y n : ℕ) → IsUntouched (marked marks) z x y n → IsUntouched marks z x y n
  pub leaves : (marks : List Mark) (z x y n : ℕ) → n ≤ last → IsUntouched (marked marks) z x y n → layers made z x y ≡ layers m z x y

mark_kept : (old : Option FeatureData) (number : ℕ) (marks : List Mark) → All (λ m. m.1 ≤ number) marks → All (λ m. m.1 ≤ number) (with_mark old number marks)
mark_kept None number marks all = all
mark_kept (Some f) number marks all = All-cons (λ (m : Mark). m.1 ≤ number) (box_of f, number) marks (omega arith) all

numbers_kept : (m : FeatureMap) (c : ChangeData) (number : ℕ) (marks : List Mark) → All (λ m. m.1 ≤ number) marks
    → All (λ m. m.1 ≤ number) (marks_of m c number marks)
numbers_kept m (put id f) number marks all =
    All-cons (λ (m : Mark). m.1 ≤ number) (box_of f, number) (with_mark (feature_at m id) number marks) (omega arith)
    (mark_kept (feature_at m id) number marks all)
numbers_kept m (delete id) number marks all = mark_kept (feature_at m id) number marks all

module _ (last number : ℕ) (later : last < number) (m : FeatureMap) (is_map : IsMap m) where
  -- what the tile shows of the number's feature, once a change by an edit with a greater number is known not to reach it
  hidden_feature : (id z x y n : ℕ) (marks : List Mark) → is_tile z x y ≡ true → n ≤ last
      → IsUntouched (with_mark (feature_at m id) number marks) z x y n → (f : FeatureData) → feature_at m id ≡ Some f → IsHidden z x y f
  hidden_feature id z x y n marks tile below all f is =
      unreached f z x y tile (lies_at m id f (in_world m is_map) is)
      (beyond f number last n z x y marks later below (subst (λ o. IsUntouched (with_mark o number marks) z x y n) is all))

  behind_mark : (f : FeatureData) (id z x y n : ℕ) (marks : List Mark) → IsUntouched (marks_of m (put id f) number marks) z x y n
      → IsUntouched (with_mark (feature_at m id) number marks) z x y n
  behind_mark f id z x y n marks all = All-tail (λ (m : Mark). Reaches m.0 z x y → m.1 ≤ n) (box_of f, number) (with_mark (feature_at m id) number marks) all

  leaves_put : (f : FeatureData) (id z x y n : ℕ) (marks : List Mark) → LiesInWorld f.geometry → n ≤ last
      → IsUntouched (marks_of m (put id f) number marks) z x y n → (b : Bool) → is_tile z x y ≡ b
      → layers (with_feature m id f) z x y ≡ layers m z x y
  leaves_put f id z x y n marks lies below all false none = layers_outside (with_feature m id f) z x y none ∙ sym (layers_outside m z x y none)
  leaves_put f id z x y n marks lies below all true tile = layers_put z x y m id f
      (unreached f z x y tile lies (beyond f number last n z x y (with_mark (feature_at m id) number marks) later below all))
      (hidden_feature id z x y n marks tile below (behind_mark f id z x y n marks all))

  leaves_removed : (id z x y n : ℕ) (marks : List Mark) → n ≤ last → IsUntouched (with_mark (feature_at m id) number marks) z x y n
      → (b : Bool) → is_tile z x y ≡ b → layers (without_feature m id) z x y ≡ layers m z x y
  leaves_removed id z x y n marks below all false none = layers_outside (without_feature m id) z x y none ∙ sym (layers_outside m z x y none)
  leaves_removed id z x y n marks below all true tile = layers_removed z x y m id (hidden_feature id z x y n marks tile below all)

  one_marked : (c : ChangeData) → IsChange c → IsMarked last number m (changed m c) (marks_of m c number)
  one_marked (put id f) is = record {
    numbers = numbers_kept m (put id f) number;
    before = λ marks z x y n all. rest_of (feature_at m id) number n z x y marks (behind_mark f id z x y n marks all);
    leaves = λ marks z x y n below all. leaves_put f id z x y n marks is.1.geometry below all (is_tile z x y) refl;
  }
  one_marked (delete id) is = record {
    numbers = numbers_kept m (delete id) number;
    before = λ marks z x y n all. rest_of (feature_at m id) number n z x y marks all;
    leaves = λ marks z x y n below all. leaves_removed id z x y n marks below all (is_tile z x y) refl;
  }

-- a change makes the texts of a map longer by its own at most
pub changed_short : (m : FeatureMap) (c : ChangeData) → length (snapshot (changed m c)) ≤ length (snapshot m) + length (spelled_change c)
changed_short m (put id f) = snapshot_after_put m id f
changed_short m (delete id) = omega (arith, snapshot_after_delete m id)

pub texts_on : (c : ChangeData) (cs : List ChangeData) → length (spelled_changes (c ∷ cs)) ≡ length (spelled_change c) + length (spelled_changes cs)
texts_on c cs = length-append (spelled_change c) (spelled_changes cs)

pub all_marked : (last number : ℕ) → last < number → (m : FeatureMap) (cs : List ChangeData) → IsMap m → All IsChange cs
    → length (snapshot m) + length (spelled_changes cs) < TEXTS_END → IsMarked last number m (edited m cs) (marks_after m cs number)
all_marked last number later m [] is_map are short = record {
  numbers = λ marks all. all;
  before = λ marks z x y n all. all;
  leaves = λ marks z x y n below all. refl;
}
all_marked last number later m (c ∷ cs) is_map are short =
    let shorter : length (snapshot (changed m c)) + length (spelled_changes cs) < TEXTS_END = omega (arith, short, changed_short m c, texts_on c cs) in
    let one = one_marked last number later m is_map c (All-head IsChange c cs are) in
    let made = map_after_change m c is_map (All-head IsChange c cs are) (omega (arith, shorter)) in
    let more = all_marked last number later (changed m c) cs made (All-tail IsChange c cs are) shorter in
    record {
      numbers = λ marks all. more.numbers (marks_of m c number marks) (one.numbers marks all);
      before = λ marks z x y n all. one.before marks z x y n (more.before (marks_of m c number marks) z x y n all);
      leaves = λ marks z x y n below all. more.leaves (marks_of m c number marks) z x y n below all
          ∙ one.leaves marks z x y n below (more.before (marks_of m c number marks) z x y n all);
    }

-- an edit of changes is one that marks what it touches
pub edited_by : (old new : CachedView) (cs : List ChangeData) → IsMap old.features → old.last < new.last → All IsChange cs
    → length (snapshot old.features) + length (spelled_changes cs) < TEXTS_END → new.features ≡ edited old.features cs
    → ((marks : List Mark) → Remembers old.touched marks → Remembers new.touched (marks_after old.features cs new.last marks))
    → IsEdited old new (marks_after old.features cs new.last)
edited_by old new cs is_map later are short is remembers =
    let marked = all_marked old.last new.last later old.features cs is_map are short in
    record {
      later = later;
      remembers = remembers;
      numbers = λ marks all. marked.numbers marks (numbers_on old.last new.last marks later all);
      before = marked.before;
      leaves = λ marks z x y n below all. subst (λ m. layers m z x y ≡ layers old.features z x y) (sym is) (marked.leaves marks z x y n below all);
    }

-- ---- one change before or after others

pub puts_first : (c : ChangeData) (cs : List ChangeData) → puts_in (c ∷ cs) ≡ puts_in (c ∷ []) + puts_in cs
puts_first (put id f) cs = omega arith
puts_first (delete id) cs = omega arith

pub marks_push : (m : FeatureMap) (cs : List ChangeData) (c : ChangeData) (number : ℕ) (marks : List Mark)
    → marks_after m (cs ++ c ∷ []) number marks ≡ marks_of (edited m cs) c number (marks_after m cs number marks)
marks_push m [] c number marks = refl
marks_push m (d ∷ cs) c number marks = marks_push (changed m d) cs c number (marks_of m d number marks)

pub edited_push : (m : FeatureMap) (cs : List ChangeData) (c : ChangeData) → edited m (cs ++ c ∷ []) ≡ changed (edited m cs) c
edited_push m cs c = fold-append changed m cs (c ∷ [])

-- ---- what stays so over an edit

module _ (old new : CachedView) (marked : List Mark → List Mark) (edited : IsEdited old new marked) where
  pub still_kept : (origin : Origin) (kept : CacheView) → AreKept origin old.features old.touched old.last kept
      → AreKept origin new.features new.touched new.last kept
  still_kept origin kept before = record {
    marks = marked before.marks;
    remembers = edited.remembers before.marks before.remembers;
    numbers = edited.numbers before.marks before.numbers;
    tiles = λ z x y t is from.
        let was = before.tiles z x y t is from in
        record {
          number = omega (arith, was.number, edited.later);
          tile = λ all. subst (λ ls. IsTileContent ls (Some t.bytes)) (sym (edited.leaves before.marks z x y t.number was.number all))
              (was.tile (edited.before before.marks z x y t.number all));
        };
  }

  pub still_was : (n : ℕ) (was : FeatureMap) → WasMap old.features old.touched old.last n was
      → WasMap new.features new.touched new.last n was
  still_was n was before = record {
    marks = marked before.marks;
    remembers = edited.remembers before.marks before.remembers;
    number = omega (arith, before.number, edited.later);
    tiles = λ z x y all. edited.leaves before.marks z x y n before.number all ∙ before.tiles z x y (edited.before before.marks z x y n all);
  }
