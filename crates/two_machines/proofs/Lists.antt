-- Edits that are the leader's next ones.
use Rattle.std.proofs.Common.{◌≡◌, ℕ, zero, suc, ◌<◌, ◌≤◌, ◌+◌, ◌-◌, List, [], ◌∷◌, ◌++◌, length, map, take, drop, Ok, refl, sym, ap, subst, ◌∙◌, arith}
use Rattle.std.proofs.Common.{append_assoc, take-append-drop}
use Rattle.std.proofs.lemmas.List.{map-append, length-append, length-map, length-take-le, length-drop}
use Rattle.std.proofs.lemmas.List.Sums.{fold-append}
use Rattle.edit_text.specs.Recorded.{RecordedEdit}
use Rattle.feature_model.specs.Data.{EditData}
use Rattle.feature_store.specs.Store.{FeatureMap, edited, after}
use Rattle.tile_service.specs.After.{made, after as after_recorded}
use Rattle.tile_service.specs.Machine.{Happening, edit}
use Rattle.tile_service.specs.Runs.{edits_by, acknowledged, happening_at}
use Rattle.map_replies.specs.Feed.{changes_of}
use Rattle.two_machines.specs.Standby.{HasFirstEdits, IsEditOf}
use Rattle.two_machines.specs.Machines.{IsGiven, AreGiven}

-- two ways to part a list after as many elements are one
parts_same : (xs ys more : List EditData) (y : EditData) (later : List EditData) → xs ++ more ≡ ys ++ y ∷ later → length xs ≡ length ys
    → (xs ≡ ys) × (more ≡ y ∷ later)
parts_same [] [] more y later same many = (refl, same)
parts_same [] (b ∷ ys) more y later same many = absurd (omega (arith, many))
parts_same (a ∷ xs) [] more y later same many = absurd (omega (arith, many))
parts_same (a ∷ xs) (b ∷ ys) more y later same many =
    let rest = parts_same xs ys more y later (ap (drop 1) same) (omega (arith, many)) in
    (λ i. head_is i ∷ rest.0 i, rest.1)
  where
    head : List EditData → EditData
    head [] = []
    head (c ∷ cs) = c

    head_is : a ≡ b
    head_is = ap head same

-- the map after edits as records have them is that after their changes
pub after_changes : (m : FeatureMap) (es : List RecordedEdit) → after_recorded m es ≡ after m (changes_of es)
after_changes m [] = refl
after_changes m (e ∷ es) = after_changes (edited m e.changes) es

module _ (m : FeatureMap) (first : ℕ) (edits : List EditData) where
  -- the next of the leader's edits was made
  made_next : (features : FeatureMap) (last : ℕ) (cs : EditData) → HasFirstEdits m first edits features last → IsEditOf first edits (last + 1) cs
      → HasFirstEdits m first edits (edited features cs) (last + 1)
  made_next features last cs has is =
      let many : length has.done ≡ length is.earlier = omega (arith, has.last_is, is.number_is) in
      let same = parts_same has.done is.earlier has.more cs is.later (sym has.are ∙ is.are) many in
      record {
        done = has.done ++ cs ∷ [];
        more = is.later;
        are = has.are ∙ ap (λ (rest : List EditData). has.done ++ rest) same.1 ∙ sym (append_assoc has.done (cs ∷ []) is.later);
        last_is = omega (arith, has.last_is, length-append has.done (cs ∷ []));
        features_are = ap (λ (f : FeatureMap). edited f cs) has.features_are ∙ sym (fold-append edited m has.done (cs ∷ []));
      }

  -- each is the leader's next edit after those before it
  abbrev pub AreNext : (last : ℕ) → List RecordedEdit → Type 0
  AreNext last [] = Unit {0}
  AreNext last (e ∷ es) = IsEditOf first edits (last + 1) e.changes × AreNext (last + 1) es

  pub next_first : (features : FeatureMap) (last : ℕ) (es : List RecordedEdit) → HasFirstEdits m first edits features last → AreNext last es
      → HasFirstEdits m first edits (after_recorded features es) (last + length es)
  next_first features last [] has next = subst (HasFirstEdits m first edits features) (omega arith) has
  next_first features last (e ∷ es) has next =
      subst (HasFirstEdits m first edits (after_recorded (edited features e.changes) es)) (omega arith)
      (next_first (edited features e.changes) (last + 1) es (made_next features last e.changes has next.0) next.1)

  pub some_next : (last n : ℕ) (es : List RecordedEdit) → AreNext last es → AreNext last (take n es)
  some_next last zero es next = tt
  some_next last (suc n) [] next = tt
  some_next last (suc n) (e ∷ es) next = (next.0, some_next (last + 1) n es next.1)

  pub one_more_next : (last : ℕ) (es : List RecordedEdit) (e : RecordedEdit) → AreNext last es
      → IsEditOf first edits (last + length es + 1) e.changes → AreNext last (es ++ e ∷ [])
  one_more_next last [] e next is =
      let same : last + 0 + 1 ≡ last + 1 = omega arith in (subst (λ (n : ℕ). IsEditOf first edits n e.changes) same is, tt)
  one_more_next last (x ∷ es) e next is =
      let same : last + length (x ∷ es) + 1 ≡ last + 1 + length es + 1 = omega arith in
      (next.0, one_more_next (last + 1) es e next.1 (subst (λ (n : ℕ). IsEditOf first edits n e.changes) same is))

  -- what was acknowledged of what is given
  with_given : (last : ℕ) (h : Happening) (es : List RecordedEdit) → IsGiven first edits last h → AreNext (last + length (edits_by h)) es
      → AreNext last (edits_by h ++ es)
  with_given last (edit call e (Ok number)) es given next = (given, next)
  with_given last h es given next = let same : last + 0 ≡ last = omega arith in subst (λ (n : ℕ). AreNext n es) same next

  pub given_next : (last : ℕ) (happenings : List Happening) → AreGiven first edits last happenings → AreNext last (acknowledged happenings)
  given_next last [] given = tt
  given_next last (h ∷ happenings) given =
      with_given last h (acknowledged happenings) given.0 (given_next (last + length (edits_by h)) happenings given.1)

  -- calls after calls
  pub given_on : (last : ℕ) (xs ys : List Happening) → AreGiven first edits last xs → AreGiven first edits (last + length (acknowledged xs)) ys
      → AreGiven first edits last (xs ++ ys)
  given_on last [] ys given more = let same : last + 0 ≡ last = omega arith in subst (λ (n : ℕ). AreGiven first edits n ys) same more
  given_on last (h ∷ xs) ys given more =
      let count : last + length (edits_by h ++ acknowledged xs) ≡ last + length (edits_by h) + length (acknowledged xs) =
      omega (arith, length-append (edits_by h) (acknowledged xs)) in
      (given.0, given_on (last + length (edits_by h)) xs ys given.1 (subst (λ (n : ℕ). AreGiven first edits n ys) count more))

  edit_given : (last : ℕ) (h : Happening) (call : _) (e : RecordedEdit) (outcome : _) → h ≡ edit call e outcome → IsGiven first edits last h
      → IsEditOf first edits (last + 1) e.changes
  edit_given last h call e outcome is given = subst (IsGiven first edits last) is given

  -- the edit that is asked for by the happening of an index
  pub given_at : (last index : ℕ) (happenings : List Happening) (call : _) (e : RecordedEdit) (outcome : _) → AreGiven first edits last happenings
      → index < length happenings → happening_at happenings index ≡ edit call e outcome
      → IsEditOf first edits (last + length (acknowledged (take index happenings)) + 1) e.changes
  given_at last index [] call e outcome given within is = absurd (omega (arith, within))
  given_at last zero (h ∷ happenings) call e outcome given within is =
      let same : last + 1 ≡ last + 0 + 1 = omega arith in
      subst (λ (n : ℕ). IsEditOf first edits n e.changes) same (edit_given last h call e outcome is given.0)
  given_at last (suc index) (h ∷ happenings) call e outcome given within is =
      subst (λ (n : ℕ). IsEditOf first edits n e.changes)
      (omega (arith, length-append (edits_by h) (acknowledged (take index happenings))))
      (given_at (last + length (edits_by h)) index happenings call e outcome given.1 (omega (arith, within)) is)

-- ---- what is listed

-- the edit behind others, after some are dropped, is among all under its number
pub there_at : (first : ℕ) (es : List RecordedEdit) (j at number : ℕ) (earlier rest : List RecordedEdit) (e : RecordedEdit)
    → drop at (drop j es) ≡ earlier ++ e ∷ rest → at ≡ number - (first + j + 1) → first + j < number
    → IsEditOf first (changes_of es) (number + length earlier) e.changes
there_at first es j at number earlier rest e is at_is above =
    let count : length (drop at (drop j es)) ≡ length earlier + suc (length rest) = ap length is ∙ length-append earlier (e ∷ rest) in
    let dropped = length-drop at (drop j es) in
    let within : at ≤ length (drop j es) = omega (arith, count, dropped) in
    let below : j ≤ length es = omega (arith, count, dropped, length-drop j es) in
    let front : List RecordedEdit = take j es ++ take at (drop j es) in
    let whole : es ≡ front ++ (earlier ++ e ∷ rest) =
    sym (take-append-drop j es)
    ∙ ap (λ (xs : List RecordedEdit). take j es ++ xs)
    (sym (take-append-drop at (drop j es)) ∙ ap (λ (xs : List RecordedEdit). take at (drop j es) ++ xs) is)
    ∙ sym (append_assoc (take j es) (take at (drop j es)) (earlier ++ e ∷ rest)) in
    record {
      earlier = changes_of (front ++ earlier);
      later = changes_of rest;
      are = ap changes_of (whole ∙ sym (append_assoc front earlier (e ∷ rest)))
          ∙ map-append (λ (x : RecordedEdit). x.changes) (front ++ earlier) (e ∷ rest);
      number_is = omega (
        arith,
        at_is,
        above,
        length-map (front ++ earlier) (λ (x : RecordedEdit). x.changes),
        length-append front earlier,
        length-append (take j es) (take at (drop j es)),
        length-take-le j es below,
        length-take-le at (drop j es) within,
      );
    }

-- it stays one, with more edits after it
pub edit_of_more : (first : ℕ) (edits more : List EditData) (number : ℕ) (cs : EditData) → IsEditOf first edits number cs
    → IsEditOf first (edits ++ more) number cs
edit_of_more first edits more number cs is = record {
  earlier = is.earlier;
  later = is.later ++ more;
  are = ap (λ (l : List EditData). l ++ more) is.are ∙ append_assoc is.earlier (cs ∷ is.later) more;
  number_is = is.number_is;
}
