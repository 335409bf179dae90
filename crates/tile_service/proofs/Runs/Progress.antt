-- How far a run has come: its edits, its publications, and what is stored after them.
use Rattle.std.proofs.Common.{◌≡◌, inl, inr, ℕ, zero, suc, ◌≤◌, ◌+◌, ◌-◌, List, [], ◌∷◌, ◌++◌, length, take, drop}
use Rattle.std.proofs.Common.{Option, Some, None, refl, sym, ◌∙◌, ap, subst, arith, append_assoc, length-append}
use Rattle.std.specs.Prelude.{IfSome, option_map, Ok, Err}
use Rattle.std.proofs.lemmas.List.{take-append-le, take_all, take_at, append-nil, length-drop, drop-append-le}
use Rattle.edit_text.specs.Recorded.{RecordedEdit}
use Rattle.feature_store.specs.Store.{FeatureMap}
use Rattle.tile_service.specs.After.{after}
use Rattle.tile_service.specs.Machine.{Publication, ServiceState, Happening, edit, begin, step, cancel, check, tile, tile_number, look, look_from}
use Rattle.tile_service.specs.Machine.{metadata, read, list_edits}
use Rattle.tile_service.specs.Machine.{Happens, HasPublication, GoesOn}
use Rattle.tile_service.specs.Publishing.{published}
use Rattle.tile_service.specs.Runs.{edits_by, IsDoubtful, acknowledged, all_edits, Way, way_of, Progress, starts, stepped, progress_after, progress_of, fitting}
use Rattle.tile_service.specs.Service.{PublicationView, going_of, count_at, stored_after}
use Rattle.tile_service.specs.Stored.{Stored, last_of, with_edit}
use Rattle.tile_service.specs.declared.fault.ServiceFault.TheVariants.{Broken, Device}
use Rattle.tile_service.proofs.Publications.DuringEdits.{published_fits, place_behind}

-- ---- one happening more

acknowledged_on : (hs : List Happening) (h : Happening) → acknowledged (hs ++ h ∷ []) ≡ acknowledged hs ++ edits_by h
acknowledged_on [] h = append-nil (edits_by h)
acknowledged_on (first ∷ hs) h = ap (λ (l : List RecordedEdit). edits_by first ++ l) (acknowledged_on hs h)
    ∙ sym (append_assoc (edits_by first) (acknowledged hs) (edits_by h))

pub all_edits_on : (start : Stored) (hs : List Happening) (h : Happening) → all_edits start (hs ++ h ∷ []) ≡ all_edits start hs ++ edits_by h
all_edits_on start hs h = ap (λ (l : List RecordedEdit). start.since ++ l) (acknowledged_on hs h)
    ∙ sym (append_assoc start.since (acknowledged hs) (edits_by h))

pub progress_on : (p : Progress) (hs : List Happening) (h : Happening) → progress_of p (hs ++ h ∷ []) ≡ progress_after (progress_of p hs) h
progress_on p [] h = refl
progress_on p (first ∷ hs) h = progress_on (progress_after p first) hs h

-- the acknowledged edits of the first happenings, and those of the others
pub split_at : (hs : List Happening) (i : ℕ) → (rest : List RecordedEdit) × (acknowledged hs ≡ acknowledged (take i hs) ++ rest)
split_at hs zero = (acknowledged hs, refl)
split_at [] (suc i) = ([], refl)
split_at (h ∷ hs) (suc i) = let more = split_at hs i in (
  more.0,
  ap (λ (l : List RecordedEdit). edits_by h ++ l) more.1 ∙ sym (append_assoc (edits_by h) (acknowledged (take i hs)) more.0),
)

pub all_split_at : (start : Stored) (hs : List Happening) (i : ℕ)
    → (rest : List RecordedEdit) × (all_edits start hs ≡ all_edits start (take i hs) ++ rest)
all_split_at start hs i = let more = split_at hs i in (
  more.0,
  ap (λ (l : List RecordedEdit). start.since ++ l) more.1 ∙ sym (append_assoc start.since (acknowledged (take i hs)) more.0),
)

-- there are no fewer of more happenings
more_of_more : (hs : List Happening) (k i : ℕ) → k ≤ i → length (acknowledged (take k hs)) ≤ length (acknowledged (take i hs))
more_of_more hs zero i le = omega arith
more_of_more hs (suc k) zero le = absurd (omega (arith, le))
more_of_more [] (suc k) (suc i) le = omega arith
more_of_more (h ∷ hs) (suc k) (suc i) le = let rest = more_of_more hs k i (omega (arith, le)) in
    omega (arith, rest, length-append (edits_by h) (acknowledged (take k hs)), length-append (edits_by h) (acknowledged (take i hs)))

pub all_of_more : (start : Stored) (hs : List Happening) (k i : ℕ) → k ≤ i
    → length (all_edits start (take k hs)) ≤ length (all_edits start (take i hs))
all_of_more start hs k i le = omega (
  arith,
  more_of_more hs k i le,
  length-append start.since (acknowledged (take k hs)),
  length-append start.since (acknowledged (take i hs)),
)

-- ---- how many edits there are

stepped_edits : (p : Progress) (way : Option Way) (told : ℕ) → (stepped p way told).edits ≡ p.edits
stepped_edits p None told = refl
stepped_edits p (Some way) zero = refl
stepped_edits p (Some way) (suc told) = refl

after_edits : (p : Progress) (h : Happening) → (progress_after p h).edits ≡ p.edits + length (edits_by h)
after_edits p (edit call e (Ok number)) = omega arith
after_edits p (begin (Ok left)) = omega arith
after_edits p (cancel (Ok done)) = omega arith
after_edits p (step (Ok left)) = omega (arith, stepped_edits p p.under_way left)
after_edits p h = omega arith

of_edits : (p : Progress) (hs : List Happening) → (progress_of p hs).edits ≡ p.edits + length (acknowledged hs)
of_edits p [] = omega arith
of_edits p (h ∷ hs) = omega (
  arith,
  of_edits (progress_after p h) hs,
  after_edits p h,
  length-append (edits_by h) (acknowledged hs),
)

pub progress_edits : (start : Stored) (way : Option Way) (hs : List Happening)
    → (progress_of (starts start way) hs).edits ≡ length (all_edits start hs)
progress_edits start way hs = omega (arith, of_edits (starts start way) hs, length-append start.since (acknowledged hs))

-- ---- no more are published

-- what is published and what is under way are some of the edits
pub record Within (p : Progress) : Type 0 where
  pub published : p.published ≤ p.edits
  pub under_way : IfSome p.under_way (λ (way : Way). way.edits ≤ p.edits)

still_within : (way : Option Way) (few many : ℕ) → few ≤ many → IfSome way (λ (w : Way). w.edits ≤ few) → IfSome way (λ (w : Way). w.edits ≤ many)
still_within None few many le within = tt
still_within (Some way) few many le within = omega (arith, within, le)

stepped_within : (p : Progress) (way : Option Way) (told : ℕ) → p.under_way ≡ way → Within p → Within (stepped p way told)
stepped_within p None told is within = within
stepped_within p (Some way) zero is within = record {
  published = subst (λ (w : Option Way). IfSome w (λ (x : Way). x.edits ≤ p.edits)) is within.under_way;
  under_way = tt;
}
stepped_within p (Some way) (suc told) is within = record {
  published = within.published;
  under_way = subst (λ (w : Option Way). IfSome w (λ (x : Way). x.edits ≤ p.edits)) is within.under_way;
}

after_within : (p : Progress) (h : Happening) → Within p → Within (progress_after p h)
after_within p (edit call e (Ok number)) within = record {
  published = omega (arith, within.published);
  under_way = still_within p.under_way p.edits (p.edits + 1) (omega arith) within.under_way;
}
after_within p (begin (Ok left)) within = record { published = within.published; under_way = omega arith }
after_within p (step (Ok left)) within = stepped_within p p.under_way left refl within
after_within p (cancel (Ok done)) within = record { published = within.published; under_way = tt }
after_within p h within = within

pub progress_within : (p : Progress) (hs : List Happening) → Within p → Within (progress_of p hs)
progress_within p [] within = within
progress_within p (h ∷ hs) within = progress_within (progress_after p h) hs (after_within p h within)

-- ---- what is stored

-- all of the edits, this many of them in the snapshot
abbrev pub Has : Stored → List RecordedEdit → (j : ℕ) → Stored → Type 0
Has start edits j s =
    (generation : ℕ) × (journal_at : ℕ) × (archive : List ℕ) × (s ≡ fitting start edits (length edits) j generation journal_at archive)

all_taken : (xs : List RecordedEdit) → take (length xs) xs ≡ xs
all_taken xs = take_all (length xs) xs (omega arith)

module _ (start : Stored) (edits : List RecordedEdit) (j generation journal_at : ℕ) (archive : List ℕ) (le : j ≤ length edits) where
  -- the first edits of more
  pub fits_more : (rest : List RecordedEdit)
      → fitting start edits (length edits) j generation journal_at archive ≡ fitting start (edits ++ rest) (length edits) j generation journal_at archive
  fits_more rest = λ k. record {
    version = start.version;
    generation = generation;
    snapshot_map = after start.snapshot_map (snapshot_same k);
    edits = start.edits + j;
    since = drop j (since_same k);
    journal_at = journal_at;
    archive = archive;
  }
    where
      snapshot_same : take j edits ≡ take j (edits ++ rest)
      snapshot_same = sym (take-append-le j edits rest le)

      since_same : take (length edits) edits ≡ take (length edits) (edits ++ rest)
      since_same = all_taken edits ∙ sym (take_at edits rest (length edits) refl)

  -- one edit more
  pub fits_edit : (e : RecordedEdit) → with_edit (fitting start edits (length edits) j generation journal_at archive) e
      ≡ fitting start (edits ++ e ∷ []) (length (edits ++ e ∷ [])) j generation journal_at archive
  fits_edit e = λ k. record {
    version = start.version;
    generation = generation;
    snapshot_map = after start.snapshot_map (snapshot_same k);
    edits = start.edits + j;
    since = since_same k;
    journal_at = journal_at;
    archive = archive;
  }
    where
      snapshot_same : take j edits ≡ take j (edits ++ e ∷ [])
      snapshot_same = sym (take-append-le j edits (e ∷ []) le)

      since_same : drop j (take (length edits) edits) ++ e ∷ [] ≡ drop j (take (length (edits ++ e ∷ [])) (edits ++ e ∷ []))
      since_same = ap (λ (l : List RecordedEdit). drop j l ++ e ∷ []) (all_taken edits) ∙ sym (drop-append-le j edits (e ∷ []) le)
          ∙ sym (ap (λ (l : List RecordedEdit). drop j l) (all_taken (edits ++ e ∷ [])))

-- before the first event
pub has_start : (start : Stored) → Has start (start.since ++ []) 0 start
has_start start = (
  start.generation,
  start.journal_at,
  start.archive,
  λ k. record {
    version = start.version;
    generation = start.generation;
    snapshot_map = start.snapshot_map;
    edits = none k;
    since = whole k;
    journal_at = start.journal_at;
    archive = start.archive;
  },
)
  where
    none : start.edits ≡ start.edits + 0
    none = omega arith

    whole : start.since ≡ take (length (start.since ++ [])) (start.since ++ [])
    whole = sym (append-nil start.since) ∙ sym (all_taken (start.since ++ []))

-- the same with no edit more
has_none : (start : Stored) (edits : List RecordedEdit) (j : ℕ) (s : Stored) → Has start edits j s → Has start (edits ++ []) j s
has_none start edits j s has = subst (λ (l : List RecordedEdit). Has start l j s) (sym (append-nil edits)) has

pub has_edit : (start : Stored) (edits : List RecordedEdit) (j : ℕ) (s : Stored) (e : RecordedEdit) → j ≤ length edits → Has start edits j s
    → Has start (edits ++ e ∷ []) j (with_edit s e)
has_edit start edits j s e le has = (
  has.0,
  has.1,
  has.2,
  ap (λ (x : Stored). with_edit x e) has.3 ∙ fits_edit start edits j has.0 has.1 has.2 le e,
)

-- how many edits it has in all
pub has_last : (start : Stored) (edits : List RecordedEdit) (j : ℕ) (s : Stored) → j ≤ length edits → Has start edits j s
    → last_of s ≡ start.edits + length edits
has_last start edits j s le has = omega (
  arith,
  le,
  ap (λ (x : Stored). x.edits) has.3,
  ap (λ (x : Stored). length x.since) has.3 ∙ ap (λ (l : List RecordedEdit). length (drop j l)) (all_taken edits) ∙ length-drop j edits,
)

-- what is published can be: it is some of the edits since
abbrev pub IsSince : Stored → PublicationView → Type 0
IsSince s p = (s.edits ≤ p.start.edits) × (count_at s p ≤ length s.since)

pub has_published : (n : ℕ) (start : Stored) (edits : List RecordedEdit) (j : ℕ) (s : Stored) (p : PublicationView) → j ≤ length edits → Has start edits j s
    → IsSince s p → Has start edits (p.start.edits - start.edits) (published n s (count_at s p) p.content.archive)
has_published n start edits j s p le has since = (
  suc has.0,
  place_behind start edits (length edits) j (count_at s p) n has.0 has.1 has.2 p.content.archive within,
  p.content.archive,
  ap (λ (x : Stored). published n x (count_at s p) p.content.archive) has.3
      ∙ published_fits start edits (length edits) j (count_at s p) n has.0 has.1 has.2 p.content.archive within
      ∙ ap (λ (m : ℕ). fitting start edits (length edits) m (suc has.0)
      (place_behind start edits (length edits) j (count_at s p) n has.0 has.1 has.2 p.content.archive within) p.content.archive) total,
)
  where
    edits_are : s.edits ≡ start.edits + j
    edits_are = ap (λ (x : Stored). x.edits) has.3

    since_are : length s.since ≡ length edits - j
    since_are = ap (λ (x : Stored). length x.since) has.3 ∙ ap (λ (l : List RecordedEdit). length (drop j l)) (all_taken edits) ∙ length-drop j edits

    within : j + count_at s p ≤ length edits
    within = omega (arith, since_are, since.1, le)

    total : j + count_at s p ≡ p.start.edits - start.edits
    total = omega (arith, edits_are, since.0)

module _ (n : ℕ) (start : Stored) (edits : List RecordedEdit) (p : Progress) (s : Stored) (le : p.published ≤ length edits)
    (has : Has start edits p.published s) where
  step_has : (publication : Option PublicationView) (left : ℕ) → IfSome publication (IsSince s)
      → Has start edits (stepped p (way_of start.edits publication) left).published (stored_after n s publication (step (Ok left)))
  step_has None zero since = has
  step_has None (suc left) since = has
  step_has (Some q) zero since = has_published n start edits p.published s q le has since
  step_has (Some q) (suc left) since = has

  -- after one happening
  pub has_on : (publication : Option PublicationView) (h : Happening) → way_of start.edits publication ≡ p.under_way
      → IfSome publication (IsSince s) → Has start (edits ++ edits_by h) (progress_after p h).published (stored_after n s publication h)
  has_on publication (edit call e (Ok number)) is since = has_edit start edits p.published s e le has
  has_on publication (begin (Ok left)) is since = has_none start edits p.published s has
  has_on publication (cancel (Ok done)) is since = has_none start edits p.published s has
  has_on publication (step (Ok left)) is since =
      has_none start edits (stepped p p.under_way left).published (stored_after n s publication (step (Ok left)))
      (subst (λ (w : Option Way). Has start edits (stepped p w left).published (stored_after n s publication (step (Ok left)))) is
      (step_has publication left since))
  has_on publication h is since = has_none start edits p.published s has

-- ---- the publication under way

-- the way of the machine's publication
abbrev pub way_in : ℕ → Option Publication → Option Way
way_in last publication = option_map (λ (p : Publication). record { edits = p.last - last; left = p.left }) publication

pub way_seen : (last : ℕ) (m : FeatureMap) (p : Option PublicationView) → way_in last (option_map (going_of m) p) ≡ way_of last p
way_seen last m None = refl
way_seen last m (Some p) = refl

abbrev new_way : ℕ → ℕ → Option Way
new_way edits told = Some (record { edits = edits; left = told })

module _ (last : ℕ) (old new : ServiceState) (p : Progress) (is : way_in last old.publication ≡ p.under_way) where
  same_way : new ≡ old → way_in last new.publication ≡ p.under_way
  same_way same = ap (λ (s : ServiceState). way_in last s.publication) same ∙ is

  way_on : (under_way : HasPublication old) (told : ℕ) → GoesOn old under_way.publication told new
      → way_in last new.publication ≡ (stepped p (way_in last (Some under_way.publication)) told).under_way
  way_on under_way zero (inl w) = absurd (omega (arith, w.0, w.1))
  way_on under_way (suc told) (inl w) = ap (λ (s : ServiceState). way_in last s.publication) w.2
  way_on under_way zero (inr w) = ap (λ (s : ServiceState). way_in last s.publication) w.2
  way_on under_way (suc told) (inr w) = absurd (omega (arith, w.1))

  -- after one happening
  pub way_after : (trusted : Type 0) (h : Happening) → Happens trusted old h new → old.last - last ≡ p.edits → (IsDoubtful h → ⊥)
      → way_in last new.publication ≡ (progress_after p h).under_way
  way_after trusted (edit call e (Ok number)) goes edits not = ap (λ (s : ServiceState). way_in last s.publication) goes.made ∙ is
  way_after trusted (edit call e (Err Device)) goes edits not = absurd (not tt)
  way_after trusted (edit call e (Err Broken)) goes edits not = same_way goes.1
  way_after trusted (edit call e (Err fault)) goes edits not = same_way goes.2
  way_after trusted (begin (Ok left)) goes edits not =
      ap (λ (s : ServiceState). way_in last s.publication) goes.begun ∙ ap (λ (m : ℕ). new_way m left) edits
  way_after trusted (begin (Err Device)) goes edits not = absurd goes.1
  way_after trusted (begin (Err Broken)) goes edits not = same_way goes.1
  way_after trusted (begin (Err fault)) goes edits not = same_way goes.2
  way_after trusted (step (Ok left)) goes edits not = way_on goes.0 left goes.1
      ∙ ap (λ (w : Option Way). (stepped p w left).under_way)
      (sym (ap (λ (q : Option Publication). way_in last q) goes.0.is) ∙ is)
  way_after trusted (step (Err Device)) goes edits not = absurd (not tt)
  way_after trusted (step (Err Broken)) goes edits not = same_way goes.1
  way_after trusted (step (Err fault)) goes edits not = same_way goes.2
  way_after trusted (cancel (Ok done)) goes edits not = ap (λ (s : ServiceState). way_in last s.publication) goes.1
  way_after trusted (cancel (Err Device)) goes edits not = absurd goes.1
  way_after trusted (cancel (Err Broken)) goes edits not = same_way goes.1
  way_after trusted (cancel (Err fault)) goes edits not = same_way goes.2
  way_after trusted (check (Ok done)) goes edits not = same_way goes.1
  way_after trusted (check (Err Device)) goes edits not = absurd (not tt)
  way_after trusted (check (Err Broken)) goes edits not = same_way goes.1
  way_after trusted (check (Err fault)) goes edits not = same_way goes.2
  way_after trusted (tile z x y outcome) goes edits not = same_way goes.1
  way_after trusted (tile_number z x y n) goes edits not = same_way goes
  way_after trusted (look id outcome) goes edits not = same_way goes.1
  way_after trusted (look_from id outcome) goes edits not = same_way goes.1
  way_after trusted (metadata outcome) goes edits not = same_way goes.1
  way_after trusted (read at outcome) goes edits not = same_way goes
  way_after trusted (list_edits number bytes outcome) goes edits not = same_way goes
