-- Changes in a row: their numbers, their limits, and the lengths of their texts.
use Rattle.std.proofs.Common.{◌≡◌, ℕ, ◌+◌, ◌<◌, ◌≤◌, ⊎_elim, List, [], ◌∷◌, ◌++◌, length, length-append, get_or, map, take, sym, ap, subst, ◌∙◌, All, arith}
use Rattle.std.proofs.lemmas.Bool.{cases_eq}
use Rattle.std.proofs.lemmas.List.{take-append-le, get_or_append_left, get_or_default, get_or-map, length-map, map_more, take-map, take_all}
use Rattle.std.proofs.Math.Seq.{get_or-append_seam}
use Rattle.std.proofs.lemmas.List.Elements.{All-push}
use Rattle.std.proofs.lemmas.List.Folds.{length-flat_map-take}
use Rattle.feature_model.specs.declared.limits.TheConstants.{MAX_EDIT_BYTES}
use Rattle.feature_model.specs.declared.fault.EditFault.{EditFault}
use Rattle.feature_model.specs.declared.fault.EditFault.TheVariants as faults
use Rattle.feature_model.specs.declared.feature.Change.{Change}
use Rattle.feature_model.specs.Data.{ChangeData, put, delete, EditData, number_of, change_data}
use Rattle.feature_model.specs.Limits.{IsNew, HasChanges, AreDistinct, ChangeFits, IsAllowedChange, TextsFit, IsFirstOf, IsFirstWithin, IsFirstEditFault}
use Rattle.feature_model.specs.Spelled.{spelled_change, spelled_changes}

-- what is read is the change there
pub read_is : (xs : List Change) (i : ℕ) (x : Change) → i < length xs → x ≡ get_or xs i x → change_data x ≡ get_or (map change_data xs) i (change_data x)
read_is xs i x l is = ap change_data is ∙ sym (get_or-map change_data xs i x (change_data x) l)

within_map : (xs : List Change) (i : ℕ) → i < length xs → i < length (map change_data xs)
within_map xs i l = omega (arith, l, length-map xs change_data)

-- ---- numbers

-- none of the first n changes is of the number of one before it
abbrev pub AreDistinctTo : ℕ → EditData → Type 0
AreDistinctTo i cs = (k : ℕ) (d : ChangeData) → k < i → k < length cs → IsNew (take k cs) (number_of (get_or cs k d))

distinct_at : (i : ℕ) (cs : EditData) (c : ChangeData) → i < length cs → c ≡ get_or cs i c → IsNew (take i cs) (number_of c)
    → AreDistinctTo i cs → AreDistinctTo (i + 1) cs
distinct_at i cs c l is new so_far k d lt within = ⊎_elim
    (λ (same : k ≡ i). subst (λ n. IsNew (take n cs) (number_of (get_or cs n d))) (sym same)
    (subst (λ x. IsNew (take i cs) (number_of x)) (is ∙ get_or_default cs i c d l) new))
    (λ (apart : k ≡ i → ⊥). so_far k d (omega (arith, lt, apart)) within)
    (cases_eq k i)

-- one more
pub distinct_step : (i : ℕ) (xs : List Change) (x : Change) → i < length xs → x ≡ get_or xs i x
    → IsNew (map change_data (take i xs)) (number_of (change_data x))
    → AreDistinctTo i (map change_data xs) → AreDistinctTo (i + 1) (map change_data xs)
distinct_step i xs x l is new so_far =
    distinct_at i (map change_data xs) (change_data x) (within_map xs i l) (read_is xs i x l is)
    (subst (λ cs. IsNew cs (number_of (change_data x))) (sym (take-map change_data i xs)) new) so_far

-- one whose number an earlier one has
pub not_distinct : (i : ℕ) (xs : List Change) (x : Change) → i < length xs → x ≡ get_or xs i x
    → (IsNew (map change_data (take i xs)) (number_of (change_data x)) → ⊥) → AreDistinct (map change_data xs) → ⊥
not_distinct i xs x l is twice distinct = twice (subst (λ cs. IsNew cs (number_of (change_data x))) (take-map change_data i xs)
    (subst (λ c. IsNew (take i (map change_data xs)) (number_of c)) (sym (read_is xs i x l is)) (distinct i (change_data x) (within_map xs i l))))

-- those so far, and one more

pub distinct_none : AreDistinct []
distinct_none k d l = absurd (omega arith)

pub distinct_front : (done more : EditData) → AreDistinct (done ++ more) → AreDistinct done
distinct_front done more are k d l =
    subst (λ cs. IsNew cs (number_of (get_or done k d))) (take-append-le k done more (omega (arith, l)))
    (subst (λ c. IsNew (take k (done ++ more)) (number_of c)) (get_or_append_left done more d k l) (are k d (omega (arith, l, length-append done more))))

seam : (done : EditData) (c : ChangeData) → take (length done) (done ++ c ∷ []) ≡ done
seam done c = take-append-le (length done) done (c ∷ []) (omega arith) ∙ take_all (length done) done (omega arith)

pub distinct_last : (done : EditData) (c : ChangeData) → AreDistinct (done ++ c ∷ []) → IsNew done (number_of c)
distinct_last done c are =
    subst (λ x. IsNew done (number_of x)) (get_or-append_seam done c [] c)
    (subst (λ cs. IsNew cs (number_of (get_or (done ++ c ∷ []) (length done) c))) (seam done c)
    (are (length done) c (omega (arith, length-append done (c ∷ [])))))

pub distinct_push : (done : EditData) (c : ChangeData) → AreDistinct done → IsNew done (number_of c) → AreDistinct (done ++ c ∷ [])
distinct_push done c are new k d l = ⊎_elim
    (λ (same : k ≡ length done). subst (λ n. IsNew (take n (done ++ c ∷ [])) (number_of (get_or (done ++ c ∷ []) n d))) (sym same)
    (subst (λ cs. IsNew cs (number_of (get_or (done ++ c ∷ []) (length done) d))) (sym (seam done c))
    (subst (λ x. IsNew done (number_of x)) (sym (get_or-append_seam done c [] d)) new)))
    (λ (apart : k ≡ length done → ⊥).
    let below : k < length done = omega (arith, l, apart, length-append done (c ∷ [])) in
    subst (λ cs. IsNew cs (number_of (get_or (done ++ c ∷ []) k d))) (sym (take-append-le k done (c ∷ []) (omega (arith, below))))
    (subst (λ x. IsNew (take k done) (number_of x)) (sym (get_or_append_left done (c ∷ []) d k below)) (are k d below)))
    (cases_eq k (length done))

-- ---- limits

-- one more that fits
pub fits_step : (i : ℕ) (xs : List Change) (x : Change) → i < length xs → x ≡ get_or xs i x → ChangeFits (change_data x)
    → All ChangeFits (map change_data (take i xs)) → All ChangeFits (map change_data (take (i + 1) xs))
fits_step i xs x l is fits so_far = subst (All ChangeFits) (sym (map_more change_data xs i x l))
    (All-push ChangeFits (map change_data (take i xs)) (change_data (get_or xs i x)) so_far (subst (λ c. ChangeFits (change_data c)) is fits))

pub fits_all : (i : ℕ) (xs : List Change) → length xs ≤ i → All ChangeFits (map change_data (take i xs)) → All ChangeFits (map change_data xs)
fits_all i xs le so_far = subst (λ ys. All ChangeFits (map change_data ys)) (take_all i xs le) so_far

-- the first that doesn't
pub first_within : (i : ℕ) (xs : List Change) (x : Change) (fault : EditFault) → i < length xs → x ≡ get_or xs i x
    → All ChangeFits (map change_data (take i xs)) → IsFirstOf (change_data x) fault → IsFirstWithin (map change_data xs) fault
first_within i xs x fault l is so_far first = record {
  index = i;
  change = change_data x;
  within = within_map xs i l;
  is = sym (read_is xs i x l is);
  before = subst (All ChangeFits) (sym (take-map change_data i xs)) so_far;
  fault_is = first;
}

-- a change with a fault doesn't fit
breaks : (c : ChangeData) (fault : EditFault) → IsFirstOf c fault → ChangeFits c → ⊥
breaks (put id f) faults.Number first fits = first fits.0
breaks (put id f) faults.Layer first fits = first.1 fits.1.layer
breaks (put id f) faults.Zoom first fits = first.2 fits.1.zooms
breaks (put id f) faults.Geometry first fits = first.3 fits.1.geometry
breaks (put id f) faults.Tags first fits = first.4 fits.1.tags
breaks (put id f) faults.Value first fits = first.5 fits.1.values
breaks (put id f) fault first fits = first
breaks (delete id) faults.Number first fits = first fits
breaks (delete id) fault first fits = first

pub not_all_fit : (cs : EditData) (fault : EditFault) → IsFirstWithin cs fault → All ChangeFits cs → ⊥
not_all_fit cs fault first fit = breaks first.change fault first.fault_is (subst ChangeFits first.is (fit first.index first.change first.within))

-- the fault of a change is none of the edit's own
not_long : (c : ChangeData) → IsFirstOf c faults.Long → ⊥
not_long (put id f) first = first
not_long (delete id) first = first

not_batch : (c : ChangeData) → IsFirstOf c faults.Batch → ⊥
not_batch (put id f) first = first
not_batch (delete id) first = first

not_twice : (c : ChangeData) → IsFirstOf c faults.Twice → ⊥
not_twice (put id f) first = first
not_twice (delete id) first = first

pub first_edit_fault : (cs : EditData) (fault : EditFault) → HasChanges cs → AreDistinct cs → IsFirstWithin cs fault → IsFirstEditFault cs fault
first_edit_fault cs faults.Long count distinct first = absurd (not_long first.change first.fault_is)
first_edit_fault cs faults.Batch count distinct first = absurd (not_batch first.change first.fault_is)
first_edit_fault cs faults.Twice count distinct first = absurd (not_twice first.change first.fault_is)
first_edit_fault cs fault count distinct first = (count, distinct, first)

-- ---- lengths

-- each text is as short as all together
each_short : (cs : EditData) (k : ℕ) (d : ChangeData) → k < length cs → length (spelled_change (get_or cs k d)) ≤ length (spelled_changes cs)
each_short cs k d l = omega (arith, length-flat_map-take spelled_change cs k d l)

allowed_from : (c : ChangeData) → ChangeFits c → length (spelled_change c) ≤ MAX_EDIT_BYTES → IsAllowedChange c
allowed_from (put id f) fits short = record { number = fits.0; feature = fits.1; text = short }
allowed_from (delete id) fits short = fits

fits_from : (c : ChangeData) → IsAllowedChange c → ChangeFits c
fits_from (put id f) is = (is.number, is.feature)
fits_from (delete id) is = is

pub all_allowed : (cs : EditData) → All ChangeFits cs → TextsFit cs → All IsAllowedChange cs
all_allowed cs fit short k d l = allowed_from (get_or cs k d) (fit k d l) (omega (arith, each_short cs k d l, short))

pub all_fit : (cs : EditData) → All IsAllowedChange cs → All ChangeFits cs
all_fit cs are k d l = fits_from (get_or cs k d) (are k d l)
