-- The limits of edits, and the lengths of their texts and of those of a map.
use Rattle.std.proofs.Common.{◌≡◌, inl, inr, ℕ, ◌<◌, ◌≤◌, ◌+◌, ◌-◌, ◌*◌, ◌^◌, List, [], ◌∷◌, length, take, drop}
use Rattle.std.proofs.Common.{sym, refl, ◌∙◌, ap, subst, arith, lit≤, false, Some}
use Rattle.std.proofs.Common.{append-nil, length-append}
use Rattle.std.specs.Prelude.{Option, None, IsSome, IfSome}
use Rattle.std.specs.List.{All}
use Rattle.std.proofs.lemmas.Bool.{false≢true}
use Rattle.std.proofs.lemmas.List.{take_all}
use Rattle.std.proofs.lemmas.List.Elements.{All-nil, All-cons}
use Rattle.sector_disk.specs.declared.disk.TheConstants.{SECTOR_BYTES}
use Rattle.generations.specs.Areas.{journal_sectors, area_sectors}
use Rattle.generations.specs.Sectors.{IsVersion}
use Rattle.generations.specs.declared.sizes.TheConstants.{MAX_SECTORS, FIRST_VERSION}
use Rattle.edit_journal.specs.Records.{IsRecordLength, parts_of}
use Rattle.edit_journal.specs.declared.sizes.TheConstants.{PART_BYTES}
use Rattle.edit_text.specs.Recorded.{text_in, FitsVersion, IsRecorded}
use Rattle.edit_text.proofs.Recorded.{edit_of_one}
use Rattle.feature_model.specs.Data.{FeatureData, ChangeData, EditData, put, delete, number_of}
use Rattle.feature_model.specs.declared.limits.TheConstants.{MAX_EDIT_BYTES}
use Rattle.feature_model.specs.Limits.{NumberFits, IsAllowed, IsAllowedChange, IsAllowedEdit}
use Rattle.feature_model.specs.Spelled.{spelled_change, spelled_changes, spelled, eight_bytes}
use Rattle.feature_model.proofs.Changes.{distinct_none, distinct_push}
use Rattle.feature_store.specs.Store.{FeatureMap, changed, edited, snapshot}
use Rattle.feature_store.specs.declared.limit.TheConstants.{TEXTS_END}
use Rattle.feature_store.proofs.Laws.{snapshot_after_put, snapshot_after_delete}
use Rattle.feature_model.specs.declared.fault.EditFault.{EditFault}
use Rattle.tile_service.specs.Limits.{KeepsLimits, KeepsBatchLimits, BreaksLimit, BreaksBatchLimit}
use Rattle.tile_service.specs.Machine.{ServiceState, single, batched, recorded_in, recorded_change, HasTarget, CanMake, Refuses, EditFault as MachineFault}
use Rattle.tile_service.specs.declared.fault.ServiceFault.{ServiceFault}
use Rattle.tile_service.specs.declared.fault.ServiceFault.TheVariants.{Limit}

-- ---- numbers

-- what has a feature within the limits is a number of one
pub fits_there : {A : Type 0} (value : A → FeatureData) (id : ℕ) (found : Option A) → IfSome found (λ a. IsAllowed id (value a)) → IsSome found
    → NumberFits id
fits_there value id None allowed is = absurd (false≢true is)
fits_there value id (Some a) allowed is = allowed.number

-- ---- the limits of edits

some_byte : (c : ChangeData) → 1 ≤ length (spelled_change c)
unfolding spelled_change
some_byte (put id f) = omega arith
some_byte (delete id) = omega arith

-- an allowed change is an allowed edit by itself
one_allowed : (c : ChangeData) → IsAllowedChange c → length (spelled_change c) ≤ MAX_EDIT_BYTES → IsAllowedEdit (c ∷ [])
one_allowed c is short = record {
  count = (lit≤ tt, lit≤ tt);
  distinct = distinct_push [] c distinct_none (All-nil (λ d. number_of d ≡ number_of c → ⊥));
  changes = All-cons IsAllowedChange c [] is (All-nil IsAllowedChange);
  text = omega (arith, short, ap length (append-nil (spelled_change c)));
}

pub put_allowed : (id : ℕ) (f : FeatureData) → IsAllowed id f → IsAllowedEdit (put id f ∷ [])
put_allowed id f is = one_allowed (put id f) is is.text

-- one change can be recorded in each version,
pub one_fits : (version : ℕ) (c : ChangeData) → IsVersion version → FitsVersion version (c ∷ [])
one_fits version c is = record { is = is; one = λ first. refl }

-- and several in a later one than the first
pub many_fit : (version : ℕ) (cs : EditData) → IsVersion version → (version ≡ FIRST_VERSION → ⊥) → FitsVersion version cs
many_fit version cs is later = record { is = is; one = λ first. absurd (later first) }

-- the deletion of a feature is an edit
pub delete_recorded : (version id : ℕ) → IsVersion version → NumberFits id → IsRecorded (recorded_change version (delete id))
delete_recorded version id is fits = record { fits = one_fits version (delete id) is; edit = edit_of_one (delete id) fits }

-- ---- what can be made

pub put_can : (s : ServiceState) (id : ℕ) (f : FeatureData) → KeepsLimits id f → s.last < 2 ^ 64 - 1
    → CanMake s single (recorded_change s.version (put id f))
put_can s id f keeps number = record { version_is = refl; accepts = tt; wanted = keeps; number = number }

-- a version that isn't the first takes batches
pub is_later : (version : ℕ) → IsVersion version → (version ≡ FIRST_VERSION → ⊥) → FIRST_VERSION < version
is_later version (inl is) later = absurd (later is)
is_later version (inr is) later = omega (arith, is)

pub batch_can : (s : ServiceState) (cs : EditData) → IsVersion s.version → (s.version ≡ FIRST_VERSION → ⊥) → KeepsBatchLimits cs
    → All (HasTarget s.features) cs → s.last < 2 ^ 64 - 1 → CanMake s batched (recorded_in s.version cs)
batch_can s cs is later keeps targets number =
    record { version_is = refl; accepts = is_later s.version is later; wanted = (keeps, targets); number = number }

-- a feature that breaks a limit is refused for that
pub limit_refused : (s : ServiceState) (id : ℕ) (f : FeatureData) (fault : ServiceFault) (limit : EditFault) → fault ≡ Limit limit → s.broken ≡ false
    → BreaksLimit id f limit → Refuses (MachineFault s fault single (recorded_change s.version (put id f))) s fault s
limit_refused s id f fault limit is unbroken breaks =
    subst (λ (told : ServiceFault). Refuses (MachineFault s told single (recorded_change s.version (put id f))) s told s) (sym is)
    (unbroken, (tt, breaks), refl)

-- a batch that breaks a limit is refused for that
pub breaks_refused : (s : ServiceState) (cs : EditData) (fault : ServiceFault) (limit : EditFault) → fault ≡ Limit limit → s.broken ≡ false
    → FIRST_VERSION < s.version → BreaksBatchLimit cs limit → Refuses (MachineFault s fault batched (recorded_in s.version cs)) s fault s
breaks_refused s cs fault limit is unbroken later breaks =
    subst (λ (f : ServiceFault). Refuses (MachineFault s f batched (recorded_in s.version cs)) s f s) (sym is) (unbroken, (later, breaks), refl)

-- ---- lengths

some_bytes : (cs : EditData) → 1 ≤ length cs → 1 ≤ length (spelled_changes cs)
some_bytes [] some = some
some_bytes (c ∷ cs) some = omega (arith, some_byte c, length-append (spelled_change c) (spelled_changes cs))

first_length : (cs : EditData) → IsAllowedEdit cs → IsRecordLength 1 (length (spelled_changes cs))
first_length cs allowed = ((lit≤ tt, lit≤ tt), some_bytes cs allowed.count.0, omega (arith, allowed.text))

second_length : (cs : EditData) → IsAllowedEdit cs → IsRecordLength 2 (length (spelled cs))
unfolding spelled
second_length cs allowed = ((lit≤ tt, lit≤ tt), omega arith, omega (arith, allowed.text))

-- the journal takes the text of an allowed edit
pub text_length : (version : ℕ) (cs : EditData) → IsVersion version → IsAllowedEdit cs → IsRecordLength version (length (text_in version cs))
text_length version cs (inl is) allowed = subst (λ (v : ℕ). IsRecordLength v (length (text_in v cs))) (sym is) (first_length cs allowed)
text_length version cs (inr is) allowed = subst (λ (v : ℕ). IsRecordLength v (length (text_in v cs))) (sym is) (second_length cs allowed)

longer_second : (cs : EditData) → length (spelled_changes cs) ≤ length (spelled cs)
unfolding spelled
longer_second cs = omega arith

-- the text has those of the changes
text_has : (version : ℕ) (cs : EditData) → IsVersion version → length (spelled_changes cs) ≤ length (text_in version cs)
text_has version cs (inl is) = subst (λ (v : ℕ). length (spelled_changes cs) ≤ length (text_in v cs)) (sym is) (omega arith)
text_has version cs (inr is) = subst (λ (v : ℕ). length (spelled_changes cs) ≤ length (text_in v cs)) (sym is) (longer_second cs)

nine_bytes : (id : ℕ) → length (spelled_changes (delete id ∷ [])) ≤ 9
unfolding spelled_change eight_bytes
nine_bytes id = omega arith

-- without its count, the text of a deletion's edit is that of the change
pub without_count : (version id : ℕ) (text : List ℕ) → version ≡ FIRST_VERSION → text ≡ spelled (delete id ∷ [])
    → take 9 (drop 1 text) ≡ text_in version (delete id ∷ [])
unfolding spelled
without_count version id text first is = ap (λ t. take 9 (drop 1 t)) is ∙ take_all 9 (spelled_changes (delete id ∷ [])) (nine_bytes id)
    ∙ ap (λ v. text_in v (delete id ∷ [])) (sym first)

-- the parts of a text have room for it
parts_hold : (bytes : ℕ) → bytes ≤ PART_BYTES * parts_of bytes
parts_hold bytes = omega arith

after_change : (m : FeatureMap) (c : ChangeData) → length (snapshot (changed m c)) ≤ length (snapshot m) + length (spelled_change c)
after_change m (put id f) = snapshot_after_put m id f
after_change m (delete id) = omega (arith, snapshot_after_delete m id)

-- a map's texts get longer by those of the changes at most
after_changes : (m : FeatureMap) (cs : EditData) → length (snapshot (edited m cs)) ≤ length (snapshot m) + length (spelled_changes cs)
after_changes m [] = omega arith
after_changes m (c ∷ cs) =
    omega (arith, after_changes (changed m c) cs, after_change m c, length-append (spelled_change c) (spelled_changes cs))

-- After an edit a map's texts take the bytes of an area and of the places in use, if they did before it.
pub short_after_edit : (version : ℕ) (m : FeatureMap) (cs : EditData) (area used : ℕ) → IsVersion version → length (snapshot m) ≤ area + PART_BYTES * used
    → length (snapshot (edited m cs)) ≤ area + PART_BYTES * (used + parts_of (length (text_in version cs)))
short_after_edit version m cs area used is short =
    omega (arith, short, after_changes m cs, text_has version cs is, parts_hold (length (text_in version cs)))

-- They are short together, on a disk of any size.
pub short_enough : (m : FeatureMap) (cs : EditData) (size used : ℕ) → size ≤ MAX_SECTORS → used ≤ journal_sectors size
    → length (snapshot m) ≤ SECTOR_BYTES * area_sectors size + PART_BYTES * used → IsAllowedEdit cs
    → length (snapshot m) + length (spelled_changes cs) < TEXTS_END
short_enough m cs size used small room short allowed = omega (arith, small, room, short, allowed.text)
