-- A record is that of one edit.
use Rattle.std.proofs.Common.{◌≡◌, inl, inr, ℕ, ◌≤◌, List, [], ◌∷◌, ◌++◌, length, sym, ap, subst, ◌∙◌, arith}
use Rattle.std.proofs.Common.{append-nil, lit≤}
use Rattle.std.proofs.lemmas.List.Elements.{All-head, All-nil, All-push}
use Rattle.feature_model.specs.Data.{ChangeData, put, delete, EditData, number_of}
use Rattle.feature_model.specs.Limits.{IsAllowedChange}
use Rattle.feature_model.specs.Spelled.{spelled_change, spelled_changes, spelled}
use Rattle.feature_model.specs.Types.{IsChange, IsEdit}
use Rattle.feature_model.proofs.Changes.{distinct_none, distinct_push}
use Rattle.edit_text.specs.Recorded.{RecordedEdit, text_in, recorded_text, most_in, IsRecordVersion, FitsVersion, IsRecorded, IsRecordOf}
use Rattle.edit_text.proofs.Laws.{one_change, one_edit, short_from, edit_short_from}

-- ---- at most one

single : (cs ds : EditData) → length cs ≡ 1 → length ds ≡ 1 → IsEdit cs → IsEdit ds → spelled_changes cs ≡ spelled_changes ds → cs ≡ ds
single [] ds one other is too same = absurd (omega (arith, one))
single (c ∷ cs) [] one other is too same = absurd (omega (arith, other))
single (c ∷ []) (d ∷ []) one other is too same =
    ap (λ x. x ∷ []) (one_change c d [] [] (All-head IsChange c [] is.changes) (All-head IsChange d [] too.changes) same).0
single (c ∷ b ∷ cs) (d ∷ ds) one other is too same = absurd (omega (arith, one))
single (c ∷ []) (d ∷ b ∷ ds) one other is too same = absurd (omega (arith, other))

many : (cs ds : EditData) → IsEdit cs → IsEdit ds → spelled cs ≡ spelled ds → cs ≡ ds
many cs ds is too same = (one_edit cs ds [] [] is too (ap (λ t. t ++ []) same)).0

by_version : (version : ℕ) (cs ds : EditData) → IsRecordVersion version → (version ≡ 1 → (length cs ≡ 1) × (length ds ≡ 1))
    → IsEdit cs → IsEdit ds → text_in version cs ≡ text_in version ds → cs ≡ ds
by_version version cs ds (inl first) one is too same =
    single cs ds (one first).0 (one first).1 is too (subst (λ v. text_in v cs ≡ text_in v ds) first same)
by_version version cs ds (inr second) one is too same = many cs ds is too (subst (λ v. text_in v cs ≡ text_in v ds) second same)

-- A record's text is that of one edit.
pub one_record : (version : ℕ) (cs ds : EditData) (text : List ℕ) → IsRecordOf version cs text → IsRecordOf version ds text → cs ≡ ds
one_record version cs ds text is too =
    by_version version cs ds is.fits.is (λ first. (is.fits.one first, too.fits.one first)) is.edit too.edit (sym is.text_is ∙ too.text_is)

-- Two edits of one version with one text are the same.
pub one_recorded : (e f : RecordedEdit) → IsRecorded e → IsRecorded f → e.version ≡ f.version → recorded_text e ≡ recorded_text f → e ≡ f
one_recorded e f is too version same =
    let text : text_in e.version e.changes ≡ text_in e.version f.changes = same ∙ ap (λ v. text_in v f.changes) (sym version) in
    let changes = by_version e.version e.changes f.changes is.fits.is (λ first. (is.fits.one first, too.fits.one (sym version ∙ first)))
    is.edit too.edit text in
    λ i. record { version = version i; changes = changes i }

-- ---- edits of one change

allowed_from : (c : ChangeData) → IsChange c → IsAllowedChange c
allowed_from (put id f) is = is.0
allowed_from (delete id) is = is

spelled_one : (c : ChangeData) → spelled_changes (c ∷ []) ≡ spelled_change c
spelled_one c = append-nil (spelled_change c)

-- a change is an edit by itself
pub edit_of_one : (c : ChangeData) → IsChange c → IsEdit (c ∷ [])
edit_of_one c is = record {
  allowed = record {
    count = (lit≤ tt, lit≤ tt);
    distinct = distinct_push [] c distinct_none (All-nil (λ d. number_of d ≡ number_of c → ⊥));
    changes = All-push IsAllowedChange [] c (All-nil IsAllowedChange) (allowed_from c is);
    text = omega (arith, ap length (spelled_one c), short_from c is);
  };
  changes = All-push IsChange [] c (All-nil IsChange) is;
}

-- ---- the text of a record

length_in : (version : ℕ) (cs : EditData) → IsRecordVersion version → IsEdit cs → length (text_in version cs) ≤ most_in version
length_in version cs (inl first) is = subst (λ v. length (text_in v cs) ≤ most_in v) (sym first) is.allowed.text
length_in version cs (inr second) is = subst (λ v. length (text_in v cs) ≤ most_in v) (sym second) (edit_short_from cs is)

pub record_from : (version : ℕ) (cs : EditData) (text : List ℕ) → FitsVersion version cs → IsEdit cs → text ≡ text_in version cs
    → IsRecordOf version cs text × (length text ≤ most_in version)
record_from version cs text fits is same =
    (record { fits = fits; edit = is; text_is = same }, subst (λ t. length t ≤ most_in version) (sym same) (length_in version cs fits.is is))
