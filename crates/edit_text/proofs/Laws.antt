-- Laws of the texts of changes and edits.
use Rattle.std.proofs.Common.{◌≡◌, ℕ, ◌+◌, ◌≤◌, List, [], ◌++◌, length, get_or, ap, All, arith}
use Rattle.std.proofs.lemmas.List.Elements.{All-nil}
use Rattle.feature_model.specs.declared.limits.TheConstants.{MAX_EDIT_BYTES}
use Rattle.feature_model.specs.Data.{ChangeData, put, delete, EditData, number_of}
use Rattle.feature_model.specs.Limits.{IsAllowedChange}
use Rattle.feature_model.specs.Spelled.{spelled_change, spelled_changes, spelled}
use Rattle.feature_model.specs.Types.{IsChange, IsEdit}
use Rattle.feature_model.proofs.Changes.{all_allowed}
use Rattle.feature_model.proofs.TextLengths.{length-spelled_change, length-spelled_delete}
use Rattle.edit_text.specs.Cut.{EndsInChange, EndsInEdit}
use Rattle.edit_text.specs.Reading.{change_at, edit_at, edit_most, decode_change_at, decode_at}
use Rattle.edit_text.proofs.ChangeCodecs.{IsOfTable, codec_change}
use Rattle.edit_text.proofs.EditCodecs.{IsOne, one_from, one_to, IsEditOfTable, codec_edit}
use Rattle.edit_text.proofs.Decoded.{Limited, limited}

-- ---- changes

-- a change's text has nine bytes or more
pub long_from : (c : ChangeData) → 9 ≤ length (spelled_change c)
long_from (put id f) = omega (arith, length-spelled_change id f)
long_from (delete id) = omega (arith, length-spelled_delete id)

-- and at most as many as the longest
pub short_from : (c : ChangeData) → IsChange c → length (spelled_change c) ≤ MAX_EDIT_BYTES
short_from (put id f) is = is.0.text
short_from (delete id) is = omega (arith, length-spelled_delete id)

one_of : (c : ChangeData) → IsChange c → IsOne c
one_of (put id f) is = ((is.0.number, is.0.feature), is.1)
one_of (delete id) is = (is, tt)

change_of : (c : ChangeData) → IsOne c → length (spelled_change c) ≤ MAX_EDIT_BYTES → IsChange c
change_of (put id f) is short = (record { number = is.0.0; feature = is.0.1; text = short }, is.1)
change_of (delete id) is short = is.0

-- a change is as the table says, with nothing before it
pub table_from : (c : ChangeData) → IsChange c → IsOfTable [] c
table_from c is = one_to [] c (one_of c is) (All-nil (λ d. number_of d ≡ number_of c → ⊥))

change_to : (c : ChangeData) → IsOfTable [] c → length (spelled_change c) ≤ MAX_EDIT_BYTES → IsChange c
change_to c is short = change_of c (one_from [] c is).0 short

pub limited_change : Limited MAX_EDIT_BYTES decode_change_at spelled_change IsChange (EndsInChange [])
unfolding decode_change_at
limited_change =
    limited MAX_EDIT_BYTES (change_at []) spelled_change (IsOfTable []) IsChange (EndsInChange []) (codec_change []) change_to table_from short_from

-- No two changes have one text, and no text of a change begins another's: where the same bytes begin with the texts of two
-- changes, these are the same change, and the same bytes follow.
pub one_change : (c d : ChangeData) (behind after : List ℕ) → IsChange c → IsChange d → spelled_change c ++ behind ≡ spelled_change d ++ after
    → (c ≡ d) × (behind ≡ after)
one_change c d behind after is other same =
    let one = (codec_change []).reads c behind (table_from c is) in
    let two = (codec_change []).reads d after (table_from d other) in
    let pair : ◌≡◌ {A = ChangeData × List ℕ} (c, behind) (d, after) = cc in
    (ap (λ q. q.0) pair, ap (λ q. q.1) pair)

-- ---- edits

length-spelled : (cs : EditData) → length (spelled cs) ≡ 1 + length (spelled_changes cs)
unfolding spelled
length-spelled cs = omega arith

pub edit_short_from : (cs : EditData) → IsEdit cs → length (spelled cs) ≤ edit_most
edit_short_from cs is = omega (arith, length-spelled cs, is.allowed.text)

pub edit_table_from : (cs : EditData) → IsEdit cs → IsEditOfTable cs
edit_table_from cs is = (is.allowed.count, (λ k d l. one_of (get_or cs k d) (is.changes k d l), is.allowed.distinct))

edit_to : (cs : EditData) → IsEditOfTable cs → length (spelled cs) ≤ edit_most → IsEdit cs
edit_to cs is short =
    let texts : length (spelled_changes cs) ≤ MAX_EDIT_BYTES = omega (arith, length-spelled cs, short) in
    let allowed : All IsAllowedChange cs = all_allowed cs (λ k d l. (is.1.0 k d l).0) texts in
    record {
      allowed = record { count = is.0; distinct = is.1.1; changes = allowed; text = texts };
      changes = λ k d l. change_with (get_or cs k d) (allowed k d l) (is.1.0 k d l);
    }
  where
    change_with : (c : ChangeData) → IsAllowedChange c → IsOne c → IsChange c
    change_with (put id f) is one = (is, one.1)
    change_with (delete id) is one = is

pub limited_edit : Limited edit_most decode_at spelled IsEdit EndsInEdit
unfolding decode_at
limited_edit = limited edit_most edit_at spelled IsEditOfTable IsEdit EndsInEdit codec_edit edit_to edit_table_from edit_short_from

-- the same law of edits
pub one_edit : (e f : EditData) (behind after : List ℕ) → IsEdit e → IsEdit f → spelled e ++ behind ≡ spelled f ++ after → (e ≡ f) × (behind ≡ after)
one_edit e f behind after is other same =
    let one = codec_edit.reads e behind (edit_table_from e is) in
    let two = codec_edit.reads f after (edit_table_from f other) in
    let pair : ◌≡◌ {A = EditData × List ℕ} (e, behind) (f, after) = cc in
    (ap (λ q. q.0) pair, ap (λ q. q.1) pair)
