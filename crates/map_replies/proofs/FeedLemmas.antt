-- Edits are written one after the other.
use Rattle.std.proofs.Common.{◌≡◌, inl, inr, ℕ, suc, ◌<◌, ◌≤◌, ◌+◌, List, [], ◌∷◌, ◌++◌, length, map, take, drop, get_or, refl, sym, ap, subst, ◌∙◌, arith}
use Rattle.std.specs.Prelude.{nat_lt, Bool, Option}
use Rattle.std.proofs.lemmas.Bool.Decides.{nat_tests}
use Rattle.std.proofs.lemmas.List.{map-append, append-nil, map_more, take_all, length-take-le, length-map, take-append-drop}
use Rattle.std.proofs.lemmas.List.Elements.{All-nil}
use Rattle.std.proofs.Math.Seq.{drop-cons}
use Rattle.serde_json.specs.Data.{Data}
use Rattle.serde_json.specs.View.{view}
use Rattle.serde_json.specs.declared.value.Value.{Value}
use Rattle.edit_journal.specs.Records.{RecordData, record_data, records_of}
use Rattle.edit_journal.specs.declared.records.Record.{Record}
use Rattle.edit_json.specs.Batches.{asked_json, asked_of}
use Rattle.edit_text.specs.Recorded.{RecordedEdit, IsRecorded}
use Rattle.feature_model.specs.Data.{EditData}
use Rattle.feature_store.specs.Prepared.{prepared_data}
use Rattle.feature_store.specs.declared.prepared.Prepared.{Prepared}
use Rattle.tile_service.specs.Replayed.{IsRecordFor, AreRecordsFor}
use Rattle.tile_service.specs.Stored.{record_for}
use Rattle.tile_service.proofs.Disk.Replayed.{with_one, none_replayed}
use Rattle.map_replies.specs.declared.fault.RequestFault.{RequestFault}
use Rattle.map_replies.specs.Feed.{listed_edit, edit_texts, listed_edits, changes_of, digest_at, feed_text, feed_body, IsTextFault, IsListFault}
use Rattle.map_replies.specs.Lists.{comma_if, joined}
use Rattle.map_replies.proofs.ListLemmas.{are_some, joined_on}

-- the values of changes
abbrev pub values_of : List Prepared → List Data
values_of xs = map asked_json (map asked_of (map prepared_data xs))

-- one value more
pub values_more : (xs : List Prepared) (i : ℕ) (x : Prepared) (vs : List Value) (v : Value) → i < length xs → x ≡ get_or xs i x
    → view v ≡ asked_json (asked_of (prepared_data x)) → map view vs ≡ values_of (take i xs)
    → map view (vs ++ v ∷ []) ≡ values_of (take (i + 1) xs)
values_more xs i x vs v l is here so_far =
    map-append view vs (v ∷ [])
    ∙ ap (λ (ds : List Data). ds ++ view v ∷ []) so_far
    ∙ ap (λ (d : Data). values_of (take i xs) ++ d ∷ []) (here ∙ ap (λ (y : Prepared). asked_json (asked_of (prepared_data y))) is)
    ∙ sym (map-append asked_json (map asked_of (map prepared_data (take i xs))) (asked_of (prepared_data (get_or xs i x)) ∷ []))
    ∙ ap (map asked_json) (sym (map-append asked_of (map prepared_data (take i xs)) (prepared_data (get_or xs i x) ∷ [])))
    ∙ ap (λ cs. map asked_json (map asked_of cs)) (sym (map_more prepared_data xs i x l))

pub values_done : (xs : List Prepared) (i : ℕ) (vs : List Value) → length xs ≤ i → map view vs ≡ values_of (take i xs) → map view vs ≡ values_of xs
values_done xs i vs past so_far = so_far ∙ ap values_of (take_all i xs past)

-- ---- the texts of edits

-- one edit more
texts_push : (n : ℕ) (es : List EditData) (e : EditData)
    → edit_texts n (es ++ e ∷ []) ≡ edit_texts n es ++ listed_edit (n + length es) e ∷ []
texts_push n [] e =
    let same : n ≡ n + 0 = omega arith in
    ap (λ (k : ℕ). listed_edit k e ∷ []) same
texts_push n (x ∷ es) e =
    let same : suc n + length es ≡ n + suc (length es) = omega arith in
    ap (λ (ts : List (List ℕ)). listed_edit n x ∷ ts)
    (texts_push (suc n) es e ∙ ap (λ (k : ℕ). edit_texts (suc n) es ++ listed_edit k e ∷ []) same)

-- the second edit and those after it come after a comma
some_texts : (first : ℕ) (es : List EditData) → nat_lt 0 (length es) ≡ are_some (edit_texts first es)
some_texts first [] = grind (arith, nat_tests)
some_texts first (x ∷ es) = grind (arith, nat_tests)

-- the records so far are those of edits, and the text has these
abbrev pub IsSoFar : (first : ℕ) (records : List RecordData) (before after : List ℕ) → Type 0
IsSoFar first records before after =
    (edits : List RecordedEdit) × AreRecordsFor records edits × (after ≡ before ++ listed_edits first (changes_of edits))

edit_count : (records : List RecordData) (edits : List RecordedEdit) → AreRecordsFor records edits → length (changes_of edits) ≡ length records
edit_count records edits are = length-map edits (λ (e : RecordedEdit). e.changes) ∙ sym (length-map edits record_for) ∙ sym (ap length are.are_records)

-- one record more
pub so_far_more : (first : ℕ) (xs : List Record) (i : ℕ) (x : Record) (number : ℕ) (more : Bool) (before middle after : List ℕ) → i < length xs
    → x ≡ get_or xs i x → number ≡ first + i → more ≡ nat_lt 0 i → IsSoFar first (records_of (take i xs)) before middle
    → (e : RecordedEdit) × IsRecordFor (record_data x) e × (after ≡ middle ++ (comma_if more ++ listed_edit number e.changes))
    → IsSoFar first (records_of (take (i + 1) xs)) before after
so_far_more first xs i x number more before middle after lt is number_is more_is so_far one =
    let edits = so_far.0 in
    let e = one.0 in
    let records : records_of (take i xs) ++ record_data x ∷ [] ≡ records_of (take (i + 1) xs) =
    ap (λ (y : Record). records_of (take i xs) ++ record_data y ∷ []) is ∙ sym (map_more record_data xs i x lt) in
    let many : length (changes_of edits) ≡ i = omega (
      arith,
      edit_count (records_of (take i xs)) edits so_far.1,
      length-map (take i xs) record_data,
      length-take-le i xs (omega (arith, lt)),
    ) in
    let count : number ≡ first + length (changes_of edits) = omega (arith, number_is, many) in (
      edits ++ e ∷ [],
      subst (λ (rs : List RecordData). AreRecordsFor rs (edits ++ e ∷ [])) records
          (with_one (records_of (take i xs)) edits (record_data x) e so_far.1 one.1),
      joined_on before middle after more (edit_texts first (changes_of edits)) (listed_edit number e.changes) so_far.2
          (more_is ∙ ap (nat_lt 0) (sym many) ∙ some_texts first (changes_of edits)) one.2
          ∙ ap (λ (ts : List (List ℕ)). before ++ joined ts)
          (ap (λ (k : ℕ). edit_texts first (changes_of edits) ++ listed_edit k e.changes ∷ []) count
          ∙ sym (texts_push first (changes_of edits) e.changes)
          ∙ ap (edit_texts first) (sym (map-append (λ (f : RecordedEdit). f.changes) edits (e ∷ [])))),
    )

-- the text of some records' edits, with the digest that is told if so many edits end with the last one
pub body_told : (first last digest : ℕ) (records : List RecordData) (count : ℕ) (told : Option ℕ) (text : List ℕ) → count ≡ length records
    → told ≡ digest_at (first + count) last digest
    → (edits : List RecordedEdit) × AreRecordsFor records edits × (text ≡ feed_text told first (changes_of edits) last)
    → (edits : List RecordedEdit) × AreRecordsFor records edits × (text ≡ feed_body first (changes_of edits) last digest)
body_told first last digest records count told text many is (edits, are, same) =
    let counted : count ≡ length (changes_of edits) = many ∙ sym (edit_count records edits are) in (
      edits,
      are,
      same ∙ ap (λ (o : Option ℕ). feed_text o first (changes_of edits) last) (is ∙ ap (λ (n : ℕ). digest_at (first + n) last digest) counted),
    )

-- a record of no edit is none of edits' records
pub no_edits : (xs : List Record) (i : ℕ) (x : Record) (fault : RequestFault) → i < length xs → x ≡ get_or xs i x → IsTextFault (record_data x) fault
    → IsListFault (records_of xs) fault
no_edits xs i x fault lt is (inl memory) = inl memory
no_edits xs i x fault lt is (inr damaged) =
    let whole : records_of (take i xs) ++ record_data x ∷ records_of (drop (suc i) xs) ≡ records_of xs =
    ap (λ (y : Record). records_of (take i xs) ++ record_data y ∷ records_of (drop (suc i) xs)) is
    ∙ ap (λ (ys : List Record). records_of (take i xs) ++ records_of ys) (sym (drop-cons xs i x lt))
    ∙ sym (map-append record_data (take i xs) (drop i xs))
    ∙ ap records_of (take-append-drop i xs) in
    inr (
      damaged.0,
      λ edits are. none_replayed (records_of (take i xs)) (record_data x) (records_of (drop (suc i) xs)) damaged.1 edits
          (subst (λ (rs : List RecordData). AreRecordsFor rs edits) (sym whole) are),
    )
