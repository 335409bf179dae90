-- Records and the edits that they are of.
use Rattle.std.proofs.Common.{◌≡◌, inl, inr, ℕ, zero, suc, Bool, true, false, ◌<◌, ◌≤◌, ◌+◌, ◌==◌, if◌then◌else◌, List, [], ◌∷◌, ◌++◌, length}
use Rattle.std.proofs.Common.{drop, get_or, sym, ◌∙◌, ap, subst, arith, length-append}
use Rattle.std.proofs.Math.Seq.{get_or-append_seam}
use Rattle.std.proofs.lemmas.List.{length-map, map-append}
use Rattle.std.proofs.lemmas.List.Elements.{All-head, All-tail, All-push}
use Rattle.std.proofs.lemmas.List.Sums.{fold-append}
use Rattle.cached_map.specs.Cached.{CachedView, WasMap}
use Rattle.edit_journal.specs.Records.{RecordData, record_of}
use Rattle.edit_text.specs.Recorded.{RecordedEdit, IsRecorded, recorded_text}
use Rattle.feature_model.specs.Data.{ChangeData, EditData, put, delete}
use Rattle.feature_model.specs.Spelled.{spelled_change, spelled_changes, spelled}
use Rattle.feature_store.specs.Store.{FeatureMap, changed, edited, snapshot}
use Rattle.feature_store.proofs.Laws.{snapshot_after_put, snapshot_after_delete}
use Rattle.generations.specs.declared.fault.StoreFault.{StoreFault}
use Rattle.tile_service.specs.After.{made, after}
use Rattle.tile_service.specs.Replayed.{IsRecordFor, IsRecordFault, AreRecordsFor, AreMade, IsReplayFault, bytes_of}
use Rattle.tile_service.specs.Stored.{record_for}
use Rattle.tile_service.proofs.Tiles.EarlierMaps.{were_one}

-- ---- the length of texts

-- a change makes the texts of a map longer by its own at most,
changed_short : (m : FeatureMap) (c : ChangeData) → length (snapshot (changed m c)) ≤ length (snapshot m) + length (spelled_change c)
changed_short m (put id f) = snapshot_after_put m id f
changed_short m (delete id) = omega (arith, snapshot_after_delete m id)

edited_short : (m : FeatureMap) (cs : EditData) → length (snapshot (edited m cs)) ≤ length (snapshot m) + length (spelled_changes cs)
edited_short m [] = omega arith
edited_short m (c ∷ cs) =
    omega (arith, edited_short (changed m c) cs, changed_short m c, length-append (spelled_change c) (spelled_changes cs))

-- the texts of the changes are no longer than the record's
longer_by : (first : Bool) (cs : EditData) → length (spelled_changes cs) ≤ length (if first then spelled_changes cs else spelled cs)
unfolding spelled
longer_by true cs = omega arith
longer_by false cs = omega arith

pub changes_short : (e : RecordedEdit) → length (spelled_changes e.changes) ≤ length (recorded_text e)
changes_short e = longer_by (e.version == 1) e.changes

-- and an edit makes them longer by that of its record at most
pub made_short : (m : FeatureMap) (e : RecordedEdit) → length (snapshot (made m e)) ≤ length (snapshot m) + length (recorded_text e)
made_short m e = omega (arith, edited_short m e.changes, changes_short e)

pub text_short : (r : RecordData) (e : RecordedEdit) → IsRecordFor r e → length (spelled_changes e.changes) ≤ length r.text
text_short r e is = omega (arith, changes_short e, ap (λ (s : RecordData). length s.text) is.record_is)

-- ---- records one by one

pub after_one : (m : FeatureMap) (edits : List RecordedEdit) (e : RecordedEdit) → after m (edits ++ e ∷ []) ≡ made (after m edits) e
after_one m edits e = fold-append made m edits (e ∷ [])

pub with_one : (records : List RecordData) (edits : List RecordedEdit) (r : RecordData) (e : RecordedEdit) → AreRecordsFor records edits → IsRecordFor r e
    → AreRecordsFor (records ++ r ∷ []) (edits ++ e ∷ [])
with_one records edits r e are is = record {
  are_recorded = All-push IsRecorded edits e are.are_recorded is.recorded;
  are_records = (λ i. are.are_records i ++ is.record_is i ∷ []) ∙ sym (map-append record_for edits (e ∷ []));
}

-- no record
abbrev pub nothing : RecordData
nothing = record_of 0 []

-- each of the records is that of an edit
record_at : (records : List RecordData) (edits : List RecordedEdit) (i : ℕ) → AreRecordsFor records edits → i < length records
    → (e : RecordedEdit) × IsRecordFor (get_or records i nothing) e
record_at [] edits i are lt = absurd (omega (arith, lt))
record_at (r ∷ records) [] i are lt = absurd (omega (arith, ap length are.are_records))
record_at (r ∷ records) (e ∷ edits) zero are lt =
    (e, record { recorded = All-head IsRecorded e edits are.are_recorded; record_is = ap (λ rs. get_or rs 0 nothing) are.are_records })
record_at (r ∷ records) (e ∷ edits) (suc i) are lt = record_at records edits i
    (record { are_recorded = All-tail IsRecorded e edits are.are_recorded; are_records = ap (drop 1) are.are_records }) (omega (arith, lt))

-- a record of no edit is in no list of edits' records
pub none_replayed : (before : List RecordData) (r : RecordData) (rest : List RecordData) → ((e : RecordedEdit) → IsRecordFor r e → ⊥)
    → (edits : List RecordedEdit) → AreRecordsFor (before ++ r ∷ rest) edits → ⊥
none_replayed before r rest none edits are =
    let found = record_at (before ++ r ∷ rest) edits (length before) are (omega (arith, length-append before (r ∷ rest))) in
    none found.0 (subst (λ (s : RecordData). IsRecordFor s found.0) (get_or-append_seam before r rest nothing) found.1)

-- and its fault is that of all the records
pub replay_fault : (before : List RecordData) (r : RecordData) (rest : List RecordData) (fault : StoreFault) → IsRecordFault r fault
    → IsReplayFault (before ++ r ∷ rest) fault
replay_fault before r rest fault (inl memory) = inl memory
replay_fault before r rest fault (inr damaged) = inr (damaged.0, none_replayed before r rest damaged.1)

-- the edits of the records so far, with one more
pub replayed_one : (records : List RecordData) (r : RecordData) (first old new : CachedView) → AreMade records first old
    → (e : RecordedEdit) × IsRecordFor r e × (new.features ≡ made old.features e) → new.last ≡ first.last + suc (length records)
    → WasMap new.features new.touched new.last new.last new.features
    → ((n : ℕ) (was : FeatureMap) → WasMap old.features old.touched old.last n was → WasMap new.features new.touched new.last n was)
    → AreMade (records ++ r ∷ []) first new
replayed_one records r first old new are one last now since = record {
  edits = are.edits ++ one.0 ∷ [];
  are_records = with_one records are.edits r one.0 are.are_records one.1;
  map_is = map_is;
  were = were_one old.features old.touched old.last new.features new.touched new.last since now first.last first.features are.edits one.0
      (omega (arith, last, ap length are.are_records.are_records, length-map are.edits record_for)) map_is are.were;
}
  where
    map_is : new.features ≡ after first.features (are.edits ++ one.0 ∷ [])
    map_is = one.2 ∙ ap (λ (m : FeatureMap). made m one.0) are.map_is ∙ sym (after_one first.features are.edits one.0)

pub short_one : (rest : List RecordData) (r : RecordData) (end : ℕ) (old new : FeatureMap) → length (snapshot old) + bytes_of (r ∷ rest) < end
    → (e : RecordedEdit) × IsRecordFor r e × (new ≡ made old e) → length (snapshot new) + bytes_of rest < end
short_one rest r end old new short one =
    omega (arith, short, made_short old one.0, ap (λ (s : RecordData). length s.text) one.1.record_is, ap (λ (m : FeatureMap). length (snapshot m)) one.2)
