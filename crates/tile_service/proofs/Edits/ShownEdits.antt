-- The edits that a service shows, from one call to the next.
use Rattle.std.proofs.Common.{◌≡◌, ◌⊎◌, inl, inr, ⊎_elim, ℕ, suc, ◌≤◌, ◌<◌, ◌+◌, ◌-◌, List, [], ◌∷◌, ◌++◌, length, length-append, length-drop, map, drop}
use Rattle.std.proofs.Common.{All, refl, sym, ◌∙◌, ap, subst, arith}
use Rattle.std.proofs.lemmas.List.{append-nil, drop-map, length-map, map-append}
use Rattle.std.proofs.lemmas.List.Elements.{All-nil, All-cons, All-append, All-drop}
use Rattle.sector_disk.specs.Disk.{History, seen}
use Rattle.edit_journal.specs.Appends.{ring_of}
use Rattle.edit_journal.specs.Kept.{GoesBack, HasOlder, IsFull}
use Rattle.edit_journal.specs.Lists.{HasRecords}
use Rattle.edit_journal.specs.Records.{RecordData}
use Rattle.edit_journal.specs.Ring.{Ring, IsInRing}
use Rattle.edit_journal.specs.declared.journal.Journal.{Journal}
use Rattle.edit_journal.proofs.Kept.{has_in_ring}
use Rattle.edit_text.specs.Recorded.{RecordedEdit}
use Rattle.tile_service.specs.Service.{ServiceView, IsUp, ShowsEdits, StillShows}
use Rattle.tile_service.specs.Stored.{Stored, CanRecord, record_for}

-- ---- where a read gives of the ring what it gave

-- a journal has the same records
pub has_same : (records : List RecordData) (old new : Journal) (before after : History) → new ≡ old
    → ((at : ℕ) → IsInRing (ring_of old) at → seen after at ≡ seen before at) → HasRecords records old before → HasRecords records new after
has_same records old new before after same reads has = subst (λ (j : Journal). HasRecords records j after) (sym same)
    (has_in_ring records old before after reads has)

module _ {D : Type 0} where
  -- and a service shows the same edits.
  pub shows_on : (old new : ServiceView D) (before after : History) (edits : List RecordedEdit) → new.kept_journal ≡ old.kept_journal
      → new.journal ≡ old.journal → new.version ≡ old.version
      → ((at : ℕ) → IsInRing (ring_of old.journal) at → seen after at ≡ seen before at) → ShowsEdits before old edits → ShowsEdits after new edits
  shows_on old new before after edits kept same version reads shows =
      let behind : old.journal.edits - old.kept_journal.edits ≡ new.journal.edits - new.kept_journal.edits =
      omega (arith, ap (λ (j : Journal). j.edits) kept, ap (λ (j : Journal). j.edits) same) in
      record {
        back = subst (GoesBack new.kept_journal) (sym same) (subst (λ (j : Journal). GoesBack j old.journal) (sym kept) shows.back);
        records = record {
          all = has_same (map record_for edits) old.kept_journal new.kept_journal before after kept
              (λ at inside. reads at (subst (λ (r : Ring). IsInRing r at) shows.back.ring inside)) shows.records.all;
          in_use = subst (λ (n : ℕ). HasRecords (drop n (map record_for edits)) new.journal after) behind
              (has_same (drop (old.journal.edits - old.kept_journal.edits) (map record_for edits)) old.journal new.journal before after same reads
              shows.records.in_use);
        };
        are_edits = subst (λ (v : ℕ). All (CanRecord v) edits) (sym version) shows.are_edits;
      }

  -- Nothing is forgotten then.
  pub still_from : (history : History) (old new : ServiceView D) (edits more : List RecordedEdit) (waiting : ℕ) → more ≡ []
      → new.kept_journal.edits ≡ old.kept_journal.edits → ShowsEdits history new edits → StillShows history old new edits more waiting
  still_from history old new edits more waiting none same shows = record {
    count = 0;
    within = omega arith;
    forgotten = omega (arith, same);
    shows = subst (λ (l : List RecordedEdit). ShowsEdits history new (edits ++ l)) (sym none)
        (subst (ShowsEdits history new) (sym (append-nil edits)) shows);
    full = inl refl;
  }

  -- Where records are released, they stay in the ring.
  pub shows_released : (old new : ServiceView D) (before after : History) (edits : List RecordedEdit) → new.kept_journal ≡ old.kept_journal
      → ring_of new.journal ≡ ring_of old.journal → new.version ≡ old.version → GoesBack old.kept_journal new.journal
      → HasOlder (map record_for edits) old.kept_journal new.journal before
      → ((at : ℕ) → IsInRing (ring_of old.journal) at → seen after at ≡ seen before at) → ShowsEdits before old edits → ShowsEdits after new edits
  shows_released old new before after edits kept ring version back has reads shows =
      let behind : new.journal.edits - old.kept_journal.edits ≡ new.journal.edits - new.kept_journal.edits =
      omega (arith, ap (λ (j : Journal). j.edits) kept) in
      record {
        back = subst (λ (j : Journal). GoesBack j new.journal) (sym kept) back;
        records = record {
          all = has_same (map record_for edits) old.kept_journal new.kept_journal before after kept
              (λ at inside. reads at (subst (λ (r : Ring). IsInRing r at) shows.back.ring inside)) has.all;
          in_use = subst (λ (n : ℕ). HasRecords (drop n (map record_for edits)) new.journal after) behind
              (has_same (drop (new.journal.edits - old.kept_journal.edits) (map record_for edits)) new.journal new.journal before after refl
              (λ at inside. reads at (subst (λ (r : Ring). IsInRing r at) ring inside)) has.in_use);
        };
        are_edits = subst (λ (v : ℕ). All (CanRecord v) edits) (sym version) shows.are_edits;
      }

  -- ---- an edit

  none_or_full : (count used waiting : ℕ) (old new : ServiceView D) → count ≡ new.kept_journal.edits - old.kept_journal.edits → used ≡ new.kept_journal.used + waiting
      → (new.kept_journal.edits ≡ old.kept_journal.edits) ⊎ IsFull new.kept_journal used → (count ≡ 0) ⊎ IsFull new.kept_journal (new.kept_journal.used + waiting)
  none_or_full count used waiting old new count_is used_is (inl same) = inl (omega (arith, same, count_is))
  none_or_full count used waiting old new count_is used_is (inr full) = inr (subst (IsFull new.kept_journal) used_is full)

  -- One that is appended is shown after the others, but for some first ones.
  pub shows_appended : (before after : History) (old new : ServiceView D) (edits : List RecordedEdit) (e : RecordedEdit) (r : RecordData) → r ≡ record_for e
      → CanRecord old.version e → new.version ≡ old.version → new.journal.last ≡ old.journal.last + 1 → GoesBack new.kept_journal new.journal
      → old.kept_journal.edits ≤ new.kept_journal.edits
      → HasOlder (drop (new.kept_journal.edits - old.kept_journal.edits) (map record_for edits) ++ r ∷ []) new.kept_journal new.journal after
      → (new.kept_journal.edits ≡ old.kept_journal.edits) ⊎ IsFull new.kept_journal new.kept_journal.used
      → ShowsEdits before old edits → StillShows after old new edits (e ∷ []) 0
  shows_appended before after old new edits e r is can version last back later has full shows =
      let count : ℕ = new.kept_journal.edits - old.kept_journal.edits in
      let kept : List RecordData = drop count (map record_for edits) in
      let records : kept ++ r ∷ [] ≡ map record_for (drop count edits ++ e ∷ []) =
      ap (λ (l : List RecordData). l ++ r ∷ []) (drop-map record_for count edits)
      ∙ ap (λ (x : RecordData). map record_for (drop count edits) ++ x ∷ []) is
      ∙ sym (map-append record_for (drop count edits) (e ∷ [])) in
      let same_used : new.kept_journal.used ≡ new.kept_journal.used + 0 = omega arith in
      record {
        count = count;
        within = omega (
          arith,
          has.all.counts,
          back.last,
          last,
          later,
          shows.back.last,
          shows.records.all.counts,
          length-append kept (r ∷ []),
          length-drop count (map record_for edits),
          length-map edits record_for,
        );
        forgotten = omega (arith, later);
        shows = record {
          back = back;
          records = subst (λ (rs : List RecordData). HasOlder rs new.kept_journal new.journal after) records has;
          are_edits = subst (λ (v : ℕ). All (CanRecord v) (drop count edits ++ e ∷ [])) (sym version)
              (All-append (CanRecord old.version) (drop count edits) (e ∷ []) (All-drop (CanRecord old.version) count edits shows.are_edits)
              (All-cons (CanRecord old.version) e [] can (All-nil (CanRecord old.version))));
        };
        full = none_or_full count new.kept_journal.used 0 old new refl same_used full;
      }

  -- One that isn't acknowledged is not shown.
  pub shows_refused : (before after : History) (old new : ServiceView D) (edits : List RecordedEdit) (parts : ℕ) → new.version ≡ old.version
      → new.journal ≡ old.journal → GoesBack new.kept_journal new.journal → old.kept_journal.edits ≤ new.kept_journal.edits
      → HasOlder (drop (new.kept_journal.edits - old.kept_journal.edits) (map record_for edits)) new.kept_journal new.journal after
      → (new.kept_journal.edits ≡ old.kept_journal.edits) ⊎ IsFull new.kept_journal (new.kept_journal.used + parts)
      → ShowsEdits before old edits → StillShows after old new edits [] parts
  shows_refused before after old new edits parts version same back later has full shows =
      let count : ℕ = new.kept_journal.edits - old.kept_journal.edits in
      record {
        count = count;
        within = omega (
          arith,
          has.all.counts,
          back.last,
          ap (λ (j : Journal). j.last) same,
          later,
          shows.back.last,
          shows.records.all.counts,
          length-drop count (map record_for edits),
          length-map edits record_for,
        );
        forgotten = omega (arith, later);
        shows = subst (ShowsEdits after new) (sym (append-nil (drop count edits))) (record {
          back = back;
          records = subst (λ (rs : List RecordData). HasOlder rs new.kept_journal new.journal after) (drop-map record_for count edits) has;
          are_edits = subst (λ (v : ℕ). All (CanRecord v) (drop count edits)) (sym version)
              (All-drop (CanRecord old.version) count edits shows.are_edits);
        });
        full = none_or_full count (new.kept_journal.used + parts) parts old new refl refl full;
      }

  -- ---- edits before those since the snapshot

  -- how many there are
  pub older_count : (sectors : ℕ) (history : History) (stored : Stored) (service : ServiceView D) (up : IsUp sectors history stored service)
      → service.kept_journal.edits + length up.older ≡ stored.edits
  older_count sectors history stored service up = omega (
    arith,
    up.shows.records.all.counts,
    up.shows.back.last,
    up.last_is,
    length-map (up.older ++ stored.since) record_for,
    length-append up.older stored.since,
  )

-- without them
pub drop_first : (xs ys : List RecordedEdit) (n : ℕ) → drop (length xs + n) (xs ++ ys) ≡ drop n ys
drop_first [] ys n = let none : 0 + n ≡ n = omega arith in ap (λ (m : ℕ). drop m ys) none
drop_first (x ∷ xs) ys n = let more : suc (length xs) + n ≡ suc (length xs + n) = omega arith in
    ap (λ (m : ℕ). drop m (x ∷ (xs ++ ys))) more ∙ drop_first xs ys n

pub drop_older : (xs ys : List RecordedEdit) → drop (length xs) (xs ++ ys) ≡ ys
drop_older [] ys = refl
drop_older (x ∷ xs) ys = drop_older xs ys
