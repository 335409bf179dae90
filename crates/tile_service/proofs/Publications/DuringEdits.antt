-- A publication from its first write to its installation, while edits go on.
use Rattle.std.proofs.Common.{◌≡◌, ℕ, zero, suc, ◌≤◌, ◌+◌, ◌==◌, if◌then◌else◌, List, [], ◌∷◌, length, take, drop}
use Rattle.std.proofs.Common.{Result, Ok, Err, OnOk, refl, sym, ◌∙◌, ap, subst, arith, lit<, lit≤}
use Rattle.std.proofs.lemmas.Bool.Decides.{nat_tests}
use Rattle.std.proofs.lemmas.List.{take-take, drop-drop}
use Rattle.sector_disk.specs.Disk.{Image, History, seen, Writes}
use Rattle.sector_disk.specs.Disk.History.{begun}
use Rattle.sector_disk.specs.declared.disk.DiskFault.{DiskFault}
use Rattle.generations.specs.Areas.{area_start, sectors_of}
use Rattle.generations.specs.Installs.{root_at, WithRoot}
use Rattle.generations.specs.Sectors.{root_sector}
use Rattle.generations.specs.declared.root.Root.{Root}
use Rattle.generations.proofs.Laws.{fresh_image, some_fresh}
use Rattle.edit_journal.specs.Appends.{ReadsAsBefore}
use Rattle.edit_text.specs.Recorded.{RecordedEdit}
use Rattle.feature_store.specs.Store.{FeatureMap, snapshot}
use Rattle.tile_service.specs.After.{after, made}
use Rattle.tile_service.specs.Publishing.{map_at, published, CanPublish, IsContentSector, HasFirst, HasArea, IsUnderWay}
use Rattle.tile_service.specs.Runs.{fitting, Fits}
use Rattle.tile_service.specs.Stored.{Stored, Holds, first_state, root_of, with_edit, journal_ring}
use Rattle.tile_service.proofs.Publications.AreaContents.{none_written, write_stands, content_stands, append_keeps_area}
use Rattle.tile_service.proofs.Disk.Formatted.{fresh_holds, no_text}
use Rattle.tile_service.proofs.Publications.Installed.{map_stays, can_still, installed_holds}

module _ (n : ℕ) (stored : Stored) (taken : ℕ) (archive : List ℕ) where
  -- before the first write
  pub begins : (history : History) → CanPublish n stored taken archive → IsUnderWay n stored taken archive 0 history
  begins history can = record { can = can; first = none_written (snapshot (map_at stored taken)) archive n (suc stored.generation) (seen history) }

  -- With an edit in the journal it is where it was,
  pub goes_on_with_edit : (edit : RecordedEdit) (written place used : ℕ) (old new : History) → IsUnderWay n stored taken archive written old
      → ReadsAsBefore (journal_ring n) place used (seen old) (seen new) → IsUnderWay n (with_edit stored edit) taken archive written new
  goes_on_with_edit edit written place used old new was reads = record {
    can = can_still n stored taken archive edit was.can.within was.can;
    first = subst (λ (m : FeatureMap). HasFirst n (suc stored.generation) (snapshot m) archive written (seen new))
        (sym (map_stays n stored taken archive edit was.can.within))
        (append_keeps_area (snapshot (map_at stored taken)) archive n (suc stored.generation) written place used (seen old) (seen new) reads was.first);
  }

  -- and once all sectors are written, the area has what an installation needs.
  pub all_written : (written : ℕ) (history : History)
      → written ≡ sectors_of (length (snapshot (map_at stored taken))) + sectors_of (length archive)
      → IsUnderWay n stored taken archive written history
      → HasArea n (suc stored.generation) (snapshot (map_at stored taken)) archive (seen history)
  all_written written history is was = content_stands (snapshot (map_at stored taken)) archive n (suc stored.generation) (seen history)
      (subst (λ (k : ℕ). HasFirst n (suc stored.generation) (snapshot (map_at stored taken)) archive k (seen history)) is was.first)

-- ---- publications in a run of edits

none_taken : (taken : ℕ) → ◌≡◌ {A = List RecordedEdit} (take taken []) []
none_taken zero = refl
none_taken (suc taken) = refl

-- the map after the edits of one snapshot and those of the next
both_after : (m : FeatureMap) (j taken i all : ℕ) (edits : List RecordedEdit) → all ≡ j + taken → all ≤ i
    → after (after m (take j edits)) (take taken (drop j (take i edits))) ≡ after m (take all edits)
both_after m zero taken i all edits is le =
    let same : taken ≡ all = omega (arith, is) in
    ap (λ (l : List RecordedEdit). after m l) (take-take taken i edits (omega (arith, is, le)) ∙ ap (λ (k : ℕ). take k edits) same)
both_after m (suc j) taken i zero edits is le = absurd (omega (arith, is))
both_after m (suc j) taken zero (suc all) edits is le = absurd (omega (arith, le))
both_after m (suc j) taken (suc i) (suc all) [] is le = ap (λ (l : List RecordedEdit). after m l) (none_taken taken)
both_after m (suc j) taken (suc i) (suc all) (edit ∷ edits) is le = both_after (made m edit) j taken i all edits (omega (arith, is)) (omega (arith, le))

module _ (start : Stored) (edits : List RecordedEdit) (i j taken n generation journal_at : ℕ) (archive next : List ℕ) (le : j + taken ≤ i) where
  abbrev pub place_behind : ℕ
  place_behind = (published n (fitting start edits i j generation journal_at archive) taken next).journal_at

  -- Published, it has more of them in its snapshot.
  pub published_fits : published n (fitting start edits i j generation journal_at archive) taken next
      ≡ fitting start edits i (j + taken) (suc generation) place_behind next
  published_fits = λ k. record {
    version = start.version;
    generation = suc generation;
    snapshot_map = both_after start.snapshot_map j taken i (j + taken) edits refl le k;
    edits = sum k;
    since = drops k;
    journal_at = place_behind;
    archive = next;
  }
    where
      sum : start.edits + j + taken ≡ start.edits + (j + taken)
      sum = omega arith

      drops : drop taken (drop j (take i edits)) ≡ drop (j + taken) (take i edits)
      drops = drop-drop taken j (take i edits)

-- ---- the definitions aren't empty

-- an image that is another but for the sector of a root
abbrev with_root : Root → Image → Image
with_root root before at = if at == root_at root.generation then root_sector root else before at

has_root : (root : Root) (before : Image) → WithRoot root before (with_root root before)
has_root root before = record { stands = grind (arith, nat_tests); others = λ at apart. grind (arith, nat_tests) }

first_holds : Holds 64 64 first_state (fresh_image 64)
first_holds = fresh_holds 64 64 (fresh_image 64) (lit≤ tt, lit≤ tt) (lit≤ tt) (some_fresh 64)

-- the empty map can be published
pub first_can : CanPublish 64 first_state 0 []
first_can = record {
  within = omega arith;
  is_map = first_holds.is_map;
  is_archive = first_holds.is_archive;
  area = omega (arith, ap (λ (bytes : List ℕ). sectors_of (length bytes)) no_text);
  generation = lit< tt;
}

-- and is held once it is installed
pub first_published : Holds 64 64 (published 64 first_state 0 []) (with_root (root_of (published 64 first_state 0 [])) (fresh_image 64))
first_published = installed_holds 64 64 first_state 0 [] first_can (fresh_image 64) first_holds
    (all_written 64 first_state 0 [] 0 (begun (fresh_image 64)) (omega (arith, ap (λ (bytes : List ℕ). sectors_of (length bytes)) no_text))
    (begins 64 first_state 0 [] (begun (fresh_image 64)) first_can))
    (with_root (root_of (published 64 first_state 0 [])) (fresh_image 64)) (has_root (root_of (published 64 first_state 0 [])) (fresh_image 64))
