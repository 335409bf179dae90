-- The edits of a journal that is read again.
use Rattle.std.specs.Prelude.{Vec, Result, Ok, Err, MatchResult}
use Rattle.std.proofs.Common.{Global, ◌≡◌, ◌≢◌, ◌<◌, ◌≤◌, ◌+◌, ◌-◌, ℕ, List, ◌++◌, length, map, drop, All, ◌∙◌, ap, subst, arith}
use Rattle.std.proofs.lemmas.List.{drop-map}
use Rattle.std.proofs.lemmas.List.Elements.{All-map, All-weaker}
use Rattle.sector_disk.specs.Asked.{OnlyReads}
use Rattle.sector_disk.specs.Disk.{History}
use Rattle.edit_journal.specs.Lists.{HasRecords, first_bytes}
use Rattle.edit_journal.specs.Records.{RecordData, records_of, AreUpTo}
use Rattle.edit_journal.specs.declared.fault.JournalFault.{JournalFault}
use Rattle.edit_journal.specs.declared.fault.JournalFault.TheVariants.{Damaged}
use Rattle.edit_journal.specs.declared.records.Record.{Record}
use Rattle.edit_text.specs.Recorded.{RecordedEdit}
use Rattle.tile_service.specs.Listing.{AreListed, listed_from, listed_records}
use Rattle.tile_service.specs.Machine.{list_edits}
use Rattle.tile_service.specs.Runs.{Takes}
use Rattle.tile_service.specs.Service.{ServiceView, ShowsEdits, IsUp}
use Rattle.tile_service.specs.Stored.{Stored, CanRecord, record_for}
use Rattle.tile_service.proofs.Edits.ShownEdits.{older_count, drop_first}
use Rattle.tile_service.proofs.Runs.Callers.{list_step}

-- what a read of the journal says of its result
abbrev pub ReadsFrom : Result (Vec Record Global) JournalFault → List RecordData → Type 0
ReadsFrom result records = MatchResult result (λ found. records_of found.items ≡ records) (λ fault. fault ≢ Damaged)

listed_so : (records : List RecordData) (result : Result (Vec Record Global) JournalFault) → ReadsFrom result records
    → AreListed records (listed_records result)
listed_so records (Ok found) is = is
listed_so records (Err fault) is = is

-- the records of the edits that a service shows are listed
pub shown_listed : {D : Type 0} (history : History) (service : ServiceView D) (edits : List RecordedEdit) (number bytes : ℕ)
    (result : Result (Vec Record Global) JournalFault) → ShowsEdits history service edits
    → ((records : List RecordData) → HasRecords records service.kept_journal history → AreUpTo service.version records
    → ReadsFrom result (first_bytes bytes (drop (number - (service.kept_journal.edits + 1)) records)))
    → AreListed (listed_from service.kept_journal.edits edits number bytes) (listed_records result)
shown_listed history service edits number bytes result shows reads =
    let count : ℕ = number - (service.kept_journal.edits + 1) in
    let versions : All (λ (e : RecordedEdit). e.version ≤ service.version) edits =
    All-weaker (CanRecord service.version) (λ (e : RecordedEdit). e.version ≤ service.version) (λ e can. can.version_is) edits shows.are_edits in
    listed_so (listed_from service.kept_journal.edits edits number bytes) result
    (subst (λ (records : List RecordData). ReadsFrom result (first_bytes bytes records)) (drop-map record_for count edits)
    (reads (map record_for edits) shows.records.all
    (All-map (λ (r : RecordData). r.version ≤ service.version) record_for edits versions)))

-- from a number behind the snapshot's on they are those of the edits since
pub listed_since : {D : Type 0} (sectors : ℕ) (history : History) (stored : Stored) (service : ServiceView D) (up : IsUp sectors history stored service)
    (number bytes : ℕ) → stored.edits < number
    → listed_from service.kept_journal.edits (up.older ++ stored.since) number bytes ≡ listed_from stored.edits stored.since number bytes
listed_since sectors history stored service up number bytes after =
    let count : number - (service.kept_journal.edits + 1) ≡ length up.older + (number - (stored.edits + 1)) =
    omega (arith, after, older_count sectors history stored service up) in
    ap (λ (l : List RecordedEdit). first_bytes bytes (map record_for l))
    (ap (λ (n : ℕ). drop n (up.older ++ stored.since)) count ∙ drop_first up.older stored.since (number - (stored.edits + 1)))

-- what a list of edits does
pub takes_list : {D : Type 0} (sectors : D → ℕ) (honest : D → Type 0) (history : D → History) (old new : ServiceView D)
    → new ≡ record old { disk = new.disk; published = new.published; kept = new.kept } → OnlyReads sectors honest history old.disk new.disk
    → ((stored : Stored) → IsUp (sectors old.disk) (history old.disk) stored old → honest new.disk → IsUp (sectors new.disk) (history new.disk) stored new)
    → (number bytes : ℕ) (result : Result (Vec Record Global) JournalFault) → old.kept_journal.edits < number
    → ((edits : List RecordedEdit) → ShowsEdits (history old.disk) old edits → honest new.disk
    → AreListed (listed_from old.kept_journal.edits edits number bytes) (listed_records result))
    → Takes sectors honest history old (list_edits number bytes (listed_records result)) new
takes_list sectors honest history old new same reads up number bytes result behind shown =
    list_step sectors honest history old new same reads up number bytes (listed_records result)
    (λ edits shows is_honest. (behind, shown edits shows is_honest))
