-- The service as a machine: its state, what happens to it, and the state after that.
use Rattle.std.specs.Prelude.{◌≡◌, ◌⊎◌, ◌<◌, ◌≤◌, ◌+◌, ◌-◌, ◌^◌, ℕ, Bool, true, false, List, [], ◌∷◌, length, All, Contains, Option, Some, None, IsSome}
use Rattle.std.specs.Prelude.{Result, Ok, Err}
use Rattle.generations.specs.Areas.{journal_sectors, area_sectors, sectors_of}
use Rattle.generations.specs.declared.sizes.TheConstants.{FIRST_VERSION}
use Rattle.edit_journal.specs.Records.{RecordData, parts_of}
use Rattle.edit_journal.specs.declared.fault.JournalFault.{JournalFault}
use Rattle.edit_text.specs.Recorded.{RecordedEdit, recorded_text}
use Rattle.feature_model.specs.Data.{FeatureData, ChangeData, EditData, put, delete}
use Rattle.feature_model.specs.declared.fault.EditFault.{EditFault as LimitFault}
use Rattle.feature_store.specs.Layers.{layers}
use Rattle.feature_store.specs.Store.{FeatureMap, feature_at, feature_from, snapshot}
use Rattle.map_metadata.specs.Metadata.{IsMetadata}
use Rattle.serde_json.specs.Data.{Data}
use Rattle.serde_json.specs.Read.{read as read_json}
use Rattle.serde_json.specs.Written.{compact_text}
use Rattle.area_content.specs.Faults.{HasManyTiles, IsBuiltFor, IsFull}
use Rattle.feature_store.specs.Content.{IsTileContent}
use Rattle.tile_service.specs.After.{made}
use Rattle.tile_service.specs.declared.fault.ServiceFault.{ServiceFault}
use Rattle.tile_service.specs.declared.fault.ServiceFault.TheVariants.{Broken, Busy, Idle, NeedsUpgrade, Limit, NotFound, NumbersSpent, Memory}
use Rattle.tile_service.specs.declared.fault.ServiceFault.TheVariants.{TooManyTiles, AreaFull, JournalFull, Device}
use Rattle.tile_service.specs.declared.publishing.TheConstants.{STEP_SECTORS}
use Rattle.tile_service.specs.Limits.{KeepsLimits, BreaksLimit, KeepsBatchLimits, BreaksBatchLimit}

-- ---- the state

-- an archive, and the map whose tiles it has
pub record ArchiveState : Type 0 where
  pub bytes : List ℕ
  pub features : FeatureMap

-- a publication under way
pub record Publication : Type 0 where
  -- the archive that is published, with the map when it began
  pub archive : ArchiveState
  -- the number of the last edit before it began, and how many places the records up to that edit take
  pub last : ℕ
  pub places : ℕ
  -- how many sectors are left to write, the root's among them
  pub left : ℕ

pub record ServiceState : Type 0 where
  -- with how many sectors the disk was formatted
  pub size : ℕ
  -- the version of its format
  pub version : ℕ
  -- the map
  pub features : FeatureMap
  -- the number of the last edit, or 0
  pub last : ℕ
  -- how many places of the journal are free
  pub free : ℕ
  -- how often an archive was installed
  pub generation : ℕ
  -- the archive of that generation
  pub archive : ArchiveState
  pub publication : Option Publication
  -- a write or a sync of the disk has failed
  pub broken : Bool

-- ---- what happens

-- a result, or out of memory
pub data OrMemory (A : Type 0) : Type 0 where
  got : A → OrMemory A
  no_memory : OrMemory A

-- an edit is made by a call for one change, or by one for a batch of changes
pub data Call : Type 0 where
  single : Call
  batched : Call

-- a call, and its outcome
pub data Happening : Type 0 where
  -- an edit, with the version in which it is recorded, and its number
  edit : Call → RecordedEdit → Result ℕ ServiceFault → Happening
  -- a publication begins, and this much of it is left
  begin : Result ℕ ServiceFault → Happening
  -- its next sectors are written, and this much of it is left, 0 once it is installed
  step : Result ℕ ServiceFault → Happening
  -- it is cancelled
  cancel : Result (Unit {0}) ServiceFault → Happening
  -- the disk is asked to keep what was written
  check : Result (Unit {0}) ServiceFault → Happening
  -- the tile of a zoom, a column and a row: its bytes, or None if it is empty
  tile : ℕ → ℕ → ℕ → OrMemory (Option (List ℕ)) → Happening
  -- the number of such a tile: that of the newest edit that can have touched it
  tile_number : ℕ → ℕ → ℕ → ℕ → Happening
  -- the feature of an id
  look : ℕ → OrMemory (Option FeatureData) → Happening
  -- the first feature with an id or a greater one, and its id
  look_from : ℕ → OrMemory (Option (ℕ × FeatureData)) → Happening
  -- the metadata of the map
  metadata : OrMemory Data → Happening
  -- the bytes of the archive from an offset on, or None if the disk failed
  read : ℕ → Option (List ℕ) → Happening
  -- the records of the edits from a number on, until their texts have this many bytes or more, or why they can't be read
  list_edits : (number bytes : ℕ) → Result (List RecordData) JournalFault → Happening

-- ---- what is refused

-- the state after a fault: Device breaks the service and ends its publication, any other changes nothing
abbrev pub after_fault : ServiceState → ServiceFault → ServiceState
after_fault s Device = record s { broken = true; publication = None }
after_fault s fault = s

-- A broken service answers Broken to each call that writes. Another one refuses for a fault that applies.
abbrev pub Refuses : (is_there : Type 0) → ServiceState → ServiceFault → ServiceState → Type 0
Refuses is_there old Broken new = (old.broken ≡ true) × (new ≡ old)
Refuses is_there old fault new = (old.broken ≡ false) × is_there × (new ≡ after_fault old fault)

-- ---- edits

-- the edit of these changes, recorded in this version
abbrev pub recorded_in : ℕ → EditData → RecordedEdit
recorded_in version cs = record { version = version; changes = cs }

-- the edit of one change
abbrev pub recorded_change : ℕ → ChangeData → RecordedEdit
recorded_change version c = recorded_in version (c ∷ [])

-- batches are made on a disk of a later version than the first
abbrev pub Accepts : ServiceState → Call → Type 0
Accepts s single = Unit {0}
Accepts s batched = FIRST_VERSION < s.version

-- a feature to delete exists
abbrev pub HasTarget : FeatureMap → ChangeData → Type 0
HasTarget m (put id f) = Unit {0}
HasTarget m (delete id) = IsSome (feature_at m id)

-- the call's changes are within the limits, and the features that they delete exist
abbrev pub IsWanted : FeatureMap → Call → EditData → Type 0
IsWanted m single (put id f ∷ []) = KeepsLimits id f
IsWanted m single (delete id ∷ []) = IsSome (feature_at m id)
IsWanted m single cs = ⊥
IsWanted m batched cs = KeepsBatchLimits cs × All (HasTarget m) cs

-- how many places the record of an edit needs
abbrev pub places_for : RecordedEdit → ℕ
places_for e = parts_of (length (recorded_text e))

-- nothing but the journal's space can prevent the edit
pub record CanMake (s : ServiceState) (call : Call) (e : RecordedEdit) : Type 0 where
  pub version_is : e.version ≡ s.version
  pub accepts : Accepts s call
  pub wanted : IsWanted s.features call e.changes
  pub number : s.last < 2 ^ 64 - 1

-- the state after an edit
abbrev pub after_edit : ServiceState → RecordedEdit → ServiceState
after_edit s e = record s { features = made s.features e; last = s.last + 1; free = s.free - places_for e }

-- the edit is made, and its number returned
pub record MakesEdit (old : ServiceState) (call : Call) (e : RecordedEdit) (number : ℕ) (new : ServiceState) : Type 0 where
  pub unbroken : old.broken ≡ false
  pub can : CanMake old call e
  pub room : places_for e ≤ old.free
  pub told : number ≡ old.last + 1
  pub made : new ≡ after_edit old e

-- the first limit that the call's changes break
abbrev pub BreaksLimits : Call → EditData → LimitFault → Type 0
BreaksLimits single (put id f ∷ []) fault = BreaksLimit id f fault
BreaksLimits single cs fault = ⊥
BreaksLimits batched cs fault = BreaksBatchLimit cs fault

-- the call's changes are within the limits, and a feature that they delete doesn't exist
abbrev pub LacksTarget : FeatureMap → Call → EditData → Type 0
LacksTarget m single (delete id ∷ []) = feature_at m id ≡ None
LacksTarget m single cs = ⊥
LacksTarget m batched cs = KeepsBatchLimits cs × ((id : ℕ) × Contains cs (delete id) × (feature_at m id ≡ None))

-- the call allocates: the deletion of one feature doesn't
abbrev pub Allocates : Call → EditData → Type 0
Allocates single (delete id ∷ []) = ⊥
Allocates call cs = Unit {0}

-- The faults of an edit, in order: of several the first is reported. Out of memory is reported only if no earlier fault applies, and
-- never for the deletion of one feature.
abbrev pub EditFault : ServiceState → ServiceFault → Call → RecordedEdit → Type 0
EditFault s NeedsUpgrade call e = (call ≡ batched) × (s.version ≡ FIRST_VERSION)
EditFault s (Limit fault) call e = Accepts s call × BreaksLimits call e.changes fault
EditFault s NotFound call e = Accepts s call × LacksTarget s.features call e.changes
EditFault s NumbersSpent call e = Accepts s call × IsWanted s.features call e.changes × (s.last ≡ 2 ^ 64 - 1)
EditFault s Memory call e = Allocates call e.changes × CanMake s call e
EditFault s (JournalFull need free) call e = CanMake s call e × (need ≡ places_for e) × (free ≡ s.free) × (free < need)
EditFault s Device call e = CanMake s call e × (places_for e ≤ s.free)
EditFault s fault call e = ⊥

-- ---- publications

-- how many sectors the snapshot of a map and an archive take
abbrev pub sectors_for : FeatureMap → (archive : List ℕ) → ℕ
sectors_for m archive = sectors_of (length (snapshot m)) + sectors_of (length archive)

-- nothing but memory, the tiles and the space can prevent a publication
pub record CanBegin (s : ServiceState) : Type 0 where
  pub none : s.publication ≡ None
  pub generation : s.generation < 2 ^ 64 - 1

-- an archive that is built of a map: of exactly its tiles, each as a tile is written, laid out as an archive is written, with the map's
-- metadata as their text is written, within its bound
pub record IsPublishable (m : FeatureMap) (archive : List ℕ) : Type 0 where
  pub metadata : Data
  pub is_metadata : IsMetadata m metadata
  pub reads : read_json (compact_text metadata) ≡ Some metadata
  pub built : IsBuiltFor m (compact_text metadata) archive

-- A publication of the map begins, and what is left is returned: its sectors, and one for the root.
pub record Begins (old : ServiceState) (told : ℕ) (new : ServiceState) : Type 0 where
  pub unbroken : old.broken ≡ false
  pub can : CanBegin old
  pub archive : List ℕ
  pub is_archive : IsPublishable old.features archive
  pub room : sectors_for old.features archive ≤ area_sectors old.size
  pub told_is : told ≡ sectors_for old.features archive + 1
  pub begun : new ≡ record old {
    publication = Some (record {
      archive = record { bytes = archive; features = old.features };
      last = old.last;
      places = journal_sectors old.size - old.free;
      left = told;
    });
  }

-- the snapshot of the map and the archive of all its tiles need this many sectors, or a tile alone does, and the area has fewer
abbrev pub IsAreaFull : ServiceState → (need free : ℕ) → Type 0
IsAreaFull s need free = (d : Data) × IsMetadata s.features d × IsFull s.features (compact_text d) (area_sectors s.size) need free

-- The faults of a beginning. Memory aside, Busy and NumbersSpent come first, then the first tile, by id, that is too long for an area or with
-- which there are too many. AreaFull for all tiles comes last.
abbrev pub BeginFault : ServiceState → ServiceFault → Type 0
BeginFault s Busy = IsSome s.publication
BeginFault s NumbersSpent = (s.publication ≡ None) × (s.generation ≡ 2 ^ 64 - 1)
BeginFault s Memory = CanBegin s
BeginFault s TooManyTiles = CanBegin s × HasManyTiles s.features
BeginFault s (AreaFull need free) = CanBegin s × IsAreaFull s need free
BeginFault s fault = ⊥

-- the state after the installation of a publication
abbrev pub after_install : ServiceState → Publication → ServiceState
after_install s p = record s { generation = s.generation + 1; archive = p.archive; free = s.free + p.places; publication = None }

-- The publication continues by a step: it writes STEP_SECTORS sectors, or the rest and the root.
abbrev pub GoesOn : ServiceState → Publication → (told : ℕ) → ServiceState → Type 0
GoesOn old p told new =
    ((STEP_SECTORS + 1 < p.left) × (told ≡ p.left - STEP_SECTORS) × (new ≡ record old { publication = Some (record p { left = told }) }))
    ⊎ ((p.left ≤ STEP_SECTORS + 1) × (told ≡ 0) × (new ≡ after_install old p))

-- the publication that is under way
pub record HasPublication (s : ServiceState) : Type 0 where
  pub unbroken : s.broken ≡ false
  pub publication : Publication
  pub is : s.publication ≡ Some publication

-- the faults of its cancellation,
abbrev pub CancelFault : ServiceState → ServiceFault → Type 0
CancelFault s Idle = s.publication ≡ None
CancelFault s fault = ⊥

-- and of a step of it
abbrev pub StepFault : ServiceState → ServiceFault → Type 0
StepFault s Device = HasPublication s
StepFault s fault = CancelFault s fault

-- ---- a check of the disk

-- its fault
abbrev pub CheckFault : ServiceState → ServiceFault → Type 0
CheckFault s Device = Unit {0}
CheckFault s fault = ⊥

-- ---- the state after each

-- after an edit with this outcome
abbrev pub AnswersEdit : ServiceState → Call → RecordedEdit → Result ℕ ServiceFault → ServiceState → Type 0
AnswersEdit old call e (Ok number) new = MakesEdit old call e number new
AnswersEdit old call e (Err fault) new = Refuses (EditFault old fault call e) old fault new

-- after a beginning of a publication,
abbrev pub AnswersBegin : ServiceState → Result ℕ ServiceFault → ServiceState → Type 0
AnswersBegin old (Ok left) new = Begins old left new
AnswersBegin old (Err fault) new = Refuses (BeginFault old fault) old fault new

-- a step
abbrev pub AnswersStep : ServiceState → Result ℕ ServiceFault → ServiceState → Type 0
AnswersStep old (Ok left) new = (under_way : HasPublication old) × GoesOn old under_way.publication left new
AnswersStep old (Err fault) new = Refuses (StepFault old fault) old fault new

-- or its cancellation
abbrev pub AnswersCancel : ServiceState → Result (Unit {0}) ServiceFault → ServiceState → Type 0
AnswersCancel old (Ok done) new = HasPublication old × (new ≡ record old { publication = None })
AnswersCancel old (Err fault) new = Refuses (CancelFault old fault) old fault new

-- after a check of the disk
abbrev pub AnswersCheck : ServiceState → Result (Unit {0}) ServiceFault → ServiceState → Type 0
AnswersCheck old (Ok done) new = (old.broken ≡ false) × (new ≡ old)
AnswersCheck old (Err fault) new = Refuses (CheckFault old fault) old fault new

-- the result is this, if there is one
abbrev pub IfTold : {A : Type 0} → OrMemory A → (A → Type 0) → Type 0
IfTold (got a) Is = Is a
IfTold no_memory Is = Unit {0}

-- One happening, and the state after it. A tile may be read from the disk: its content is that of the map if the disk is trusted.
-- The bytes of the archive and the edits since are specified from the disk, since the machine of a broken service doesn't know them, and the
-- number of a tile from the cells of the world.
abbrev pub Happens : (trusted : Type 0) → ServiceState → Happening → ServiceState → Type 0
Happens trusted old (edit call e outcome) new = AnswersEdit old call e outcome new
Happens trusted old (begin outcome) new = AnswersBegin old outcome new
Happens trusted old (step outcome) new = AnswersStep old outcome new
Happens trusted old (cancel outcome) new = AnswersCancel old outcome new
Happens trusted old (check outcome) new = AnswersCheck old outcome new
Happens trusted old (tile z x y outcome) new = IfTold outcome (λ content. trusted → IsTileContent (layers old.features z x y) content) × (new ≡ old)
Happens trusted old (tile_number z x y n) new = new ≡ old
Happens trusted old (look id outcome) new = IfTold outcome (λ f. f ≡ feature_at old.features id) × (new ≡ old)
Happens trusted old (look_from id outcome) new = IfTold outcome (λ f. f ≡ feature_from old.features id) × (new ≡ old)
Happens trusted old (metadata outcome) new = IfTold outcome (λ d. IsMetadata old.features d) × (new ≡ old)
Happens trusted old (read at outcome) new = new ≡ old
Happens trusted old (list_edits number bytes outcome) new = new ≡ old

-- the happenings in order
abbrev pub Runs : (trusted : Type 0) → ServiceState → List Happening → ServiceState → Type 0
Runs trusted old [] new = new ≡ old
Runs trusted old (happening ∷ happenings) new =
    (between : ServiceState) × Happens trusted old happening between × Runs trusted between happenings new
