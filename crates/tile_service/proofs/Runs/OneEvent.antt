-- A happening on a broken machine, or one that breaks it, and a run that is extended by one happening.
use Rattle.std.proofs.Common.{◌≡◌, ◌≢◌, ◌⊎◌, inl, inr, ℕ, Bool, true, false, List, [], ◌∷◌, ◌++◌, Option, Result, Ok, Err}
use Rattle.std.proofs.Common.{refl, sym, ◌∙◌, ap, subst}
use Rattle.std.specs.Prelude.{IfErr, OnOk}
use Rattle.std.proofs.lemmas.Bool.{false≢true}
use Rattle.sector_disk.specs.Disk.{History, Image, HasFailed}
use Rattle.sector_disk.specs.Moments.{LeavesOnly}
use Rattle.sector_disk.proofs.History.{started}
use Rattle.edit_text.specs.Recorded.{RecordedEdit}
use Rattle.tile_service.specs.Machine.{ServiceState, got, no_memory, Happening, Call, edit, begin, step, cancel, check, tile, tile_number, look}
use Rattle.tile_service.specs.Machine.{look_from, metadata, read, list_edits}
use Rattle.tile_service.specs.Machine.{Refuses, AnswersEdit, AnswersStep, AnswersCheck, Happens, Runs}
use Rattle.tile_service.specs.Runs.{Progress, edits_by, IsDoubtful, progress_after}
use Rattle.tile_service.specs.Service.{PublicationView, Known, CountsDevice, TellsDevice, EventLeaves, stored_after}
use Rattle.tile_service.specs.Stored.{Stored, Holds, Keeps, with_edit}
use Rattle.tile_service.specs.declared.fault.ServiceFault.{ServiceFault}
use Rattle.tile_service.specs.declared.fault.ServiceFault.TheVariants.{Broken, Device}

-- any archive and any map: whether the machine is broken doesn't depend on them
abbrev pub no_known : Known
no_known = record { archive = record { bytes = []; features = [] }; publishing = [] }

-- ---- whether it is in doubt

pub doubtful_or_not : (h : Happening) → IsDoubtful h ⊎ (IsDoubtful h → ⊥)
doubtful_or_not (edit call e (Err Device)) = inl tt
doubtful_or_not (step (Err Device)) = inl tt
doubtful_or_not (check (Err Device)) = inl tt
doubtful_or_not h = inr (λ is. is)

abbrev is_device : ServiceFault → Bool
is_device Device = true
is_device fault = false

broken_is_no_device : (fault : ServiceFault) → fault ≡ Broken → fault ≢ Device
broken_is_no_device fault broken device = false≢true (ap is_device (sym broken ∙ device))

-- after a fault of the disk the machine is broken
pub doubt_breaks_it : (trusted : Type 0) (old new : ServiceState) (h : Happening) → Happens trusted old h new → IsDoubtful h → new.broken ≡ true
doubt_breaks_it trusted old new (edit call e (Err Device)) goes doubt = ap (λ (s : ServiceState). s.broken) goes.2
doubt_breaks_it trusted old new (step (Err Device)) goes doubt = ap (λ (s : ServiceState). s.broken) goes.2
doubt_breaks_it trusted old new (check (Err Device)) goes doubt = ap (λ (s : ServiceState). s.broken) goes.2
doubt_breaks_it trusted old new h goes doubt = absurd doubt

-- ---- refusals

pub clash : (b : Bool) → b ≡ false → b ≡ true → ⊥
clash b not is = false≢true (sym not ∙ is)

pub is_false : (b : Bool) → (b ≡ true → ⊥) → b ≡ false
is_false true not = absurd (not refl)
is_false false not = refl

pub true_or_false : (b : Bool) → (b ≡ true) ⊎ (b ≡ false)
true_or_false true = inl refl
true_or_false false = inr refl

module _ (is_there : Type 0) (old new : ServiceState) where
  -- a broken machine refuses for that
  refuses_broken : (fault : ServiceFault) → Refuses is_there old fault new → old.broken ≡ true → (fault ≡ Broken) × (new ≡ old)
  refuses_broken Broken goes broken = (refl, goes.1)
  refuses_broken fault goes broken = absurd (clash old.broken goes.0 broken)

  -- another fault than the disk's changes nothing
  pub refused_stays : (fault : ServiceFault) → Refuses is_there old fault new → fault ≢ Device → new ≡ old
  refused_stays Broken goes not = goes.1
  refused_stays Device goes not = absurd (not refl)
  refused_stays fault goes not = goes.2

  device_breaks : (fault : ServiceFault) → fault ≡ Device → Refuses is_there old fault new → new.broken ≡ true
  device_breaks fault is goes = ap (λ (s : ServiceState). s.broken) (subst (λ (f : ServiceFault). Refuses is_there old f new) is goes).2

  -- where a refusal leaves the service unbroken, no call of the disk failed,
  fault_counted : (fault : ServiceFault) (before after : ℕ) → Refuses is_there old fault new → CountsDevice fault before after → new.broken ≡ false
      → after ≡ before
  fault_counted fault before after goes (inl w) unbroken = absurd (clash new.broken unbroken (device_breaks fault w.0 goes))
  fault_counted fault before after goes (inr w) unbroken = w.1

  -- and where it breaks the service, one did
  fault_fails : (fault : ServiceFault) (before after : ℕ) → Refuses is_there old fault new → CountsDevice fault before after → old.broken ≡ false
      → new.broken ≡ true → HasFailed before after
  fault_fails fault before after goes (inl w) unbroken broken = w.1
  fault_fails fault before after goes (inr w) unbroken broken =
      absurd (clash new.broken (ap (λ (s : ServiceState). s.broken) (refused_stays fault goes w.0) ∙ unbroken) broken)

-- ---- a broken machine

-- nothing is edited or published, nor left in doubt
pub record IsQuiet (h : Happening) : Type 0 where
  pub edits_nothing : edits_by h ≡ []
  pub publishes_nothing : (p : Progress) → progress_after p h ≡ p
  pub no_doubt : IsDoubtful h → ⊥

-- A broken machine does nothing, and its state is unchanged.
pub broken_stays : (trusted : Type 0) (old new : ServiceState) (h : Happening) → Happens trusted old h new → old.broken ≡ true
    → (new ≡ old) × IsQuiet h
broken_stays trusted old new (edit call e (Ok number)) goes broken = absurd (clash old.broken goes.unbroken broken)
broken_stays trusted old new (edit call e (Err fault)) goes broken = let is = refuses_broken _ old new fault goes broken in (
  is.1,
  subst (λ (f : ServiceFault). IsQuiet (edit call e (Err f))) (sym is.0)
      (record { edits_nothing = refl; publishes_nothing = λ p. refl; no_doubt = λ doubt. doubt }),
)
broken_stays trusted old new (begin (Ok left)) goes broken = absurd (clash old.broken goes.unbroken broken)
broken_stays trusted old new (begin (Err fault)) goes broken = let is = refuses_broken _ old new fault goes broken in
    (is.1, record { edits_nothing = refl; publishes_nothing = λ p. refl; no_doubt = λ doubt. doubt })
broken_stays trusted old new (step (Ok left)) goes broken = absurd (clash old.broken goes.0.unbroken broken)
broken_stays trusted old new (step (Err fault)) goes broken = let is = refuses_broken _ old new fault goes broken in (
  is.1,
  subst (λ (f : ServiceFault). IsQuiet (step (Err f))) (sym is.0)
      (record { edits_nothing = refl; publishes_nothing = λ p. refl; no_doubt = λ doubt. doubt }),
)
broken_stays trusted old new (cancel (Ok done)) goes broken = absurd (clash old.broken goes.0.unbroken broken)
broken_stays trusted old new (cancel (Err fault)) goes broken = let is = refuses_broken _ old new fault goes broken in
    (is.1, record { edits_nothing = refl; publishes_nothing = λ p. refl; no_doubt = λ doubt. doubt })
broken_stays trusted old new (check (Ok done)) goes broken = absurd (clash old.broken goes.0 broken)
broken_stays trusted old new (check (Err fault)) goes broken = let is = refuses_broken _ old new fault goes broken in (
  is.1,
  subst (λ (f : ServiceFault). IsQuiet (check (Err f))) (sym is.0)
      (record { edits_nothing = refl; publishes_nothing = λ p. refl; no_doubt = λ doubt. doubt }),
)
broken_stays trusted old new (tile z x y outcome) goes broken =
    (goes.1, record { edits_nothing = refl; publishes_nothing = λ p. refl; no_doubt = λ doubt. doubt })
broken_stays trusted old new (tile_number z x y n) goes broken =
    (goes, record { edits_nothing = refl; publishes_nothing = λ p. refl; no_doubt = λ doubt. doubt })
broken_stays trusted old new (look id outcome) goes broken =
    (goes.1, record { edits_nothing = refl; publishes_nothing = λ p. refl; no_doubt = λ doubt. doubt })
broken_stays trusted old new (look_from id outcome) goes broken =
    (goes.1, record { edits_nothing = refl; publishes_nothing = λ p. refl; no_doubt = λ doubt. doubt })
broken_stays trusted old new (metadata outcome) goes broken =
    (goes.1, record { edits_nothing = refl; publishes_nothing = λ p. refl; no_doubt = λ doubt. doubt })
broken_stays trusted old new (read at outcome) goes broken =
    (goes, record { edits_nothing = refl; publishes_nothing = λ p. refl; no_doubt = λ doubt. doubt })
broken_stays trusted old new (list_edits number bytes outcome) goes broken =
    (goes, record { edits_nothing = refl; publishes_nothing = λ p. refl; no_doubt = λ doubt. doubt })

-- it refuses an edit for another fault than the disk's,
pub broken_refuses : {X : Type 0} (old new : ServiceState) (call : Call) (e : RecordedEdit) (outcome : Result ℕ ServiceFault)
    → AnswersEdit old call e outcome new → IfErr outcome (λ fault. fault ≢ Device → X) → old.broken ≡ true → X
broken_refuses old new call e (Ok number) goes kept broken = absurd (clash old.broken goes.unbroken broken)
broken_refuses old new call e (Err fault) goes kept broken = kept (broken_is_no_device fault (refuses_broken _ old new fault goes broken).0)

-- and a step
pub broken_halts : {X : Type 0} (old new : ServiceState) (outcome : Result ℕ ServiceFault) → AnswersStep old outcome new
    → IfErr outcome (λ fault. fault ≢ Device → X) → old.broken ≡ true → X
broken_halts old new (Ok left) goes kept broken = absurd (clash old.broken goes.0.unbroken broken)
broken_halts old new (Err fault) goes kept broken = kept (broken_is_no_device fault (refuses_broken _ old new fault goes broken).0)

-- and a check
pub broken_unchecked : {X : Type 0} (old new : ServiceState) (outcome : Result (Unit {0}) ServiceFault) → AnswersCheck old outcome new
    → IfErr outcome (λ fault. fault ≢ Device → X) → old.broken ≡ true → X
broken_unchecked old new (Ok done) goes kept broken = absurd (clash old.broken goes.0 broken)
broken_unchecked old new (Err fault) goes kept broken = kept (broken_is_no_device fault (refuses_broken _ old new fault goes broken).0)

-- ---- the version of the disk

refused_version : (is_there : Type 0) (old new : ServiceState) (fault : ServiceFault) → Refuses is_there old fault new → new.version ≡ old.version
refused_version is_there old new Broken goes = ap (λ (s : ServiceState). s.version) goes.1
refused_version is_there old new Device goes = ap (λ (s : ServiceState). s.version) goes.2
refused_version is_there old new fault goes = ap (λ (s : ServiceState). s.version) goes.2

-- no edit changes it,
pub edit_version : (old new : ServiceState) (call : Call) (e : RecordedEdit) (outcome : Result ℕ ServiceFault) → AnswersEdit old call e outcome new
    → new.version ≡ old.version
edit_version old new call e (Ok number) goes = ap (λ (s : ServiceState). s.version) goes.made
edit_version old new call e (Err fault) goes = refused_version _ old new fault goes

-- and no step
pub step_version : (old new : ServiceState) (outcome : Result ℕ ServiceFault) → AnswersStep old outcome new → new.version ≡ old.version
step_version old new (Ok left) (way, inl w) = ap (λ (s : ServiceState). s.version) w.2
step_version old new (Ok left) (way, inr w) = ap (λ (s : ServiceState). s.version) w.2
step_version old new (Err fault) goes = refused_version _ old new fault goes

-- and no check of the disk
pub check_version : (old new : ServiceState) (outcome : Result (Unit {0}) ServiceFault) → AnswersCheck old outcome new → new.version ≡ old.version
check_version old new (Ok done) goes = ap (λ (s : ServiceState). s.version) goes.1
check_version old new (Err fault) goes = refused_version _ old new fault goes

-- ---- the map

-- the same map, with the same last edit
abbrev SameMap : (old new : ServiceState) → Type 0
SameMap old new = (new.features ≡ old.features) × (new.last ≡ old.last)

same_map : (old new : ServiceState) → new ≡ old → SameMap old new
same_map old new same = (ap (λ (s : ServiceState). s.features) same, ap (λ (s : ServiceState). s.last) same)

refused_map : (is_there : Type 0) (old new : ServiceState) (fault : ServiceFault) → Refuses is_there old fault new → SameMap old new
refused_map is_there old new Broken goes = same_map old new goes.1
refused_map is_there old new Device goes = (ap (λ (s : ServiceState). s.features) goes.2, ap (λ (s : ServiceState). s.last) goes.2)
refused_map is_there old new fault goes = same_map old new goes.2

-- no step changes it,
pub step_map : (old new : ServiceState) (outcome : Result ℕ ServiceFault) → AnswersStep old outcome new → SameMap old new
step_map old new (Ok left) (way, inl w) = (ap (λ (s : ServiceState). s.features) w.2, ap (λ (s : ServiceState). s.last) w.2)
step_map old new (Ok left) (way, inr w) = (ap (λ (s : ServiceState). s.features) w.2, ap (λ (s : ServiceState). s.last) w.2)
step_map old new (Err fault) goes = refused_map _ old new fault goes

-- and no check of the disk
pub check_map : (old new : ServiceState) (outcome : Result (Unit {0}) ServiceFault) → AnswersCheck old outcome new → SameMap old new
check_map old new (Ok done) goes = same_map old new goes.1
check_map old new (Err fault) goes = refused_map _ old new fault goes

-- ---- calls of the disk that failed

pub edit_faults : (old new : ServiceState) (call : Call) (e : RecordedEdit) (outcome : Result ℕ ServiceFault) (before after : ℕ)
    → AnswersEdit old call e outcome new → TellsDevice outcome before after → new.broken ≡ false → after ≡ before
edit_faults old new call e (Ok number) before after goes counts unbroken = counts
edit_faults old new call e (Err fault) before after goes counts unbroken = fault_counted _ old new fault before after goes counts unbroken

pub edit_fails : (old new : ServiceState) (call : Call) (e : RecordedEdit) (outcome : Result ℕ ServiceFault) (before after : ℕ)
    → AnswersEdit old call e outcome new → TellsDevice outcome before after → old.broken ≡ false → new.broken ≡ true → HasFailed before after
edit_fails old new call e (Ok number) before after goes counts unbroken broken =
    absurd (clash new.broken (ap (λ (s : ServiceState). s.broken) goes.made ∙ unbroken) broken)
edit_fails old new call e (Err fault) before after goes counts unbroken broken = fault_fails _ old new fault before after goes counts unbroken broken

pub step_faults : (old new : ServiceState) (outcome : Result ℕ ServiceFault) (before after : ℕ) → AnswersStep old outcome new
    → TellsDevice outcome before after → new.broken ≡ false → after ≡ before
step_faults old new (Ok left) before after goes counts unbroken = counts
step_faults old new (Err fault) before after goes counts unbroken = fault_counted _ old new fault before after goes counts unbroken

pub step_fails : (old new : ServiceState) (outcome : Result ℕ ServiceFault) (before after : ℕ) → AnswersStep old outcome new
    → TellsDevice outcome before after → old.broken ≡ false → new.broken ≡ true → HasFailed before after
step_fails old new (Ok left) before after (way, inl w) counts unbroken broken =
    absurd (clash new.broken (ap (λ (s : ServiceState). s.broken) w.2 ∙ unbroken) broken)
step_fails old new (Ok left) before after (way, inr w) counts unbroken broken =
    absurd (clash new.broken (ap (λ (s : ServiceState). s.broken) w.2 ∙ unbroken) broken)
step_fails old new (Err fault) before after goes counts unbroken broken = fault_fails _ old new fault before after goes counts unbroken broken

-- ---- a run

-- where less is trusted, no more is said
pub happens_less : (less more : Type 0) → (less → more) → (old new : ServiceState) (h : Happening) → Happens more old h new → Happens less old h new
happens_less less more so old new (tile z x y (got content)) goes = ((λ is. goes.0 (so is)), goes.1)
happens_less less more so old new (tile z x y no_memory) goes = goes
happens_less less more so old new h goes = goes

pub runs_less : (less more : Type 0) → (less → more) → (old new : ServiceState) (hs : List Happening) → Runs more old hs new → Runs less old hs new
runs_less less more so old new [] run = run
runs_less less more so old new (h ∷ hs) run =
    (run.0, happens_less less more so old run.0 h run.1, runs_less less more so run.0 new hs run.2)

-- a run is extended by one happening
pub runs_on : (trusted : Type 0) (old between new : ServiceState) (hs : List Happening) (h : Happening) → Runs trusted old hs between
    → Happens trusted between h new → Runs trusted old (hs ++ h ∷ []) new
runs_on trusted old between new [] h run goes = (new, subst (λ (s : ServiceState). Happens trusted s h new) run goes, refl)
runs_on trusted old between new (first ∷ hs) h run goes = (run.0, run.1, runs_on trusted run.0 between new hs h run.2 goes)

-- ---- what is stored afterwards

-- what is the same after a refusal has what it had
pub kept_for : {A T : Type 0} (P : A → Type 0) (old new : A) (outcome : Result T ServiceFault) → IfErr outcome (λ fault. fault ≢ Device → new ≡ old)
    → P old → IfErr outcome (λ fault. fault ≢ Device → P new)
kept_for P old new (Ok told) same holds = tt
kept_for P old new (Err fault) same holds = λ not. subst P (sym (same not)) holds

-- after an edit that was acknowledged, or refused for another fault than the disk's
pub after_edit : (P : Stored → Type 0) (n : ℕ) (stored : Stored) (publication : Option PublicationView) (call : Call) (e : RecordedEdit)
    (outcome : Result ℕ ServiceFault) → OnOk outcome (P (with_edit stored e)) → IfErr outcome (λ fault. fault ≢ Device → P stored)
    → (IsDoubtful (edit call e outcome) → ⊥) → P (stored_after n stored publication (edit call e outcome))
after_edit P n stored publication call e (Ok number) done kept not = done
after_edit P n stored publication call e (Err fault) done kept not =
    kept (λ device. not (subst (λ (f : ServiceFault). IsDoubtful (edit call e (Err f))) (sym device) tt))

-- after a step that went on, or was refused for another fault than the disk's
pub after_step : (P : Stored → Type 0) (n : ℕ) (stored : Stored) (publication : Option PublicationView) (outcome : Result ℕ ServiceFault)
    → OnOk outcome (P (stored_after n stored publication (step outcome))) → IfErr outcome (λ fault. fault ≢ Device → P stored)
    → (IsDoubtful (step outcome) → ⊥) → P (stored_after n stored publication (step outcome))
after_step P n stored publication (Ok left) done kept not = done
after_step P n stored publication (Err fault) done kept not =
    kept (λ device. not (subst (λ (f : ServiceFault). IsDoubtful (step (Err f))) (sym device) tt))

-- after a check of the disk that found nothing, or was refused for another fault than the disk's
pub after_check : (P : Type 0) (outcome : Result (Unit {0}) ServiceFault) → OnOk outcome P → IfErr outcome (λ fault. fault ≢ Device → P)
    → (IsDoubtful (check outcome) → ⊥) → P
after_check P (Ok done) up kept not = up
after_check P (Err fault) up kept not = kept (λ device. not (subst (λ (f : ServiceFault). IsDoubtful (check (Err f))) (sym device) tt))

leaves_stored : (sectors n : ℕ) (stored : Stored) (publication : Option PublicationView) (h : Happening) (image : Image)
    → Holds sectors n stored image → EventLeaves sectors n stored publication h image
leaves_stored sectors n stored publication (edit call e outcome) image holds = inl holds
leaves_stored sectors n stored publication (step outcome) image holds = inl holds
leaves_stored sectors n stored publication h image holds = holds

-- what writes nothing leaves what is stored
pub writes_nothing : (sectors n : ℕ) (stored : Stored) (publication : Option PublicationView) (happening : Happening) (h new : History)
    → new ≡ h → Keeps sectors n stored h → LeavesOnly h new (EventLeaves sectors n stored publication happening)
writes_nothing sectors n stored publication happening h new same keeps =
    subst (λ (x : History). LeavesOnly h x (EventLeaves sectors n stored publication happening)) (sym same)
    (started h (EventLeaves sectors n stored publication happening)
    (λ image may. leaves_stored sectors n stored publication happening image (keeps image may)))
