-- What a port listed is in every image from then on.
use Rattle.std.proofs.Common.{◌≡◌, ◌⊎◌, inl, inr, ⊎_elim, ℕ, zero, suc, ◌<◌, ◌≤◌, ◌+◌, ◌-◌, List, [], ◌∷◌, ◌++◌, length, length-append, length-drop, map, take, drop}
use Rattle.std.proofs.Common.{false, Option, Ok, refl, sym, ◌∙◌, ap, subst, arith, append_assoc}
use Rattle.std.proofs.lemmas.Bool.{cases_lt}
use Rattle.std.proofs.lemmas.List.{append-nil, drop-append-le, take-append-le, take-take, take_more, take-map, drop-drop, drop_all, get_or-take}
use Rattle.sector_disk.specs.Disk.{History, Image, moment, LeftSince, seen}
use Rattle.edit_journal.specs.Lists.{first_bytes}
use Rattle.edit_journal.specs.Records.{RecordData}
use Rattle.edit_text.specs.Recorded.{RecordedEdit}
use Rattle.tile_service.specs.Headline.{HasSomeFirst}
use Rattle.tile_service.specs.KeptEdits.{AreNumbered, IsListed, HasListed, KeepsListed}
use Rattle.tile_service.specs.Listing.{ListsFrom}
use Rattle.tile_service.specs.Machine.{no_memory, ServiceState, Happening, step, look, list_edits, Happens}
use Rattle.tile_service.specs.Runs.{edits_by, waiting_by, happening_at, all_edits, way_of, Way, AreEditsOf}
use Rattle.tile_service.specs.Runs.{ImageFits, fitting, IsTrusted, Takes}
use Rattle.tile_service.specs.Service.{ServiceView, ShowsEdits, StillShows, IsUp, state_of, known_after}
use Rattle.tile_service.specs.Stored.{Stored, Holds, record_for}
use Rattle.tile_service.proofs.Edits.ShownEdits.{shows_on, older_count, drop_first}
use Rattle.tile_service.proofs.Runs.Callers.{HasRun, run_begins, run_on}
use Rattle.tile_service.proofs.Runs.Headlines.{opens_to_first}
use Rattle.tile_service.proofs.Runs.OneEvent.{no_known}
use Rattle.tile_service.proofs.Runs.Progress.{all_edits_on, all_split_at, all_of_more}
use Rattle.service_laws.specs.Moments.{WasRead, TakesBetweenReads, WasStoppedBetweenReads}
use Rattle.service_laws.proofs.OverReads.{run_reads}

-- ---- lists

first_of : (bytes : ℕ) (records : List RecordData) → first_bytes bytes records ≡ take (length (first_bytes bytes records)) records
first_of bytes [] = refl
first_of zero (r ∷ records) = refl
first_of (suc rest) (r ∷ records) = ap (λ (l : List RecordData). r ∷ l) (first_of (suc rest - length r.text) records)

taken_within : {A : Type 0} (n : ℕ) (xs : List A) → length (take n xs) ≤ length xs
taken_within zero xs = omega arith
taken_within (suc n) [] = omega arith
taken_within (suc n) (x ∷ xs) = let rest = taken_within n xs in omega (arith, rest)

taken_none : {A : Type 0} (n : ℕ) → take {A = A} n [] ≡ []
taken_none zero = refl
taken_none (suc n) = refl

module _ (records : List RecordData) where
  abbrev AreThere : List RecordedEdit → (count : ℕ) → Type 0
  AreThere edits count = records ≡ map record_for (take (length records) (drop count edits))

  -- what is there is there with more edits after it
  there_with : (edits more : List RecordedEdit) (count : ℕ) → AreThere edits count → AreThere (edits ++ more) count
  there_with edits more count is = ⊎_elim
      (λ (beyond : length edits < count).
      let none : records ≡ [] = is ∙ ap (λ (l : List RecordedEdit). map record_for (take (length records) l)) (drop_all count edits (omega (arith, beyond)))
      ∙ ap (map record_for) (taken_none (length records)) in
      subst (λ (l : List RecordData). l ≡ map record_for (take (length l) (drop count (edits ++ more)))) (sym none) refl)
      (λ (within : count ≤ length edits).
      let fits : length records ≤ length (drop count edits) =
      omega (arith, ap length is, mapped (take (length records) (drop count edits)), taken_within (length records) (drop count edits)) in
      is ∙ ap (map record_for) (sym (take-append-le (length records) (drop count edits) more fits)
      ∙ ap (take (length records)) (sym (drop-append-le count edits more within))))
      (cases_lt (length edits) count)
    where
      mapped : (l : List RecordedEdit) → length (map record_for l) ≡ length l
      mapped [] = refl
      mapped (e ∷ l) = ap suc (mapped l)

  -- what was read of the edits after a publication is there among all
  there_of_all : (edits : List RecordedEdit) (j bytes count : ℕ) → records ≡ first_bytes bytes (map record_for (drop count (drop j edits)))
      → AreThere edits (j + count)
  there_of_all edits j bytes count is =
      is ∙ first_of bytes (map record_for (drop count (drop j edits)))
      ∙ ap (λ (n : ℕ). take n (map record_for (drop count (drop j edits)))) (sym (ap length is))
      ∙ take-map record_for (length records) (drop count (drop j edits))
      ∙ ap (λ (l : List RecordedEdit). map record_for (take (length records) l)) (drop-drop count j edits)

-- ---- the edits that a service shows in a run

module _ {D : Type 0} (sectors : D → ℕ) (honest : D → Type 0) (history : D → History) where
  -- After some happenings it shows the last of the edits that it showed before the run and of the run's edits, a broken one too.
  record ShowsRun (start : Stored) (older : List RecordedEdit) (base : ℕ) (events : List Happening) (now : ServiceView D) : Type 0 where
    pub count : ℕ
    pub within : count ≤ length (older ++ all_edits start events)
    pub forgotten : now.kept_journal.edits ≡ base + count
    pub shows : ShowsEdits (history now.disk) now (drop count (older ++ all_edits start events))

  -- a step is made by a service that isn't broken
  step_unbroken : (trusted : Type 0) (old new : ServiceState) → Happens trusted old (step (Ok 0)) new → old.broken ≡ false
  step_unbroken trusted old new (way, w) = way.unbroken

  -- one happening more
  shows_next : (old now new : ServiceView D) (start : Stored) (older : List RecordedEdit) (base : ℕ) (events : List Happening) (event : Happening)
      → HasRun sectors honest history old events now → Takes sectors honest history now event new → honest new.disk
      → IsUp (sectors old.disk) (history old.disk) start old
      → ShowsRun start older base events now → ShowsRun start older base (events ++ event ∷ []) new
  shows_next old now new start older base events event so goes is_honest up shown =
      let xs : List RecordedEdit = older ++ all_edits start events in
      let went : StillShows (history new.disk) now new (drop shown.count xs) (edits_by event) (waiting_by event) =
      goes.shows (drop shown.count xs) shown.shows is_honest (λ is.
      let was : now.broken ≡ false = step_unbroken (IsTrusted sectors honest history now new) (state_of no_known now)
      (state_of (known_after no_known now (step (Ok 0))) new)
      (subst (λ (x : Happening). Happens (IsTrusted sectors honest history now new) (state_of no_known now) x
      (state_of (known_after no_known now x) new)) is (goes.machine no_known)) in
      let after = so.up start (goes.asked.was_honest is_honest) up was in
      (after.reached, after.is_up)) in
      let all : older ++ all_edits start (events ++ event ∷ []) ≡ xs ++ edits_by event =
      ap (λ (l : List RecordedEdit). older ++ l) (all_edits_on start events event) ∙ sym (append_assoc older (all_edits start events) (edits_by event)) in
      let fits : shown.count + went.count ≤ length xs = omega (arith, went.within, shown.within, length-drop shown.count xs) in
      record {
        count = shown.count + went.count;
        within = omega (arith, fits, ap length all, length-append xs (edits_by event));
        forgotten = omega (arith, went.forgotten, shown.forgotten);
        shows = subst (ShowsEdits (history new.disk) new)
            (ap (λ (l : List RecordedEdit). l ++ edits_by event) (drop-drop went.count shown.count xs)
            ∙ sym (drop-append-le (shown.count + went.count) xs (edits_by event) fits)
            ∙ ap (drop (shown.count + went.count)) (sym all)) went.shows;
      }

  -- a read more
  shows_read : (start : Stored) (older : List RecordedEdit) (base : ℕ) (events : List Happening) (now new : ServiceView D)
      → WasRead sectors honest history now new → honest new.disk → ShowsRun start older base events now → ShowsRun start older base events new
  shows_read start older base events now new read is_honest shown =
      let edits : List RecordedEdit = drop shown.count (older ++ all_edits start events) in
      record {
        count = shown.count;
        within = shown.within;
        forgotten = ap (λ (s : ServiceView D). s.kept_journal.edits) read.same ∙ shown.forgotten;
        shows = shows_on now new (history now.disk) (history new.disk) edits (ap (λ (s : ServiceView D). s.kept_journal) read.same)
            (ap (λ (s : ServiceView D). s.journal) read.same) (ap (λ (s : ServiceView D). s.version) read.same)
            (λ at inside. ap (λ (h : History). seen h at) (read.disk.same_history is_honest)) shown.shows;
      }

  -- ---- each state of a run

  module _ (old new : ServiceView D) (start : Stored) (happenings : List Happening) (run : TakesBetweenReads sectors honest history old happenings new)
      (is_honest : honest new.disk) (up : IsUp (sectors old.disk) (history old.disk) start old) where
    abbrev older : List RecordedEdit
    older = up.older

    abbrev way : Option Way
    way = way_of start.edits old.publication

    -- the disk was honest before
    honest_before : (rest k : ℕ) → k + rest ≡ length happenings → honest (run.from k).disk
    honest_before zero k is = subst (λ (s : ServiceView D). honest s.disk) (sym (ap run.from (omega (arith, is)) ∙ run.ends)) is_honest
    honest_before (suc rest) k is = (run.takes k (omega (arith, is))).asked.was_honest
        ((run.reads (suc k) (omega (arith, is))).disk.was_honest (honest_before rest (suc k) (omega (arith, is))))

    honest_from : (k : ℕ) → k ≤ length happenings → honest (run.from k).disk
    honest_from k le = honest_before (length happenings - k) k (omega (arith, le))

    honest_at : (k : ℕ) → k ≤ length happenings → honest (run.at k).disk
    honest_at k le = (run.reads k le).disk.was_honest (honest_from k le)

    honest_first : honest old.disk
    honest_first = subst (λ (s : ServiceView D). honest s.disk) run.begins (honest_at 0 (omega arith))

    one_more_taken : (k : ℕ) → k < length happenings → take (suc k) happenings ≡ take k happenings ++ happening_at happenings k ∷ []
    one_more_taken k lt = let next : suc k ≡ k + 1 = omega arith in ap (λ (n : ℕ). take n happenings) next ∙ take_more happenings k (look 0 no_memory) lt

    abbrev Reached : (k : ℕ) → ServiceView D → Type 0
    Reached k now = HasRun sectors honest history old (take k happenings) now × ShowsRun start older old.kept_journal.edits (take k happenings) now

    read_from : (k : ℕ) → k ≤ length happenings → Reached k (run.at k) → Reached k (run.from k)
    read_from k le before = let read = run.reads k le in (
      run_reads sectors honest history old (run.at k) (run.from k) (take k happenings) before.0 read.same read.disk read.up,
      shows_read start older old.kept_journal.edits (take k happenings) (run.at k) (run.from k) read (honest_from k le) before.1,
    )

    -- how each state was reached, and the edits that it shows
    reached_at : (k : ℕ) → k ≤ length happenings → Reached k (run.at k)
    reached_at zero le = (
      subst (HasRun sectors honest history old []) (sym run.begins) (run_begins sectors honest history old),
      subst (ShowsRun start older old.kept_journal.edits []) (sym run.begins) (record {
        count = 0;
        within = omega arith;
        forgotten = omega arith;
        shows = subst (λ (l : List RecordedEdit). ShowsEdits (history old.disk) old (older ++ l)) (sym (append-nil start.since)) up.shows;
      }),
    )
    reached_at (suc k) le =
        let before = read_from k (omega (arith, le)) (reached_at k (omega (arith, le))) in
        let goes = run.takes k (omega (arith, le)) in
        let is = one_more_taken k (omega (arith, le)) in (
          subst (λ (l : List Happening). HasRun sectors honest history old l (run.at (suc k))) (sym is)
              (run_on sectors honest history old (run.from k) (run.at (suc k)) (take k happenings) (happening_at happenings k) before.0 goes),
          subst (λ (l : List Happening). ShowsRun start older old.kept_journal.edits l (run.at (suc k))) (sym is)
              (shows_next old (run.from k) (run.at (suc k)) start older old.kept_journal.edits (take k happenings) (happening_at happenings k) before.0 goes
              (honest_at (suc k) le) up before.1),
        )

    -- What a call listed was acknowledged before it.
    pub listed_acknowledged : (index number : ℕ) (records : List RecordData) → index < length happenings
        → IsListed start happenings index number records → AreNumbered start number records (all_edits start (take index happenings))
    listed_acknowledged index number records lt listed =
        let shown = (read_from index (omega (arith, lt)) (reached_at index (omega (arith, lt)))).1 in
        let edits : List RecordedEdit = all_edits start (take index happenings) in
        let forgotten : ℕ = (run.from index).kept_journal.edits in
        let found : ListsFrom forgotten (drop shown.count (older ++ edits)) (list_edits number listed.bytes (Ok records)) =
        subst (ListsFrom forgotten (drop shown.count (older ++ edits))) listed.is
        ((run.takes index lt).listed (drop shown.count (older ++ edits)) shown.shows (honest_at (suc index) (omega (arith, lt)))) in
        let there = there_of_all records (older ++ edits) shown.count listed.bytes (number - (forgotten + 1)) found.1 in
        let behind : shown.count + (number - (forgotten + 1)) ≡ length older + (number - (start.edits + 1)) =
        omega (arith, shown.forgotten, found.0, listed.after, older_count (sectors old.disk) (history old.disk) start old up) in
        there ∙ ap (λ (l : List RecordedEdit). map record_for (take (length records) l))
        (ap (λ (n : ℕ). drop n (older ++ edits)) behind ∙ drop_first older edits (number - (start.edits + 1)))

    -- So it is among the first edits of an image from then on.
    pub listed_stays : (k m : ℕ) → k ≤ m → m ≤ length happenings → (count : ℕ) (image : Image)
        (fits : ImageFits count old.size start way (take m happenings) k image) → HasListed start (take m happenings) k (take fits.i fits.edits)
    listed_stays k m order within count image fits index number records lt listed =
        let here : take index (take m happenings) ≡ take index happenings = take-take index m happenings (omega (arith, lt, order)) in
        let then_listed : IsListed start happenings index number records = record {
          bytes = listed.bytes;
          is = sym (get_or-take m happenings index (look 0 no_memory) (omega (arith, lt, order))) ∙ listed.is;
          after = listed.after;
        } in
        let first : List RecordedEdit = all_edits start (take index (take m happenings)) in
        let more = edits_split (take m happenings) index fits.edits fits.are_edits in
        let le : length first ≤ fits.i =
        omega (arith, all_of_more start (take m happenings) index k (omega (arith, lt)), fits.acknowledged_then) in
        subst (AreNumbered start number records) (taken_split first more.0 fits.i le ∙ ap (take fits.i) (sym more.1))
        (there_with records first (take (fits.i - length first) more.0) (number - (start.edits + 1))
        (subst (λ (l : List Happening). AreNumbered start number records (all_edits start l)) (sym here)
        (listed_acknowledged index number records (omega (arith, lt, order, within)) then_listed)))
      where
        edits_split : (hs : List Happening) (i : ℕ) (edits : List RecordedEdit) → AreEditsOf start hs edits
            → (rest : List RecordedEdit) × (edits ≡ all_edits start (take i hs) ++ rest)
        edits_split hs i edits (inl is) = let more = all_split_at start hs i in (more.0, is ∙ more.1)
        edits_split hs i edits (inr w) = let more = all_split_at start hs i in (
          more.0 ++ w.0 ∷ [],
          w.2 ∙ ap (λ (l : List RecordedEdit). l ++ w.0 ∷ []) more.1 ∙ append_assoc (all_edits start (take i hs)) more.0 (w.0 ∷ []),
        )

        taken_split : {A : Type 0} (xs ys : List A) (n : ℕ) → length xs ≤ n → xs ++ take (n - length xs) ys ≡ take n (xs ++ ys)
        taken_split [] ys n le = let all : n - 0 ≡ n = omega arith in ap (λ (m : ℕ). take m ys) all
        taken_split (x ∷ xs) ys zero le = absurd (omega (arith, le))
        taken_split (x ∷ xs) ys (suc n) le = let one : suc n - suc (length xs) ≡ n - length xs = omega arith in
            ap (λ l. x ∷ l) (ap (λ (m : ℕ). xs ++ take m ys) one ∙ taken_split xs ys n (omega (arith, le)))

    pub keeps_listed : (k m : ℕ) → k ≤ m → m ≤ length happenings → (image : Image)
        → LeftSince (history (run.at m).disk) (moment (history (run.at k).disk)) image
        → KeepsListed (sectors old.disk) old.size start way (take m happenings) k image
    keeps_listed k m order within image left =
        let fits = (run.any_moment start is_honest up).fits k m order within image left in
        record { fits = fits; listed = listed_stays k m order within (sectors old.disk) image fits }

  pub first_edits : (start : Stored) (old new : ServiceView D) (happenings : List Happening) (k m : ℕ) (disk : D)
      → WasStoppedBetweenReads sectors honest history start old happenings new k m disk
      → (service : ServiceView D)
      → ((n : ℕ) (stored : Stored) → Holds (sectors disk) n stored (seen (history disk)) → IsUp (sectors service.disk) (history service.disk) stored service)
      → HasSomeFirst (sectors service.disk) (history service.disk) start (way_of start.edits old.publication) (take m happenings) k service
  first_edits start old new happenings k m disk was service opened =
      let kept : KeepsListed (sectors disk) old.size start (way_of start.edits old.publication) (take m happenings) k (seen (history disk)) =
      subst (λ (count : ℕ). KeepsListed count old.size start (way_of start.edits old.publication) (take m happenings) k (seen (history disk)))
      (sym was.size)
      (keeps_listed old new start happenings was.run was.honest_to_its_end was.begins k m was.order was.within (seen (history disk)) was.left) in
      let stored : Stored = fitting start kept.fits.edits kept.fits.i kept.fits.j kept.fits.fits.0 kept.fits.fits.1 kept.fits.fits.2 in
      opens_to_first sectors honest history start (way_of start.edits old.publication) (take m happenings) k (sectors disk) old.size disk service kept.fits
      kept.listed (opened old.size stored kept.fits.fits.3)
