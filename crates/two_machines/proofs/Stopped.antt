-- What the disks of a leader and of its standby hold after they were stopped.
use Rattle.std.proofs.Common.{◌≡◌, inl, inr, ℕ, zero, suc, ◌<◌, ◌≤◌, ◌+◌, ◌-◌, List, [], ◌∷◌, ◌++◌, length, take, drop, Err}
use Rattle.std.proofs.Common.{sym, ap, subst, ◌∙◌, arith, append_assoc, take-append-drop}
use Rattle.std.proofs.lemmas.List.{map-append, length-append, length-map, length-take-le, length-drop, take-take, get_or-take}
use Rattle.std.proofs.lemmas.List.Sums.{fold-append}
use Rattle.sector_disk.specs.Disk.{History, Image, seen}
use Rattle.edit_text.specs.Recorded.{RecordedEdit}
use Rattle.feature_model.specs.Data.{EditData}
use Rattle.feature_store.specs.Store.{FeatureMap, after}
use Rattle.tile_service.specs.After.{made, after as after_recorded}
use Rattle.tile_service.specs.declared.fault.ServiceFault.TheVariants.{Device}
use Rattle.tile_service.specs.Machine.{no_memory, Happening, edit, look}
use Rattle.tile_service.specs.Runs.{acknowledged, happening_at, all_edits, way_of, AreEditsOf, ImageFits, fitting, IsDoubtful}
use Rattle.tile_service.specs.Service.{ServiceView}
use Rattle.tile_service.specs.Stored.{Stored, map_of, last_of}
use Rattle.tile_service.proofs.Runs.Progress.{all_split_at}
use Rattle.service_laws.specs.Moments.{WasStoppedBetweenReads}
use Rattle.two_machines.specs.Standby.{HasFirstEdits, IsEditOf}
use Rattle.map_replies.specs.Feed.{changes_of}
use Rattle.two_machines.specs.Machines.{AreGiven, leader_edits, HoldsFirst, HoldOneMap}
use Rattle.two_machines.proofs.Lists.{AreNext, next_first, some_next, one_more_next, given_next, given_at, after_changes}
use Rattle.two_machines.proofs.Quiet.{quiet}

-- ---- lists

taken_behind : (xs ys : List RecordedEdit) (n : ℕ) → length xs ≤ n → take n (xs ++ ys) ≡ xs ++ take (n - length xs) ys
taken_behind [] ys n le = let all : n ≡ n - 0 = omega arith in ap (λ (k : ℕ). take k ys) all
taken_behind (x ∷ xs) ys zero le = absurd (omega (arith, le))
taken_behind (x ∷ xs) ys (suc n) le =
    let one : n - length xs ≡ suc n - suc (length xs) = omega arith in
    ap (λ l. x ∷ l) (taken_behind xs ys n (omega (arith, le)) ∙ ap (λ (k : ℕ). xs ++ take k ys) one)

fitting_map : (m : FeatureMap) (es : List RecordedEdit) (i j : ℕ) → j ≤ i
    → after_recorded (after_recorded m (take j es)) (drop j (take i es)) ≡ after_recorded m (take i es)
fitting_map m es i j le =
    ap (λ (xs : List RecordedEdit). after_recorded (after_recorded m xs) (drop j (take i es))) (sym (take-take j i es le))
    ∙ sym (fold-append made m (take j (take i es)) (drop j (take i es))) ∙ ap (after_recorded m) (take-append-drop j (take i es))

fitting_last : (first i j : ℕ) (es : List RecordedEdit) → j ≤ i → i ≤ length es → first + j + length (drop j (take i es)) ≡ first + i
fitting_last first i j es order within = omega (arith, order, length-drop j (take i es), length-take-le i es within)

first_more : (m : FeatureMap) (first : ℕ) (edits more : List EditData) (f : FeatureMap) (last : ℕ) → HasFirstEdits m first edits f last
    → HasFirstEdits m first (edits ++ more) f last
first_more m first edits more f last has = record {
  done = has.done;
  more = has.more ++ more;
  are = ap (λ (l : List EditData). l ++ more) has.are ∙ append_assoc has.done has.more more;
  last_is = has.last_is;
  features_are = has.features_are;
}

edits_split : (start : Stored) (hs : List Happening) (i : ℕ) (edits : List RecordedEdit) → AreEditsOf start hs edits
    → (rest : List RecordedEdit) × (edits ≡ all_edits start (take i hs) ++ rest)
edits_split start hs i edits (inl is) = let more = all_split_at start hs i in (more.0, is ∙ more.1)
edits_split start hs i edits (inr w) = let more = all_split_at start hs i in (
  more.0 ++ w.0 ∷ [],
  w.2 ∙ ap (λ (l : List RecordedEdit). l ++ w.0 ∷ []) more.1 ∙ append_assoc (all_edits start (take i hs)) more.0 (w.0 ∷ []),
)

module _ {D : Type 0} (sectors : D → ℕ) (honest : D → Type 0) (history : D → History) (start : Stored) (old new : ServiceView D)
    (happenings : List Happening) (k n : ℕ) (disk : D) (was : WasStoppedBetweenReads sectors honest history start old happenings new k n disk) where
  abbrev Fitting : Type 0
  Fitting = ImageFits (sectors disk) old.size start (way_of start.edits old.publication) (take n happenings) k (seen (history disk))

  pub fitting_disk : Fitting
  fitting_disk =
      subst (λ (count : ℕ). ImageFits count old.size start (way_of start.edits old.publication) (take n happenings) k (seen (history disk)))
      (sym was.size) ((was.run.any_moment start was.honest_to_its_end was.begins).fits k n was.order was.within (seen (history disk)) was.left)

  abbrev stored_of : Fitting → Stored
  stored_of fits = fitting start fits.edits fits.i fits.j fits.fits.0 fits.fits.1 fits.fits.2

  stored_map : (fits : Fitting) → map_of (stored_of fits) ≡ after_recorded start.snapshot_map (take fits.i fits.edits)
  stored_map fits = fitting_map start.snapshot_map fits.edits fits.i fits.j fits.order

  stored_last : (fits : Fitting) → last_of (stored_of fits) ≡ start.edits + fits.i
  stored_last fits = fitting_last start.edits fits.i fits.j fits.edits fits.order fits.within

  then_taken : take k (take n happenings) ≡ take k happenings
  then_taken = take-take k n happenings was.order

  -- all that was acknowledged by then is there
  least : (fits : Fitting) → length (all_edits start (take k happenings)) ≤ fits.i
  least fits = subst (λ (l : List Happening). length (all_edits start l) ≤ fits.i) then_taken fits.acknowledged_then

  kept : (fits : Fitting) → last_of start + length (acknowledged (take k happenings)) ≤ last_of (stored_of fits)
  kept fits = omega (arith, least fits, length-append start.since (acknowledged (take k happenings)), stored_last fits)

  -- ---- the standby

  module _ (m : FeatureMap) (first : ℕ) (edits : List EditData) (has : HasFirstEdits m first edits (map_of start) (last_of start))
      (given : AreGiven first edits (last_of start) (take n happenings)) where
    abbrev Nexts : List RecordedEdit → Type 0
    Nexts all = (rest : List RecordedEdit) × (all ≡ start.since ++ rest) × AreNext m first edits (last_of start) rest

    -- all edits of the run are the leader's next ones
    nexts : (all : List RecordedEdit) → AreEditsOf start (take n happenings) all → Nexts all
    nexts all (inl is) = (acknowledged (take n happenings), is, given_next m first edits (last_of start) (take n happenings) given)
    nexts all (inr (e, doubt, is)) =
        let lt : doubt.index < n = omega (arith, doubt.within, length-take-le n happenings was.within) in
        let it : happening_at happenings doubt.index ≡ edit doubt.call e (Err Device) =
        sym (get_or-take n happenings doubt.index (look 0 no_memory) lt) ∙ doubt.is in
        let none = (quiet sectors honest history old new happenings was.run start doubt.index (n - suc doubt.index) n (omega (arith, lt)) was.within
        (subst IsDoubtful (sym it) tt)).1 in
        let here : take doubt.index (take n happenings) ≡ take doubt.index happenings = take-take doubt.index n happenings (omega (arith, lt)) in
        let count : length (acknowledged (take doubt.index (take n happenings))) ≡ length (acknowledged (take n happenings)) = omega (
          arith,
          ap length none,
          ap (λ (l : List Happening). length (acknowledged l)) here,
          length-append start.since (acknowledged (take n happenings)),
          length-append start.since (acknowledged (take doubt.index happenings)),
        ) in (
          acknowledged (take n happenings) ++ e ∷ [],
          is ∙ append_assoc start.since (acknowledged (take n happenings)) (e ∷ []),
          one_more_next m first edits (last_of start) (acknowledged (take n happenings)) e
              (given_next m first edits (last_of start) (take n happenings) given)
              (subst (λ (c : ℕ). IsEditOf first edits (last_of start + c + 1) e.changes) count
              (given_at m first edits (last_of start) doubt.index (take n happenings) doubt.call e (Err Device) given doubt.within doubt.is)),
        )

    behind : (fits : Fitting) → HasFirstEdits m first edits (map_of (stored_of fits)) (last_of (stored_of fits))
    behind fits =
        let next = nexts fits.edits fits.are_edits in
        let old_count : length start.since ≤ fits.i = omega (arith, least fits, length-append start.since (acknowledged (take k happenings))) in
        let part : List RecordedEdit = take (fits.i - length start.since) next.0 in
        let parts : take fits.i fits.edits ≡ start.since ++ part = ap (take fits.i) next.1 ∙ taken_behind start.since next.0 fits.i old_count in
        let map_is : after_recorded (map_of start) part ≡ map_of (stored_of fits) =
        sym (stored_map fits ∙ ap (after_recorded start.snapshot_map) parts ∙ fold-append made start.snapshot_map start.since part) in
        let last_is : last_of start + length part ≡ last_of (stored_of fits) = omega (
          arith,
          stored_last fits,
          ap length parts,
          length-append start.since part,
          length-take-le fits.i fits.edits fits.within,
        ) in
        let made_all = next_first m first edits (map_of start) (last_of start) part has
        (some_next m first edits (last_of start) (fits.i - length start.since) next.0 next.2) in
        subst (λ (l : ℕ). HasFirstEdits m first edits (map_of (stored_of fits)) l) last_is
        (subst (λ (f : FeatureMap). HasFirstEdits m first edits f (last_of start + length part)) map_is made_all)

    pub stays_behind : HoldsFirst (sectors disk) old.size m first edits (last_of start + length (acknowledged (take k happenings))) (seen (history disk))
    stays_behind = let fits = fitting_disk in record {
      stored = stored_of fits;
      holds = fits.fits.3;
      has = behind fits;
      acknowledged_then = kept fits;
    }

  -- ---- the leader

  pub one_map : (other_sectors other_n other_least : ℕ) (other_image : Image)
      → HoldsFirst other_sectors other_n start.snapshot_map start.edits (leader_edits start (take k happenings)) other_least other_image
      → HoldOneMap start.snapshot_map start.edits (sectors disk) old.size (seen (history disk)) other_sectors other_n other_image
      (last_of start + length (acknowledged (take k happenings))) other_least
  one_map other_sectors other_n other_least other_image other =
      let fits = fitting_disk in
      let given : List RecordedEdit = all_edits start (take k happenings) in
      let split = edits_split start (take n happenings) k fits.edits fits.are_edits in
      let whole : fits.edits ≡ given ++ split.0 = split.1 ∙ ap (λ (l : List Happening). all_edits start l ++ split.0) then_taken in
      let all : List RecordedEdit = take fits.i fits.edits in
      let parts : all ≡ given ++ take (fits.i - length given) split.0 = ap (take fits.i) whole ∙ taken_behind given split.0 fits.i (least fits) in
      let changes : changes_of given ++ changes_of (take (fits.i - length given) split.0) ≡ changes_of all =
      sym (ap changes_of parts ∙ map-append (λ (e : RecordedEdit). e.changes) given (take (fits.i - length given) split.0)) in
      record {
        leader = stored_of fits;
        standby = other.stored;
        leader_holds = fits.fits.3;
        standby_holds = other.holds;
        one = record {
          edits = changes_of all;
          leader_map = stored_map fits ∙ after_changes start.snapshot_map all;
          leader_last = omega (
            arith,
            stored_last fits,
            length-map all (λ (e : RecordedEdit). e.changes),
            length-take-le fits.i fits.edits fits.within,
          );
          standby_has = subst (λ (es : List EditData). HasFirstEdits start.snapshot_map start.edits es (map_of other.stored) (last_of other.stored)) changes
              (first_more start.snapshot_map start.edits (changes_of given) (changes_of (take (fits.i - length given) split.0)) (map_of other.stored)
              (last_of other.stored) other.has);
        };
        leader_kept = kept fits;
        standby_kept = other.acknowledged_then;
      }
