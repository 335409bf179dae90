-- A standby has the leader's map after its first edits, and what a leader's feed tells are its edits.
use Rattle.std.proofs.Common.{◌≡◌, ◌≢◌, ◌⊎◌, inl, inr, ℕ, zero, suc, ◌<◌, ◌≤◌, ◌+◌, ◌-◌, List, [], ◌∷◌, ◌++◌, length, map, take, drop, Option, Some}
use Rattle.std.proofs.Common.{None, Result, Ok, Err, refl, sym, ap, subst}
use Rattle.std.proofs.Common.{◌∙◌, arith, append_assoc, take-append-drop}
use Rattle.std.proofs.lemmas.List.{map-append, length-append, length-map, length-drop, length-take-le}
use Rattle.std.specs.List.{All}
use Rattle.std.proofs.lemmas.List.Elements.{All-nil, All-cons, All-head, All-tail, All-drop}
use Rattle.std.proofs.lemmas.List.Sums.{fold-append}
use Rattle.http_serve.specs.Reply.{ReplyView}
use Rattle.sector_disk.specs.Disk.{History}
use Rattle.edit_journal.specs.Lists.{first_bytes}
use Rattle.edit_journal.specs.Records.{RecordData}
use Rattle.edit_text.specs.Recorded.{RecordedEdit, IsRecorded}
use Rattle.feature_model.specs.Data.{EditData}
use Rattle.feature_store.specs.Store.{FeatureMap, edited, after}
use Rattle.serde_json.specs.Data.{Data}
use Rattle.edit_json.specs.Batches.{IsBatch}
use Rattle.edit_json.proofs.BatchLaws.{batch-one}
use Rattle.tile_service.specs.Machine.{ServiceState, Happening, edit, batched, recorded_in, list_edits, AnswersEdit}
use Rattle.tile_service.specs.Service.{ShowsEdits}
use Rattle.tile_service.specs.Replayed.{AreRecordsFor}
use Rattle.tile_service.specs.Runs.{Takes, TakesAll}
use Rattle.tile_service.specs.Stored.{CanRecord, record_for}
use Rattle.tile_service.specs.Service.{ServiceView, status_of}
use Rattle.tile_service.specs.declared.fault.ServiceFault.{ServiceFault}
use Rattle.tile_service.specs.declared.fault.ServiceFault.TheVariants as services
use Rattle.tile_service.proofs.Disk.OneState.{one_run, all_recorded}
use Rattle.tile_service.proofs.Runs.OneEvent.{no_known}
use Rattle.map_replies.specs.Bodies.{SaysChanges}
use Rattle.map_replies.specs.Meanings.{MeansNumbered, MeansNumberedBatch}
use Rattle.map_replies.specs.Feed.{changes_of}
use Rattle.two_machines.specs.Standby.{HasFirstEdits, IsEditOf, SaysEditOf, AreLastOf}

-- ---- lists

-- two ways to part a list after as many elements are one
parts_same : (xs ys more : List EditData) (y : EditData) (later : List EditData) → xs ++ more ≡ ys ++ y ∷ later → length xs ≡ length ys
    → (xs ≡ ys) × (more ≡ y ∷ later)
parts_same [] [] more y later same many = (refl, same)
parts_same [] (b ∷ ys) more y later same many = absurd (omega (arith, many))
parts_same (a ∷ xs) [] more y later same many = absurd (omega (arith, many))
parts_same (a ∷ xs) (b ∷ ys) more y later same many =
    let rest = parts_same xs ys more y later (ap (drop 1) same) (omega (arith, many)) in
    (λ i. head_is i ∷ rest.0 i, rest.1)
  where
    head : List EditData → EditData
    head [] = []
    head (c ∷ cs) = c

    head_is : a ≡ b
    head_is = ap head same

-- ---- one edit

-- the next of the leader's edits was made
made_next : (m : FeatureMap) (first : ℕ) (edits : List EditData) (features after_it : FeatureMap) (last now : ℕ) (cs : EditData)
    → HasFirstEdits m first edits features last → IsEditOf first edits (last + 1) cs → now ≡ last + 1 → after_it ≡ edited features cs
    → HasFirstEdits m first edits after_it now
made_next m first edits features after_it last now cs has is now_is made =
    let many : length has.done ≡ length is.earlier = omega (arith, has.last_is, is.number_is) in
    let same = parts_same has.done is.earlier has.more cs is.later (sym has.are ∙ is.are) many in
    let count : length (has.done ++ cs ∷ []) ≡ length has.done + 1 = length-append has.done (cs ∷ []) in record {
      done = has.done ++ cs ∷ [];
      more = is.later;
      are = has.are ∙ ap (λ (rest : List EditData). has.done ++ rest) same.1 ∙ sym (append_assoc has.done (cs ∷ []) is.later);
      last_is = omega (arith, now_is, has.last_is, count);
      features_are = made ∙ ap (λ (f : FeatureMap). edited f cs) has.features_are ∙ sym (fold-append edited m has.done (cs ∷ []));
    }

-- after a refusal the map and the last number are as before
refused_state : (old new : ServiceState) (version : ℕ) (cs : EditData) (fault : ServiceFault)
    → AnswersEdit old batched (recorded_in version cs) (Err fault) new → (new.features ≡ old.features) × (new.last ≡ old.last)
refused_state old new version cs services.Broken is = (ap (λ (s : ServiceState). s.features) is.1, ap (λ (s : ServiceState). s.last) is.1)
refused_state old new version cs services.Device is = (ap (λ (s : ServiceState). s.features) is.2, ap (λ (s : ServiceState). s.last) is.2)
refused_state old new version cs services.Busy is = (ap (λ (s : ServiceState). s.features) is.2, ap (λ (s : ServiceState). s.last) is.2)
refused_state old new version cs services.Idle is = (ap (λ (s : ServiceState). s.features) is.2, ap (λ (s : ServiceState). s.last) is.2)
refused_state old new version cs services.NeedsUpgrade is = (ap (λ (s : ServiceState). s.features) is.2, ap (λ (s : ServiceState). s.last) is.2)
refused_state old new version cs (services.Limit limit) is = (ap (λ (s : ServiceState). s.features) is.2, ap (λ (s : ServiceState). s.last) is.2)
refused_state old new version cs services.NotFound is = (ap (λ (s : ServiceState). s.features) is.2, ap (λ (s : ServiceState). s.last) is.2)
refused_state old new version cs services.NumbersSpent is = (ap (λ (s : ServiceState). s.features) is.2, ap (λ (s : ServiceState). s.last) is.2)
refused_state old new version cs services.Memory is = (ap (λ (s : ServiceState). s.features) is.2, ap (λ (s : ServiceState). s.last) is.2)
refused_state old new version cs services.TooManyTiles is = (ap (λ (s : ServiceState). s.features) is.2, ap (λ (s : ServiceState). s.last) is.2)
refused_state old new version cs (services.AreaFull need free) is = (ap (λ (s : ServiceState). s.features) is.2, ap (λ (s : ServiceState). s.last) is.2)
refused_state old new version cs (services.JournalFull need free) is = (ap (λ (s : ServiceState). s.features) is.2, ap (λ (s : ServiceState). s.last) is.2)

module _ {D : Type 0} (sectors : D → ℕ) (honest : D → Type 0) (history : D → History) where
  -- the standby was asked for the leader's next edit
  asked_next : (m : FeatureMap) (first : ℕ) (edits : List EditData) (old new : ServiceView D) (cs : EditData) (outcome : Result ℕ ServiceFault)
      → HasFirstEdits m first edits old.features old.journal.last → IsEditOf first edits (old.journal.last + 1) cs
      → Takes sectors honest history old (edit batched (recorded_in old.version cs) outcome) new
      → HasFirstEdits m first edits new.features new.journal.last
  asked_next m first edits old new cs (Ok number) has is takes =
      let made = (takes.machine no_known).made in
      made_next m first edits old.features new.features old.journal.last new.journal.last cs has is
      (ap (λ (s : ServiceState). s.last) made) (ap (λ (s : ServiceState). s.features) made)
  asked_next m first edits old new cs (Err fault) has is takes =
      let same = refused_state _ _ old.version cs fault (takes.machine no_known) in record {
        done = has.done;
        more = has.more;
        are = has.are;
        last_is = same.1 ∙ has.last_is;
        features_are = same.0 ∙ has.features_are;
      }

  -- nothing happened
  none_happened : (m : FeatureMap) (first : ℕ) (edits : List EditData) (old new : ServiceView D) (happenings : List Happening)
      → HasFirstEdits m first edits old.features old.journal.last → happenings ≡ [] → TakesAll sectors honest history old happenings new
      → HasFirstEdits m first edits new.features new.journal.last
  none_happened m first edits old new happenings has none takes =
      let same : new ≡ old = subst (λ (h : List Happening). TakesAll sectors honest history old h new) none takes in
      subst (λ (s : ServiceView D). HasFirstEdits m first edits s.features s.journal.last) (sym same) has

  said_next : (failed : Type 0) (m : FeatureMap) (first : ℕ) (edits : List EditData) (query : List ℕ) (number : ℕ) (cs : EditData) (reply : ReplyView)
      (happenings : List Happening) (old new : ServiceView D) → HasFirstEdits m first edits old.features old.journal.last
      → IsEditOf first edits number cs → MeansNumbered failed (status_of old) query number cs reply happenings
      → TakesAll sectors honest history old happenings new → HasFirstEdits m first edits new.features new.journal.last
  said_next failed m first edits query number cs reply happenings old new has is (inl (next, inl (agreed, asked))) takes =
      let all = subst (λ (h : List Happening). TakesAll sectors honest history old h new) asked.3 takes in
      subst (λ (s : ServiceView D). HasFirstEdits m first edits s.features s.journal.last) (sym all.2)
      (asked_next m first edits old all.0 cs asked.0 has (subst (λ (n : ℕ). IsEditOf first edits n cs) next is) all.1)
  said_next failed m first edits query number cs reply happenings old new has is (inl (next, inr other)) takes =
      none_happened m first edits old new happenings has other.1.1 takes
  said_next failed m first edits query number cs reply happenings old new has is (inr other) takes =
      none_happened m first edits old new happenings has other.2 takes

  -- a body says one list of changes
  one_said : (body : List ℕ) (cs others : EditData) → SaysChanges body cs → SaysChanges body others → cs ≡ others
  one_said body cs others is too =
      batch-one is.value cs others is.batch (subst (λ (d : Data). IsBatch d others) (some_is (sym too.json.1 ∙ is.json.1)) too.batch)
    where
      value_in : Option Data → Data
      value_in None = is.value
      value_in (Some d) = d

      some_is : Some too.value ≡ Some is.value → too.value ≡ is.value
      some_is same = ap value_in same

  -- whatever the reply to the leader's edit is, the standby has the leader's map after its first edits
  pub keeps_first_edits : (failed : Type 0) (m : FeatureMap) (first : ℕ) (edits : List EditData) (query : List ℕ) (number : ℕ) (body : List ℕ)
      (reply : ReplyView) (happenings : List Happening) (old new : ServiceView D) → HasFirstEdits m first edits old.features old.journal.last
      → SaysEditOf first edits number body → MeansNumberedBatch failed (status_of old) query number body reply happenings
      → TakesAll sectors honest history old happenings new → HasFirstEdits m first edits new.features new.journal.last
  keeps_first_edits failed m first edits query number body reply happenings old new has says (inl (cs, said, means)) takes =
      said_next failed m first edits query number cs reply happenings old new has
      (subst (IsEditOf first edits number) (one_said body says.0 cs says.1 said) says.2) means takes
  keeps_first_edits failed m first edits query number body reply happenings old new has says (inr (inl refused)) takes =
      none_happened m first edits old new happenings has refused.2.1 takes
  keeps_first_edits failed m first edits query number body reply happenings old new has says (inr (inr refused)) takes =
      none_happened m first edits old new happenings has refused.1 takes

-- ---- the feed

-- the first records that are read are those of the first edits
first_edits : (bytes : ℕ) (es : List RecordedEdit)
    → (part : List RecordedEdit) × (rest : List RecordedEdit) × (es ≡ part ++ rest) × (first_bytes bytes (map record_for es) ≡ map record_for part)
first_edits bytes [] = ([], [], refl, refl)
first_edits zero (e ∷ es) = ([], e ∷ es, refl, refl)
first_edits (suc bytes) (e ∷ es) =
    let more = first_edits (suc bytes - length (record_for e).text) es in (
      e ∷ more.0,
      more.1,
      ap (λ (xs : List RecordedEdit). e ∷ xs) more.2,
      ap (λ (rs : List RecordData). record_for e ∷ rs) more.3,
    )

all_of_part : (xs ys : List RecordedEdit) → All IsRecorded (xs ++ ys) → All IsRecorded xs
all_of_part [] ys all = All-nil IsRecorded
all_of_part (x ∷ xs) ys all =
    All-cons IsRecorded x xs (All-head IsRecorded x (xs ++ ys) all) (all_of_part xs ys (All-tail IsRecorded x (xs ++ ys) all))

-- the edit behind others of those that are told, among all edits
told_there : (first : ℕ) (edits : List EditData) (forgotten number : ℕ) (shown told rest earlier later : List RecordedEdit) (e : RecordedEdit)
    → AreLastOf first edits forgotten shown → forgotten < number → drop (number - (forgotten + 1)) shown ≡ told ++ rest → told ≡ earlier ++ e ∷ later
    → IsEditOf first edits (number + length earlier) e.changes
told_there first edits forgotten number shown told rest earlier later e last above left is =
    let k = number - (forgotten + 1) in
    let behind : drop k shown ≡ earlier ++ e ∷ (later ++ rest) =
    left ∙ ap (λ (xs : List RecordedEdit). xs ++ rest) is ∙ append_assoc earlier (e ∷ later) rest in
    let count : length (drop k shown) ≡ length earlier + suc (length (later ++ rest)) =
    ap length behind ∙ length-append earlier (e ∷ (later ++ rest)) in
    let within : k ≤ length shown = omega (arith, count, length-drop k shown) in
    let whole : shown ≡ take k shown ++ (earlier ++ e ∷ (later ++ rest)) =
    sym (take-append-drop k shown) ∙ ap (λ (xs : List RecordedEdit). take k shown ++ xs) behind in
    let before = changes_of (take k shown) in
    let among = changes_of earlier in record {
      earlier = (last.before ++ before) ++ among;
      later = changes_of (later ++ rest);
      are = last.are ∙ ap (λ (xs : List RecordedEdit). last.before ++ changes_of xs) whole
          ∙ ap (λ (xs : List EditData). last.before ++ xs)
          (map-append (λ (x : RecordedEdit). x.changes) (take k shown) (earlier ++ e ∷ (later ++ rest))
          ∙ ap (λ (xs : List EditData). before ++ xs) (map-append (λ (x : RecordedEdit). x.changes) earlier (e ∷ (later ++ rest))))
          ∙ sym (append_assoc last.before before (among ++ e.changes ∷ changes_of (later ++ rest)))
          ∙ sym (append_assoc (last.before ++ before) among (e.changes ∷ changes_of (later ++ rest)));
      number_is = omega (
        arith,
        last.forgotten_is,
        above,
        within,
        length-append (last.before ++ before) among,
        length-append last.before before,
        length-map (take k shown) (λ (x : RecordedEdit). x.changes),
        length-map earlier (λ (x : RecordedEdit). x.changes),
        length-take-le k shown within,
      );
    }

module _ {D : Type 0} (sectors : D → ℕ) (honest : D → Type 0) (history : D → History) where
  -- what is told under a number is the edit of that number
  pub told_are_edits : (first : ℕ) (edits : List EditData) (number bytes : ℕ) (old new : ServiceView D) (shown told earlier later : List RecordedEdit)
      (e : RecordedEdit) (records : List RecordData) → ShowsEdits (history old.disk) old shown → AreLastOf first edits old.kept_journal.edits shown
      → honest new.disk → Takes sectors honest history old (list_edits number bytes (Ok records)) new → AreRecordsFor records told
      → old.kept_journal.edits < number → told ≡ earlier ++ e ∷ later → IsEditOf first edits (number + length earlier) e.changes
  told_are_edits first edits number bytes old new shown told earlier later e records shows last true takes are above is =
      let k = number - (old.kept_journal.edits + 1) in
      let parts = first_edits bytes (drop k shown) in
      let can : All (CanRecord old.version) (drop k shown) = All-drop (CanRecord old.version) k shown shows.are_edits in
      let recorded = all_recorded old.version (drop k shown) can in
      let of_part : All IsRecorded parts.0 =
      all_of_part parts.0 parts.1 (subst (All IsRecorded) parts.2 recorded) in
      let same : told ≡ parts.0 =
      one_run told parts.0 are.are_recorded of_part (sym are.are_records ∙ (takes.listed shown shows true).1 ∙ parts.3) in
      told_there first edits old.kept_journal.edits number shown told parts.1 earlier later e last above
      (parts.2 ∙ ap (λ (xs : List RecordedEdit). xs ++ parts.1) (sym same)) is
