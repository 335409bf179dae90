-- The invariants of a service are preserved when its journal gets one more record, and when it gets none.
use Rattle.std.specs.Prelude.{Option, None, Some, IfSome, option_map}
use Rattle.std.proofs.Common.{◌≡◌, ◌≢◌, Bool, true, false, Err, refl, ap, ℕ, ◌<◌, ◌≤◌, ◌+◌, ◌-◌, ◌*◌, List, length, ◌∙◌, sym, subst, arith}
use Rattle.sector_disk.specs.declared.disk.TheConstants.{SECTOR_BYTES}
use Rattle.generations.specs.Areas.{area_sectors, sectors_of}
use Rattle.generations.specs.declared.root.Root.{Root}
use Rattle.edit_journal.specs.Appends.{ring_of, start_of}
use Rattle.edit_journal.specs.Kept.{GoesBack}
use Rattle.edit_journal.specs.Records.{IsRecordLength, parts_of}
use Rattle.edit_journal.specs.declared.journal.Journal.{Journal}
use Rattle.edit_journal.specs.declared.sizes.TheConstants.{PART_BYTES}
use Rattle.edit_journal.proofs.Releases.{append_is_behind, append_counted}
use Rattle.cached_map.specs.Cached.{CachedView}
use Rattle.feature_store.specs.Moments.{MomentView, IsMomentOf, moment_map}
use Rattle.feature_store.specs.Store.{FeatureMap, snapshot}
use Rattle.edit_journal.specs.Appends.{IsAppendFault}
use Rattle.edit_journal.specs.declared.fault.JournalFault.{JournalFault}
use Rattle.edit_journal.specs.declared.fault.JournalFault.TheVariants as journals
use Rattle.edit_text.specs.Recorded.{RecordedEdit}
use Rattle.std.proofs.lemmas.Bool.{false≢true}
use Rattle.tile_service.specs.Inside.{service_view}
use Rattle.tile_service.specs.Machine.{ServiceState, Call, Accepts, IsWanted, AnswersEdit, places_for, after_fault}
use Rattle.tile_service.specs.Service.{PublicationView, IsGoing, IsGoingDraft, IsService, Known, map_then, drafted_by, state_of, told_as}
use Rattle.tile_service.specs.declared.drafting.Draft.{Draft}
use Rattle.tile_service.specs.declared.fault.ServiceFault.TheVariants.{Device}
use Rattle.tile_service.specs.declared.metadata_steps.MapMetadata.{MapMetadata}
use Rattle.tile_service.specs.declared.service.Service.TheInside.{Inside}

-- the texts of a map take the bytes of an area and of this many places
abbrev pub AreShort : FeatureMap → (area places : ℕ) → Type 0
AreShort m area places = length (snapshot m) ≤ area + PART_BYTES * places

-- The record has this many bytes, and the map after the edit is longer by no more than its places.
module _ (size version : ℕ) (root : Root) (old new : Journal) (ring : ring_of new ≡ ring_of old)
    (from : start_of new.place new.edits ≡ start_of old.place old.edits) (bytes : ℕ) (fits : IsRecordLength version bytes)
    (used : new.used ≡ old.used + parts_of bytes) (last : new.last ≡ old.last + 1)
    (map later : CachedView) (numbered : later.last ≡ new.last)
    (longer : (area places : ℕ) → AreShort map.features area places → AreShort later.features area (places + parts_of bytes)) where
  texts_in : (area some next : ℕ) → some + parts_of bytes ≡ next → AreShort map.features area some → AreShort later.features area next
  texts_in area some next is was = subst (AreShort later.features area) is (longer area some was)

  texts_on : (some next : ℕ) → some + parts_of bytes ≡ next → AreShort map.features (SECTOR_BYTES * area_sectors size) some
      → AreShort later.features (SECTOR_BYTES * area_sectors size) next
  texts_on some next is was = texts_in (SECTOR_BYTES * area_sectors size) some next is was

  going_on : (publication : Option PublicationView) → IfSome publication (IsGoing size root old map.features)
      → IfSome publication (IsGoing size root new later.features)
  going_on None was = tt
  going_on (Some p) was = record {
    behind = append_is_behind old new ring from bytes version fits used last p.start p.places was.behind;
    area = was.area;
    written = was.written;
    generation = was.generation;
    texts = texts_on (old.used - p.places) (new.used - p.places) (omega (arith, used, was.behind.in_use)) was.texts;
  }

  drafts_on : (moment then : Option FeatureMap) (draft : Option Draft) → then ≡ moment
      → IfSome draft (λ d. (moment ≡ Some (map_then moment)) × IsGoingDraft size root old map.features (map_then moment) d)
      → IfSome draft (λ d. (then ≡ Some (map_then then)) × IsGoingDraft size root new later.features (map_then then) d)
  drafts_on moment then None same was = tt
  drafts_on moment then (Some d) same was =
      subst (λ (o : Option FeatureMap). (o ≡ Some (map_then o)) × IsGoingDraft size root new later.features (map_then o) d) (sym same) (
        was.0,
        record {
          behind = append_is_behind old new ring from bytes version fits used last d.start d.places was.1.behind;
          generation = was.1.generation;
          texts = texts_in (SECTOR_BYTES * sectors_of (length (snapshot (map_then moment)))) (old.used - d.places) (new.used - d.places)
              (omega (arith, used, was.1.behind.in_use)) was.1.texts;
          stage = was.1.stage;
          added = was.1.added;
        },
      )

  -- A moment that is still asked for is one of the map after the edit, too.
  pub service_on : (sectors now : ℕ) (publication : Option PublicationView) (known : Option MapMetadata) (moment then : Option MomentView)
      (draft : Option Draft) (kept_journal later_kept : Journal) → now ≡ sectors → moment_map then ≡ moment_map moment
      → (IsMomentOf moment map.features → IsMomentOf then later.features)
      → GoesBack later_kept new → IsService sectors size version root old kept_journal map publication known moment draft
      → IsService now size version root new later_kept later publication None then draft
  service_on sectors now publication known moment then draft kept_journal later_kept same same_moment as_of back was = record {
    within = omega (arith, was.within, same);
    version_is = was.version_is;
    ring = ring ∙ was.ring;
    area = was.area;
    texts = texts_on old.used new.used (omega (arith, used)) was.texts;
    counted = append_counted old new ring from bytes version fits used last was.counted;
    last_is = numbered;
    back = back;
    going = going_on publication was.going;
    told = tt;
    as_of = as_of was.as_of;
    drafts = drafts_on (moment_map moment) (moment_map then) draft same_moment was.drafts;
  }

-- A draft is of the map of its moment, whatever the moment kept.
pub same_drafted : (old new : Option MomentView) (draft : Option Draft) → moment_map new ≡ moment_map old → drafted_by new draft ≡ drafted_by old draft
same_drafted old new draft same =
    ap (λ (o : Option FeatureMap). option_map (λ (d : Draft). record { start = d.start; places = d.places; features = map_then o }) draft) same

-- After an edit that is refused the invariants hold as before, with more memory for features.
pub refused_service : {sectors now size version : ℕ} {root : Root} {old kept_journal : Journal} {publication : Option PublicationView} {known : Option MapMetadata}
    {moment : Option MomentView} {draft : Option Draft} (new later_kept : Journal) (map later : CachedView) → now ≡ sectors → new ≡ old
    → GoesBack later_kept new → later ≡ record map { spare = later.spare }
    → IsService sectors size version root old kept_journal map publication known moment draft
    → IsService now size version root new later_kept later publication known moment draft
refused_service {sectors} {now} {size} {version} {root} {old} {kept_journal} {publication} {known} {moment} {draft} new later_kept map later count kept back
    same is =
    subst (λ (n : ℕ). IsService n size version root new later_kept later publication known moment draft) (sym count)
    (subst (λ (j : Journal). IsService sectors size version root j later_kept later publication known moment draft) (sym kept)
    (subst (λ (m : CachedView). IsService sectors size version root old later_kept m publication known moment draft) (sym same) (record {
      within = is.within;
      version_is = is.version_is;
      ring = is.ring;
      area = is.area;
      texts = is.texts;
      counted = is.counted;
      last_is = is.last_is;
      back = subst (GoesBack later_kept) kept back;
      going = is.going;
      told = is.told;
      as_of = is.as_of;
      drafts = is.drafts;
    })))

-- ---- the numbers of an append

-- its edit is later than the last one
pub append_later : (last before number : ℕ) → last ≡ before → number ≡ before + 1 → last < number
append_later last before number is told = omega (arith, is, told)

-- it takes places that were free
module _ (places places_then used used_then parts need : ℕ) where
  pub append_room : used_then ≤ places_then → places_then ≡ places → used_then ≡ used + parts → parts ≡ need → need ≤ places - used
  append_room room same used_is need_is = omega (arith, room, same, used_is, need_is)

  pub append_free : places_then ≡ places → used_then ≡ used + parts → parts ≡ need → places_then - used_then ≡ places - used - need
  append_free same used_is need_is = omega (arith, same, used_is, need_is)

-- ---- a fault of an append

abbrev is_device : JournalFault → Bool
is_device journals.Device = true
is_device fault = false

other_fault : (fault : JournalFault) → is_device fault ≡ false → fault ≢ journals.Device
other_fault fault other is = false≢true (sym other ∙ ap is_device is)

-- the edit is refused for the fault that the journal returns
pub append_refuses : {D : Type 0} (known : Known) (inside : Inside D) (t : ServiceState) (call : Call) (e : RecordedEdit) (before after : ℕ)
    → inside.broken ≡ false → e.version ≡ inside.version → Accepts (state_of known (service_view inside)) call
    → IsWanted inside.map.features call e.changes → (fault : JournalFault)
    → IsAppendFault inside.journal (places_for e) before after fault → (fault ≢ journals.Device → t ≡ state_of known (service_view inside))
    → (fault ≡ journals.Device → t ≡ after_fault (state_of known (service_view inside)) Device)
    → AnswersEdit (state_of known (service_view inside)) call e (Err (told_as fault)) t
append_refuses known inside t call e before after unbroken version accepts wanted journals.NumbersSpent is same broke =
    (unbroken, (accepts, wanted, is.0), same (other_fault journals.NumbersSpent refl))
append_refuses known inside t call e before after unbroken version accepts wanted (journals.Full need free) is same broke = (
  unbroken,
  (record { version_is = version; accepts = accepts; wanted = wanted; number = is.0 }, is.1, is.2, is.3),
  same (other_fault (journals.Full need free) refl),
)
append_refuses known inside t call e before after unbroken version accepts wanted journals.Device is same broke =
    (unbroken, (record { version_is = version; accepts = accepts; wanted = wanted; number = is.0 }, is.1), broke refl)
append_refuses known inside t call e before after unbroken version accepts wanted journals.Memory is same broke = absurd is
append_refuses known inside t call e before after unbroken version accepts wanted journals.Damaged is same broke = absurd is
