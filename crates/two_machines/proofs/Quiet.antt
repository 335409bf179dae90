-- Nothing is acknowledged after a fault of the disk.
use Rattle.std.proofs.Common.{◌≡◌, ℕ, zero, suc, ◌<◌, ◌≤◌, ◌+◌, List, [], ◌++◌, length, take, true, Ok, refl, ap, subst, ◌∙◌, arith}
use Rattle.std.proofs.lemmas.List.{append-nil, take_more}
use Rattle.sector_disk.specs.Disk.{History}
use Rattle.edit_text.specs.Recorded.{RecordedEdit}
use Rattle.tile_service.specs.Machine.{no_memory, ServiceState, Happening, edit, look}
use Rattle.tile_service.specs.Runs.{edits_by, happening_at, all_edits, IsDoubtful, IsTrusted}
use Rattle.tile_service.specs.Service.{ServiceView, state_of, known_after}
use Rattle.tile_service.specs.Stored.{Stored}
use Rattle.tile_service.proofs.Runs.OneEvent.{no_known, broken_stays}
use Rattle.tile_service.proofs.Runs.Progress.{all_edits_on}
use Rattle.service_laws.specs.Moments.{TakesBetweenReads}

doubtful_edits : (h : Happening) → IsDoubtful h → edits_by h ≡ []
doubtful_edits (edit call e (Ok number)) doubt = absurd doubt
doubtful_edits h doubt = refl

module _ {D : Type 0} (sectors : D → ℕ) (honest : D → Type 0) (history : D → History) (old new : ServiceView D) (happenings : List Happening)
    (run : TakesBetweenReads sectors honest history old happenings new) (start : Stored) where
  quiet_call : (k : ℕ) → k < length happenings → (run.at k).broken ≡ true
      → ((run.at (suc k)).broken ≡ true) × (edits_by (happening_at happenings k) ≡ [])
  quiet_call k lt broken =
      let then : (run.from k).broken ≡ true = ap (λ (s : ServiceView D). s.broken) (run.reads k (omega (arith, lt))).same ∙ broken in
      let stays = broken_stays (IsTrusted sectors honest history (run.from k) (run.at (suc k))) (state_of no_known (run.from k))
      (state_of (known_after no_known (run.from k) (happening_at happenings k)) (run.at (suc k))) (happening_at happenings k)
      ((run.takes k lt).machine no_known) then in
      (ap (λ (s : ServiceState). s.broken) stays.0 ∙ then, stays.1.edits_nothing)

  one_more : (k : ℕ) → k < length happenings → edits_by (happening_at happenings k) ≡ []
      → all_edits start (take (suc k) happenings) ≡ all_edits start (take k happenings)
  one_more k lt none =
      let next : suc k ≡ k + 1 = omega arith in
      ap (λ (n : ℕ). all_edits start (take n happenings)) next ∙ ap (all_edits start) (take_more happenings k (look 0 no_memory) lt)
      ∙ all_edits_on start (take k happenings) (happening_at happenings k)
      ∙ ap (λ (l : List RecordedEdit). all_edits start (take k happenings) ++ l) none ∙ append-nil (all_edits start (take k happenings))

  pub quiet : (index count k : ℕ) → k ≡ suc index + count → k ≤ length happenings → IsDoubtful (happening_at happenings index)
      → ((run.at k).broken ≡ true) × (all_edits start (take k happenings) ≡ all_edits start (take index happenings))
  quiet index zero k is within doubt =
      let here : suc index ≡ k = omega (arith, is) in
      subst (λ (n : ℕ). ((run.at n).broken ≡ true) × (all_edits start (take n happenings) ≡ all_edits start (take index happenings))) here (
        (run.takes index (omega (arith, is, within))).doubt doubt,
        one_more index (omega (arith, is, within)) (doubtful_edits (happening_at happenings index) doubt),
      )
  quiet index (suc count) zero is within doubt = absurd (omega (arith, is))
  quiet index (suc count) (suc k) is within doubt =
      let before = quiet index count k (omega (arith, is)) (omega (arith, within)) doubt in
      let call = quiet_call k (omega (arith, within)) before.0 in
      (call.0, one_more k (omega (arith, within)) call.1 ∙ before.1)
