-- A run by the states of the service.
use Rattle.std.proofs.Common.{◌≡◌, ⊎_elim, ℕ, suc, ◌<◌, ◌+◌, List, [], ◌∷◌, ◌++◌, length, refl, sym, ◌∙◌, ap, subst, arith, append_assoc}
use Rattle.std.proofs.lemmas.Bool.{cases_eq}
use Rattle.std.proofs.lemmas.List.{append-nil}
use Rattle.sector_disk.specs.Disk.{History}
use Rattle.tile_service.specs.Machine.{no_memory, Happening, look}
use Rattle.tile_service.specs.Runs.{happening_at, way_of, RunFits, Takes, TakesAll, TakesStates}
use Rattle.tile_service.specs.Service.{ServiceView, IsUp}
use Rattle.tile_service.specs.Stored.{Stored}
use Rattle.tile_service.proofs.Runs.Callers.{HasRun, run_begins, run_on, begins_by, on_by}
use Rattle.tile_service.proofs.Runs.DiskAfter.{below, last_is, one_more, by_next, by_next_before, by_next_last, by_next_part, run_fits}

module _ {D : Type 0} (sectors : D → ℕ) (honest : D → Type 0) (history : D → History) where
  -- some events so far, and the service when the first k of them had returned
  record Passes (old : ServiceView D) (events : List Happening) (now : ServiceView D) : Type 0 where
    pub run : HasRun sectors honest history old events now
    pub at : ℕ → ServiceView D
    pub begins : at 0 ≡ old
    pub takes : (k : ℕ) → k < length events → Takes sectors honest history (at k) (happening_at events k) (at (suc k))
    pub ends : at (length events) ≡ now
    pub by_is : (stored : Stored) (is_honest : honest now.disk) (up : IsUp (sectors old.disk) (history old.disk) stored old) (k : ℕ)
        → (run.leaves stored is_honest up).by k ≡ history (at k).disk

  passes_none : (old : ServiceView D) → Passes old [] old
  passes_none old = record {
    run = run_begins sectors honest history old;
    at = λ k. old;
    begins = refl;
    takes = λ k lt. absurd (omega (arith, lt));
    ends = refl;
    by_is = begins_by sectors honest history old;
  }

  module _ (old now new : ServiceView D) (events : List Happening) (event : Happening) (so : Passes old events now)
      (goes : Takes sectors honest history now event new) where
    abbrev next_at : ℕ → ServiceView D
    next_at = by_next so.at (length events + 1) new

    at_before : (k : ℕ) → k < length events + 1 → next_at k ≡ so.at k
    at_before k lt = by_next_before so.at (length events + 1) new k (λ is. absurd (omega (arith, is, lt)))

    at_last : (k : ℕ) → k ≡ length events + 1 → next_at k ≡ new
    at_last k is = by_next_last so.at (length events + 1) new k is

    abbrev TakesOne : (from : ServiceView D) → Happening → (to : ServiceView D) → Type 0
    TakesOne from happening to = Takes sectors honest history from happening to

    -- the last of them
    last_taken : (k : ℕ) → k ≡ length events → TakesOne (next_at k) (happening_at (events ++ event ∷ []) k) (next_at (suc k))
    last_taken k is =
        let from : next_at k ≡ now = at_before k (omega (arith, is)) ∙ ap so.at is ∙ so.ends in
        let which : happening_at (events ++ event ∷ []) k ≡ event = last_is events event (look 0 no_memory) k is in
        subst (λ (s : ServiceView D). TakesOne s (happening_at (events ++ event ∷ []) k) (next_at (suc k))) (sym from)
        (subst (λ (h : Happening). TakesOne now h (next_at (suc k))) (sym which)
        (subst (λ (s : ServiceView D). TakesOne now event s) (sym (at_last (suc k) (omega (arith, is)))) goes))

    -- one of those before
    earlier_taken : (k : ℕ) → k < length events → TakesOne (next_at k) (happening_at (events ++ event ∷ []) k) (next_at (suc k))
    earlier_taken k lt =
        let which : happening_at (events ++ event ∷ []) k ≡ happening_at events k = below events (event ∷ []) k (look 0 no_memory) lt in
        subst (λ (s : ServiceView D). TakesOne s (happening_at (events ++ event ∷ []) k) (next_at (suc k))) (sym (at_before k (omega (arith, lt))))
        (subst (λ (h : Happening). TakesOne (so.at k) h (next_at (suc k))) (sym which)
        (subst (λ (s : ServiceView D). TakesOne (so.at k) (happening_at events k) s) (sym (at_before (suc k) (omega (arith, lt)))) (so.takes k lt)))

    passes_on : Passes old (events ++ event ∷ []) new
    passes_on = record {
      run = run_on sectors honest history old now new events event so.run goes;
      at = next_at;
      begins = at_before 0 (omega arith) ∙ so.begins;
      takes = λ k lt. ⊎_elim (last_taken k)
          (λ (sooner : k ≡ length events → ⊥). earlier_taken k (omega (arith, sooner, lt, one_more events event)))
          (cases_eq k (length events));
      ends = at_last (length (events ++ event ∷ [])) (one_more events event);
      by_is = λ stored is_honest up k. on_by sectors honest history old now new events event so.run goes stored is_honest up k
          ∙ by_next_part (λ (s : ServiceView D). history s.disk) (so.run.leaves stored (goes.asked.was_honest is_honest) up).by so.at
          (length events + 1) new (so.by_is stored (goes.asked.was_honest is_honest) up) k;
    }

  passes_all : (old now new : ServiceView D) (events more : List Happening) → Passes old events now
      → TakesAll sectors honest history now more new → Passes old (events ++ more) new
  passes_all old now new events [] so same = subst (λ (l : List Happening). Passes old l new) (sym (append-nil events))
      (subst (λ (s : ServiceView D). Passes old events s) (sym same) so)
  passes_all old now new events (event ∷ more) so goes =
      subst (λ (l : List Happening). Passes old l new) (append_assoc events (event ∷ []) more)
      (passes_all old goes.0 new (events ++ event ∷ []) more (passes_on old now goes.0 events event so goes.1) goes.2)

  -- The states of a chain.
  pub takes_states : (old : ServiceView D) (events : List Happening) (new : ServiceView D) → TakesAll sectors honest history old events new
      → TakesStates sectors honest history old events new
  takes_states old events new goes = let so = passes_all old old new [] events (passes_none old) goes in record {
    at = so.at;
    begins = so.begins;
    takes = so.takes;
    ends = so.ends;
    any_moment = λ stored is_honest up. subst
        (RunFits (sectors old.disk) old.size stored (way_of stored.edits old.publication) events (history old.disk) (history new.disk))
        (λ i k. so.by_is stored is_honest up k i)
        (run_fits (sectors old.disk) old.size stored (way_of stored.edits old.publication) events (history old.disk) (history new.disk)
        (so.run.leaves stored is_honest up));
  }
