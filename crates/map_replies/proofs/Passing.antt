-- A run by the states of the service, where downloads are read between its calls, and a publication is prepared.
use Rattle.std.proofs.Common.{◌≡◌, ⊎_elim, ℕ, suc, ◌<◌, ◌≤◌, ◌+◌, List, [], ◌∷◌, ◌++◌, length, refl, sym, ◌∙◌, ap, subst, arith, append_assoc}
use Rattle.std.proofs.lemmas.Bool.{cases_eq}
use Rattle.std.proofs.lemmas.List.{append-nil}
use Rattle.sector_disk.specs.Asked.{OnlyReads}
use Rattle.sector_disk.specs.Disk.{History}
use Rattle.sector_disk.proofs.AskedLaws.{reads_on, reads_none}
use Rattle.tile_service.specs.Machine.{no_memory, Happening, look}
use Rattle.tile_service.specs.Runs.{happening_at, way_of, RunFits, Takes, TakesAll}
use Rattle.tile_service.specs.Service.{ServiceView, IsUp}
use Rattle.tile_service.specs.Stored.{Stored}
use Rattle.tile_service.proofs.Runs.Callers.{HasRun, run_begins, run_on, begins_by, on_by}
use Rattle.tile_service.proofs.Runs.DiskAfter.{below, last_is, one_more, by_next, by_next_before, by_next_last, by_next_part, run_fits}
use Rattle.service_laws.specs.Moments.{WasRead, TakesBetweenReads}
use Rattle.service_laws.proofs.OverReads.{run_reads, reads_by}

module _ {D : Type 0} (sectors : D → ℕ) (honest : D → Type 0) (history : D → History) where
  -- ---- reads

  abbrev Read : (old new : ServiceView D) → Type 0
  Read old new = WasRead sectors honest history old new

  pub read_none : (s : ServiceView D) → Read s s
  read_none s = record { same = refl; disk = reads_none s.disk; up = λ stored up is_honest. up }

  pub read_on : (old middle new : ServiceView D) → Read old middle → Read middle new → Read old new
  read_on old middle new first then = record {
    same = then.same ∙ ap (λ (s : ServiceView D). record s { disk = new.disk; drafting = new.drafting; published = new.published }) first.same;
    disk = reads_on first.disk then.disk;
    up = λ stored up is_honest. then.up stored (first.up stored up (then.disk.was_honest is_honest)) is_honest;
  }

  -- ---- a run so far

  -- some events so far: the service when the first k of them had returned, and when the next began
  pub record Passes (first : ServiceView D) (events : List Happening) (now : ServiceView D) : Type 0 where
    pub run : HasRun sectors honest history first events now
    pub at : ℕ → ServiceView D
    pub from : ℕ → ServiceView D
    pub begins : at 0 ≡ first
    pub reads : (k : ℕ) → k ≤ length events → Read (at k) (from k)
    pub takes : (k : ℕ) → k < length events → Takes sectors honest history (from k) (happening_at events k) (at (suc k))
    pub ends : from (length events) ≡ now
    pub by_is : (stored : Stored) (is_honest : honest now.disk) (up : IsUp (sectors first.disk) (history first.disk) stored first) (k : ℕ)
        → (run.leaves stored is_honest up).by k ≡ history (at k).disk

  pub passes_none : (first : ServiceView D) → Passes first [] first
  passes_none first = record {
    run = run_begins sectors honest history first;
    at = λ k. first;
    from = λ k. first;
    begins = refl;
    reads = λ k le. read_none first;
    takes = λ k lt. absurd (omega (arith, lt));
    ends = refl;
    by_is = begins_by sectors honest history first;
  }

  -- ---- one event more

  module _ (first now new : ServiceView D) (events : List Happening) (event : Happening) (so : Passes first events now)
      (goes : Takes sectors honest history now event new) where
    abbrev done : ℕ
    done = length events + 1

    abbrev next_at : ℕ → ServiceView D
    next_at = by_next so.at done new

    abbrev next_from : ℕ → ServiceView D
    next_from = by_next so.from done new

    at_before : (k : ℕ) → k < done → next_at k ≡ so.at k
    at_before k lt = by_next_before so.at done new k (λ is. absurd (omega (arith, is, lt)))

    at_last : (k : ℕ) → k ≡ done → next_at k ≡ new
    at_last k is = by_next_last so.at done new k is

    from_before : (k : ℕ) → k < done → next_from k ≡ so.from k
    from_before k lt = by_next_before so.from done new k (λ is. absurd (omega (arith, is, lt)))

    from_last : (k : ℕ) → k ≡ done → next_from k ≡ new
    from_last k is = by_next_last so.from done new k is

    abbrev TakesOne : (before : ServiceView D) → Happening → (after : ServiceView D) → Type 0
    TakesOne before happening after = Takes sectors honest history before happening after

    -- the last of them
    last_taken : (k : ℕ) → k ≡ length events → TakesOne (next_from k) (happening_at (events ++ event ∷ []) k) (next_at (suc k))
    last_taken k is =
        let before : next_from k ≡ now = from_before k (omega (arith, is)) ∙ ap so.from is ∙ so.ends in
        let which : happening_at (events ++ event ∷ []) k ≡ event = last_is events event (look 0 no_memory) k is in
        subst (λ (s : ServiceView D). TakesOne s (happening_at (events ++ event ∷ []) k) (next_at (suc k))) (sym before)
        (subst (λ (h : Happening). TakesOne now h (next_at (suc k))) (sym which)
        (subst (λ (s : ServiceView D). TakesOne now event s) (sym (at_last (suc k) (omega (arith, is)))) goes))

    -- one of those before
    earlier_taken : (k : ℕ) → k < length events → TakesOne (next_from k) (happening_at (events ++ event ∷ []) k) (next_at (suc k))
    earlier_taken k lt =
        let which : happening_at (events ++ event ∷ []) k ≡ happening_at events k = below events (event ∷ []) k (look 0 no_memory) lt in
        subst (λ (s : ServiceView D). TakesOne s (happening_at (events ++ event ∷ []) k) (next_at (suc k))) (sym (from_before k (omega (arith, lt))))
        (subst (λ (h : Happening). TakesOne (so.from k) h (next_at (suc k))) (sym which)
        (subst (λ (s : ServiceView D). TakesOne (so.from k) (happening_at events k) s) (sym (at_before (suc k) (omega (arith, lt)))) (so.takes k lt)))

    -- nothing was read yet since the last
    last_read : (k : ℕ) → k ≡ done → Read (next_at k) (next_from k)
    last_read k is = subst (λ (s : ServiceView D). Read s (next_from k)) (sym (at_last k is))
        (subst (λ (s : ServiceView D). Read new s) (sym (from_last k is)) (read_none new))

    earlier_read : (k : ℕ) → k < done → Read (next_at k) (next_from k)
    earlier_read k lt = subst (λ (s : ServiceView D). Read s (next_from k)) (sym (at_before k lt))
        (subst (λ (s : ServiceView D). Read (so.at k) s) (sym (from_before k lt)) (so.reads k (omega (arith, lt))))

    pub passes_on : Passes first (events ++ event ∷ []) new
    passes_on = record {
      run = run_on sectors honest history first now new events event so.run goes;
      at = next_at;
      from = next_from;
      begins = at_before 0 (omega arith) ∙ so.begins;
      reads = λ k le. ⊎_elim (last_read k)
          (λ (sooner : k ≡ done → ⊥). earlier_read k (omega (arith, sooner, le, one_more events event)))
          (cases_eq k done);
      takes = λ k lt. ⊎_elim (last_taken k)
          (λ (sooner : k ≡ length events → ⊥). earlier_taken k (omega (arith, sooner, lt, one_more events event)))
          (cases_eq k (length events));
      ends = from_last (length (events ++ event ∷ [])) (one_more events event);
      by_is = λ stored is_honest up k. on_by sectors honest history first now new events event so.run goes stored is_honest up k
          ∙ by_next_part (λ (s : ServiceView D). history s.disk) (so.run.leaves stored (goes.asked.was_honest is_honest) up).by so.at
          done new (so.by_is stored (goes.asked.was_honest is_honest) up) k;
    }

  -- some more
  pub passes_all : (first now new : ServiceView D) (events more : List Happening) → Passes first events now
      → TakesAll sectors honest history now more new → Passes first (events ++ more) new
  passes_all first now new events [] so same = subst (λ (l : List Happening). Passes first l new) (sym (append-nil events))
      (subst (λ (s : ServiceView D). Passes first events s) (sym same) so)
  passes_all first now new events (event ∷ more) so goes =
      subst (λ (l : List Happening). Passes first l new) (append_assoc events (event ∷ []) more)
      (passes_all first goes.0 new (events ++ event ∷ []) more (passes_on first now goes.0 events event so goes.1) goes.2)

  -- ---- one read more

  module _ (first now new : ServiceView D) (events : List Happening) (so : Passes first events now)
      (same : new ≡ record now { disk = new.disk; drafting = new.drafting; published = new.published })
      (disk : OnlyReads sectors honest history now.disk new.disk)
      (still_up : (stored : Stored) → IsUp (sectors now.disk) (history now.disk) stored now → honest new.disk
      → IsUp (sectors new.disk) (history new.disk) stored new) where
    abbrev then_from : ℕ → ServiceView D
    then_from = by_next so.from (length events) new

    then_before : (k : ℕ) → k < length events → then_from k ≡ so.from k
    then_before k lt = by_next_before so.from (length events) new k (λ is. absurd (omega (arith, is, lt)))

    then_last : (k : ℕ) → k ≡ length events → then_from k ≡ new
    then_last k is = by_next_last so.from (length events) new k is

    read_now : (k : ℕ) → k ≡ length events → Read (so.at k) (then_from k)
    read_now k is =
        let was : Read (so.at k) now = subst (λ (s : ServiceView D). Read (so.at k) s) (ap so.from is ∙ so.ends) (so.reads k (omega (arith, is))) in
        subst (λ (s : ServiceView D). Read (so.at k) s) (sym (then_last k is))
        (read_on (so.at k) now new was (record { same = same; disk = disk; up = still_up }))

    read_then : (k : ℕ) → k < length events → Read (so.at k) (then_from k)
    read_then k lt = subst (λ (s : ServiceView D). Read (so.at k) s) (sym (then_before k lt)) (so.reads k (omega (arith, lt)))

    pub passes_read : Passes first events new
    passes_read = record {
      run = run_reads sectors honest history first now new events so.run same disk still_up;
      at = so.at;
      from = then_from;
      begins = so.begins;
      reads = λ k le. ⊎_elim (read_now k) (λ (sooner : k ≡ length events → ⊥). read_then k (omega (arith, sooner, le)))
          (cases_eq k (length events));
      takes = λ k lt. subst (λ (s : ServiceView D). Takes sectors honest history s (happening_at events k) (so.at (suc k)))
          (sym (then_before k lt)) (so.takes k lt);
      ends = then_last (length events) refl;
      by_is = λ stored is_honest up k. reads_by sectors honest history first now new events so.run same disk still_up stored is_honest up k
          ∙ so.by_is stored (disk.was_honest is_honest) up k;
    }

  -- The states of a run.
  pub takes_between : (first : ServiceView D) (events : List Happening) (now : ServiceView D) → Passes first events now
      → TakesBetweenReads sectors honest history first events now
  takes_between first events now so = record {
    at = so.at;
    from = so.from;
    begins = so.begins;
    reads = so.reads;
    takes = so.takes;
    ends = so.ends;
    any_moment = λ stored is_honest up. subst
        (RunFits (sectors first.disk) first.size stored (way_of stored.edits first.publication) events (history first.disk) (history now.disk))
        (λ i k. so.by_is stored is_honest up k i)
        (run_fits (sectors first.disk) first.size stored (way_of stored.edits first.publication) events (history first.disk) (history now.disk)
        (so.run.leaves stored is_honest up));
  }
