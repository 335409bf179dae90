-- The count of faults over several calls.
use Rattle.std.proofs.Common.{◌≡◌, inl, inr, ℕ, ◌+◌, Result, Ok, Err, OnErr, arith}
use Rattle.sector_disk.specs.Asked.{TellsFailure}
use Rattle.sector_disk.specs.Disk.{HasFailed}
use Rattle.sector_bytes.specs.Counts.{HasReached, HasRisen, NeverFalls}

-- a count that is unchanged doesn't fall
pub same_count : (old new : ℕ) → new ≡ old → NeverFalls old new
same_count old new is n (inl low) = inl (omega (arith, low, is))
same_count old new is n (inr last) = inr (omega (arith, last, is))

-- a count that has risen doesn't fall
pub risen_count : (old new : ℕ) → HasRisen old new → NeverFalls old new
risen_count old new (inl high) n (inl low) = inl (omega (arith, low, high))
risen_count old new (inl high) n (inr last) = inr (omega (arith, last, high))
risen_count old new (inr last) n is = inr last

-- after a failure the count has risen
pub failed_risen : (old new : ℕ) → HasFailed old new → HasRisen old new
failed_risen old new (inl lt) = inl (omega (arith, lt))
failed_risen old new (inr last) = inr (omega (arith, last))

-- after an error the count has risen
pub told_risen : {T E : Type 0} (result : Result T E) (old new : ℕ) → TellsFailure result old new → OnErr result (HasRisen old new)
told_risen (Ok done) old new same = tt
told_risen (Err fault) old new failed = failed_risen old new failed

-- a count that rises, and then doesn't fall, has risen
pub risen_on : (old middle new : ℕ) → HasRisen old middle → NeverFalls middle new → HasRisen old new
risen_on old middle new risen stays = stays (old + 1) risen

-- a count that doesn't fall, and then rises, has risen
pub then_risen : (old middle new : ℕ) → NeverFalls old middle → HasRisen middle new → HasRisen old new
then_risen old middle new stays (inr last) = inr last
then_risen old middle new stays (inl high) = from (stays old (inl (omega arith)))
  where
    from : HasReached old middle → HasRisen old new
    from (inl low) = inl (omega (arith, low, high))
    from (inr last) = inr (omega (arith, last, high))
