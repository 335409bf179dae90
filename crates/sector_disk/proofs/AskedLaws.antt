-- Calls of a disk, one after the other, for dependent crates.
use Rattle.std.proofs.Common.{◌∙◌, refl, ℕ}
use Rattle.sector_disk.specs.Disk.{History}
use Rattle.sector_disk.specs.Asked.{MayWrite, OnlyReads}

module _ {S : Type 0} {sectors : S → ℕ} {honest : S → Type 0} where
  -- calls that may write, after others
  pub writes_on : {old middle new : S} → MayWrite sectors honest old middle → MayWrite sectors honest middle new → MayWrite sectors honest old new
  writes_on first then = record {
    same_count = then.same_count ∙ first.same_count;
    was_honest = λ is. first.was_honest (then.was_honest is);
  }

  module _ {history : S → History} where
    -- calls that only read, after others
    pub reads_on : {old middle new : S} → OnlyReads sectors honest history old middle → OnlyReads sectors honest history middle new
        → OnlyReads sectors honest history old new
    reads_on first then = record {
      same_count = then.same_count ∙ first.same_count;
      was_honest = λ is. first.was_honest (then.was_honest is);
      same_history = λ is. then.same_history is ∙ first.same_history (then.was_honest is);
    }

    -- calls that only read may be followed by some that write
    pub reads_may : {old new : S} → OnlyReads sectors honest history old new → MayWrite sectors honest old new
    reads_may only = record { same_count = only.same_count; was_honest = only.was_honest }

    -- no call
    pub reads_none : (disk : S) → OnlyReads sectors honest history disk disk
    reads_none disk = record { same_count = refl; was_honest = λ is. is; same_history = λ is. refl }
