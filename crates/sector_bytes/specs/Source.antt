-- The bytes of sectors as a source.
use Rattle.std.specs.Prelude.{◌≡◌, ℕ, List, Option, length}
use Rattle.std.proofs.Common.{inl, inr, refl, arith, ◌∙◌}
use Rattle.std.specs.Borrow.{MutBor}
use Rattle.sector_disk.specs.Disk.{History, Image}
use Rattle.sector_bytes.specs.Bytes.{StandsIn}
use Rattle.sector_bytes.specs.Counts.{HasReached, HasRisen, NeverFalls}

-- Bytes in consecutive sectors, as contracts see them: the disk, the first of the sectors, how many bytes there are, and which of the
-- sectors was read last, if any.
pub record SourceView (D : Type 0) : Type 0 where
  pub disk : MutBor D
  pub first : ℕ
  pub len : ℕ
  pub last : Option ℕ

-- the source has these bytes, stored in this image
pub record AreItsBytes (first len : ℕ) (bytes : List ℕ) (image : Image) : Type 0 where
  pub length_is : length bytes ≡ len
  pub stands : StandsIn first bytes image

-- It is the same disk, from the same sector on, and nothing was written to it. Calls of it may have failed.
pub record IsUntouched {D : Type 0} (sectors : D → ℕ) (honest : D → Type 0) (history : D → History) (faults : D → ℕ)
    (old new : SourceView D) : Type 0 where
  pub same_reference : new.disk.ghost_name ≡ old.disk.ghost_name
  pub same_first : new.first ≡ old.first
  pub same_count : sectors new.disk.now ≡ sectors old.disk.now
  pub was_honest : honest new.disk.now → honest old.disk.now
  pub same_history : honest new.disk.now → history new.disk.now ≡ history old.disk.now
  pub never_falls : NeverFalls (faults old.disk.now) (faults new.disk.now)

module _ {D : Type 0} {sectors : D → ℕ} {honest : D → Type 0} {history : D → History} {faults : D → ℕ} where
  -- no call
  pub untouched_none : (source : SourceView D) → IsUntouched sectors honest history faults source source
  untouched_none source = record {
    same_reference = refl;
    same_first = refl;
    same_count = refl;
    was_honest = λ is. is;
    same_history = λ is. refl;
    never_falls = λ n is. is;
  }

  -- calls after others
  pub untouched_on : {old middle new : SourceView D} → IsUntouched sectors honest history faults old middle
      → IsUntouched sectors honest history faults middle new → IsUntouched sectors honest history faults old new
  untouched_on first then = record {
    same_reference = then.same_reference ∙ first.same_reference;
    same_first = then.same_first ∙ first.same_first;
    same_count = then.same_count ∙ first.same_count;
    was_honest = λ is. first.was_honest (then.was_honest is);
    same_history = λ is. then.same_history is ∙ first.same_history (then.was_honest is);
    never_falls = λ n is. then.never_falls n (first.never_falls n is);
  }

  -- calls of which one failed, after others
  pub untouched_risen : (old middle new : SourceView D) → IsUntouched sectors honest history faults old middle
      → HasRisen (faults middle.disk.now) (faults new.disk.now) → HasRisen (faults old.disk.now) (faults new.disk.now)
  untouched_risen old middle new first (inr last) = inr last
  untouched_risen old middle new first (inl high) = from (first.never_falls (faults old.disk.now) (inl (omega arith)))
    where
      from : HasReached (faults old.disk.now) (faults middle.disk.now) → HasRisen (faults old.disk.now) (faults new.disk.now)
      from (inl low) = inl (omega (arith, low, high))
      from (inr last) = inr (omega (arith, last, high))
