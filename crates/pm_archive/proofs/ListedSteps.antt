-- Faults from outside of the bytes, and what is read of a directory.
use Rattle.std.proofs.Common.{◌≡◌, ℕ, List, Bool, true, false, cond, Ok, Err, Option, Some, None, ◌⊎◌, inl, inr, refl, sym, ap}
use Rattle.reader.specs.Reading.{Read}
use Rattle.reader.proofs.Steps.{same_value, not_both}
use Rattle.pm_archive.specs.declared.fault.ArchiveFault.{ArchiveFault}
use Rattle.pm_archive.specs.declared.fault.ArchiveFault.TheVariants as faults
use Rattle.pm_directory.specs.declared.entry.DirectoryEntry.{DirectoryEntry}
use Rattle.pm_directory.specs.declared.fault.DirectoryFault.{DirectoryFault}
use Rattle.pm_archive.specs.Answers.{IsOutside, UnlessOutside}
use Rattle.pm_archive.specs.Reading.{directory_or_fault}

-- ---- faults from outside of the bytes

pub inside_or_outside : (d : ArchiveFault) → IsOutside d ⊎ (¬ IsOutside d)
inside_or_outside faults.Read = inl (inl refl)
inside_or_outside faults.Memory = inl (inr refl)
inside_or_outside _ = inr (λ o. elim o [ inl e ↦ cc | inr e ↦ cc ])

-- a fault that the bytes can't have is from outside
pub is_outside : (IsFault : ArchiveFault → Type 0) (d : ArchiveFault) → UnlessOutside IsFault d → (¬ IsFault d) → IsOutside d
is_outside IsFault d h never = elim (inside_or_outside d) [ inl outside ↦ outside | inr inside ↦ absurd (never (h inside)) ]

-- a fault of one kind is of another
pub unless_weaker : (One Other : ArchiveFault → Type 0) → ((d : ArchiveFault) → One d → Other d) → (d : ArchiveFault)
    → UnlessOutside One d → UnlessOutside Other d
unless_weaker One Other to d h inside = to d (h inside)

-- ---- a test

-- no id if a test doesn't hold
pub pass_none : (b : Bool) (x : ℕ) (r : Option ℕ) → cond b (Some x) r ≡ None → (b ≡ false) × (r ≡ None)
pass_none true x r e = absurd (cc)
pass_none false x r e = (refl, e)

-- ---- a directory

-- what is read of it, by a reading of its own
pub read_ok : (offset : ℕ) (r : Read DirectoryFault (List DirectoryEntry)) (es : List DirectoryEntry) → directory_or_fault offset r ≡ Ok es → r ≡ Ok es
read_ok offset (Ok fs) es e = ap (λ (x : List DirectoryEntry). Ok x) (same_value fs es e)
read_ok offset (Err d) es e = absurd (not_both es (faults.Directory offset) (sym e))
