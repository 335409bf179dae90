-- What a call returns if memory suffices and no read fails.
use Rattle.std.specs.Prelude.{◌≡◌, ◌⊎◌}
use Rattle.pm_archive.specs.declared.fault.ArchiveFault.{ArchiveFault}
use Rattle.pm_archive.specs.declared.fault.ArchiveFault.TheVariants.{Read, Memory}

-- a read or an allocation failed: the fault says nothing of the bytes
abbrev pub IsOutside : ArchiveFault → Type 0
IsOutside fault = (fault ≡ Read) ⊎ (fault ≡ Memory)

-- the fault is one of the bytes, unless it is from outside of them
abbrev pub UnlessOutside : (ArchiveFault → Type 0) → ArchiveFault → Type 0
UnlessOutside IsFault fault = ¬ IsOutside fault → IsFault fault
