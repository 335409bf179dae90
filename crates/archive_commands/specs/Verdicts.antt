-- The verdict on an archive.
use Rattle.std.specs.Prelude.{ℕ, List, ◌++◌, Result, Ok, Err, codes}
use Rattle.pm_verify.specs.Shown.{report_text}
use Rattle.pm_verify.specs.declared.report.Report.{Report}
use Rattle.pm_archive.specs.Shown.{fault_text}
use Rattle.pm_archive.specs.declared.fault.ArchiveFault.{ArchiveFault}
use Rattle.pm_archive.specs.declared.fault.ArchiveFault.TheVariants.{Read, Memory}
use Rattle.archive_commands.specs.declared.verdict.Verdict.{Verdict}
use Rattle.archive_commands.specs.declared.verdict.Verdict.TheVariants.{Sound, Faulty, Unjudged}

-- a fault is the archive's, unless a read failed or memory ran out
abbrev pub verdict_of : Result Report ArchiveFault → Verdict
verdict_of (Ok report) = Sound report
verdict_of (Err Read) = Unjudged Read
verdict_of (Err Memory) = Unjudged Memory
verdict_of (Err fault) = Faulty fault

-- the exit status of a program that prints it
abbrev pub status_of : Verdict → ℕ
status_of (Sound _) = 0
status_of (Faulty _) = 1
status_of (Unjudged _) = 1

-- the line that is printed of it
abbrev pub line_of : Verdict → List ℕ
line_of (Sound report) = codes "ok: " ++ report_text report
line_of (Faulty fault) = fault_text fault
line_of (Unjudged fault) = fault_text fault
