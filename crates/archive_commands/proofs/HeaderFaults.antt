-- The fault of a header, as `show` reports it.
use Rattle.std.proofs.Common.{◌≡◌, ◌≢◌, ◌↔◌, ℕ, ◌<◌, ◌≤◌, List, length, take, slice_index, Result, Err}
use Rattle.pm_header.specs.declared.header.Header.{Header}
use Rattle.pm_header.specs.declared.fault.HeaderFault.{HeaderFault}
use Rattle.pm_header.specs.declared.fault.HeaderFault.TheVariants.{Short, Magic, Version}
use Rattle.pm_header.specs.declared.header.TheConstants.{HEADER_BYTES}
use Rattle.pm_header.specs.Layout.{magic}
use Rattle.archive_commands.specs.declared.showing.ShowFault.{ShowFault}
use Rattle.archive_commands.specs.declared.showing.ShowFault.TheVariants as faults
use Rattle.archive_commands.specs.Shown.{HeaderHas}

-- the fault of the header is the one that is reported
abbrev read : HeaderFault → Result Header HeaderFault
read d = Err d

abbrev reported : HeaderFault → Result (Unit {0}) ShowFault
reported d = Err (faults.Header d)

pub reported_of_header : (bytes : List ℕ) (d : HeaderFault)
    → ((read d ≡ read Short) ↔ (length bytes < HEADER_BYTES))
    → ((read d ≡ read Magic) ↔ ((HEADER_BYTES ≤ length bytes) × (take 7 bytes ≢ magic)))
    → ((n : ℕ) → (read d ≡ read (Version n)) ↔ ((HEADER_BYTES ≤ length bytes) × (take 7 bytes ≡ magic) × (slice_index bytes 7 ≡ n) × (n ≢ 3)))
    → (fault : HeaderFault) → (reported d ≡ reported fault) ↔ HeaderHas bytes fault
reported_of_header bytes d short other version Short = (λ e. short.0 (let f : read d ≡ read Short = cc in f), λ h. let e = short.1 h in cc)
reported_of_header bytes d short other version Magic = (λ e. other.0 (let f : read d ≡ read Magic = cc in f), λ h. let e = other.1 h in cc)
reported_of_header bytes d short other version (Version n) =
    (λ e. (version n).0 (let f : read d ≡ read (Version n) = cc in f), λ h. let e = (version n).1 h in cc)
