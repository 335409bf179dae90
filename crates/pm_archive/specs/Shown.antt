-- How a fault is printed.
use Rattle.std.specs.Prelude.{ℕ, List, [], ◌++◌, Option, Some, None, codes, decimal}
use Rattle.pm_archive.specs.declared.fault.ArchiveFault.{ArchiveFault}
use Rattle.pm_archive.specs.declared.fault.ArchiveFault.TheVariants as faults
use Rattle.pm_archive.specs.declared.fault.Count.TheVariants as counts
use Rattle.pm_archive.specs.declared.fault.Section.TheVariants as sections

-- what is wrong
unfoldable pub what_of : ArchiveFault → List ℕ
what_of faults.Short = codes "short header"
what_of faults.Magic = codes "bad magic"
what_of (faults.Version n) = codes "version: "
what_of (faults.Section sections.Root) = codes "section: root"
what_of (faults.Section sections.Metadata) = codes "section: metadata"
what_of (faults.Section sections.Leaves) = codes "section: leaves"
what_of (faults.Section sections.Tiles) = codes "section: tiles"
what_of (faults.Compressed n) = codes "compressed directories: "
what_of (faults.Directory offset) = codes "bad directory at: "
what_of (faults.Order id) = codes "order: "
what_of faults.Depth = codes "leaf depth"
what_of (faults.Place id) = codes "place: "
what_of (faults.Count counts.Addressed) = codes "count: addressed"
what_of (faults.Count counts.Entries) = codes "count: entries"
what_of (faults.Count counts.Contents) = codes "count: contents"
what_of (faults.Tile id) = codes "bad tile: "
what_of faults.Metadata = codes "bad metadata"
what_of faults.Read = codes "Read"
what_of faults.Memory = codes "Memory"

-- the number that stands behind it
abbrev pub number_of : ArchiveFault → Option ℕ
number_of faults.Short = None
number_of faults.Magic = None
number_of (faults.Version n) = Some n
number_of (faults.Section s) = None
number_of (faults.Compressed n) = Some n
number_of (faults.Directory offset) = Some offset
number_of (faults.Order id) = Some id
number_of faults.Depth = None
number_of (faults.Place id) = Some id
number_of (faults.Count c) = None
number_of (faults.Tile id) = Some id
number_of faults.Metadata = None
number_of faults.Read = None
number_of faults.Memory = None

-- a number in decimal digits, if there is one
abbrev pub digits_of : Option ℕ → List ℕ
digits_of None = []
digits_of (Some n) = decimal n

-- the line of a fault
abbrev pub fault_text : ArchiveFault → List ℕ
fault_text fault = what_of fault ++ digits_of (number_of fault)
