-- Which faults the making of a disk file has.
use Rattle.std.specs.Prelude.{◌≡◌, ⊤}
use Rattle.generations.specs.declared.fault.StoreFault.TheVariants.{Device}
use Rattle.map_server.specs.declared.fault.FileFault.{FileFault}
use Rattle.map_server.specs.declared.fault.FileFault.TheVariants.{File, Store}

-- the file can't be made, or a call of its disk failed
abbrev pub IsOfFile : FileFault → Type 0
IsOfFile (File error) = ⊤
IsOfFile (Store fault) = fault ≡ Device
