-- Why there is no disk in a file.
use Rattle.std.specs.Prelude.{⊤}
use Rattle.file_disk.specs.declared.file.FileFault.{FileFault}
use Rattle.file_disk.specs.declared.file.FileFault.TheVariants.{Open, Create, Grow}

-- the file can't be opened, or its length can't be found out
abbrev pub IsOpen : FileFault → Type 0
IsOpen (Open error) = ⊤
IsOpen (Create error) = ⊥
IsOpen (Grow error) = ⊥

-- the file can't be made that long, or not be synced
abbrev pub IsGrow : FileFault → Type 0
IsGrow (Open error) = ⊥
IsGrow (Create error) = ⊥
IsGrow (Grow error) = ⊤

-- no file was made, or it can't be made that long, or not be synced
abbrev pub IsOfCreate : FileFault → Type 0
IsOfCreate (Open error) = ⊥
IsOfCreate (Create error) = ⊤
IsOfCreate (Grow error) = ⊤
