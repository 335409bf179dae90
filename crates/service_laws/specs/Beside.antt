-- What may happen while a beginning is on its way: nothing that has to do with publications, and no failure of the disk.
use Rattle.std.specs.Prelude.{List, [], ◌∷◌, Option, Err}
use Rattle.tile_service.specs.declared.fault.ServiceFault.TheVariants.{Device}
use Rattle.tile_service.specs.Machine.{ServiceState, Publication, Happening, edit, begin, step, cancel, check}

-- it is no call of a publication, and didn't fail on the disk
abbrev pub IsBeside : Happening → Type 0
IsBeside (edit call e (Err Device)) = ⊥
IsBeside (begin outcome) = ⊥
IsBeside (step outcome) = ⊥
IsBeside (cancel outcome) = ⊥
IsBeside (check (Err Device)) = ⊥
IsBeside happening = Unit {0}

-- that is so of each of these
abbrev pub AreBeside : List Happening → Type 0
AreBeside [] = Unit {0}
AreBeside (happening ∷ happenings) = IsBeside happening × AreBeside happenings

-- the state with this publication
abbrev pub publishing : Option Publication → ServiceState → ServiceState
publishing p s = record s { publication = p }
