-- The number of each limit.
use Rattle.std.proofs.Common.{◌≡◌, refl}
use Rattle.pm_build.specs.declared.limit.TheConstants.{MAX_ENTRIES}
use Rattle.pm_build.specs.declared.directories.TheConstants.{DIRECTORY_ENTRIES}

pub max_entries_is : MAX_ENTRIES ≡ 131072
max_entries_is = refl

pub directory_entries_is : DIRECTORY_ENTRIES ≡ 512
directory_entries_is = refl
