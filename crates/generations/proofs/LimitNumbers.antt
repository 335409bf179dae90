-- The limits of a format, as numbers.
use Rattle.std.proofs.Common.{◌≡◌, refl}
use Rattle.generations.specs.declared.sizes.TheConstants.{MIN_SECTORS, MAX_SECTORS, JOURNAL_START, FIRST_VERSION, LAST_VERSION}

min_sectors_is : MIN_SECTORS ≡ 64
min_sectors_is = refl

max_sectors_is : MAX_SECTORS ≡ 16777216
max_sectors_is = refl

journal_start_is : JOURNAL_START ≡ 3
journal_start_is = refl

first_version_is : FIRST_VERSION ≡ 1
first_version_is = refl

last_version_is : LAST_VERSION ≡ 2
last_version_is = refl
