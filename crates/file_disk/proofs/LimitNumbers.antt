-- The sizes of the buffers, as numbers.
use Rattle.std.proofs.Common.{◌≡◌, refl}
use Rattle.file_disk.specs.declared.run.TheConstants.{RUN_SECTORS, FIRST_RUN}

run_sectors_is : RUN_SECTORS ≡ 64
run_sectors_is = refl

first_run_is : FIRST_RUN ≡ 8
first_run_is = refl
