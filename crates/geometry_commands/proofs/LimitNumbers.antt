-- The number of each command, and of each limit.
use Rattle.std.proofs.Common.{◌≡◌, refl}
use Rattle.geometry_commands.specs.declared.encode.TheConstants.{LINE_INTEGERS}
use Rattle.geometry_commands.specs.Commands.{move_to, line_to, close_path}

pub move_to_is : move_to ≡ 1
move_to_is = refl

pub line_to_is : line_to ≡ 2
line_to_is = refl

pub close_path_is : close_path ≡ 7
close_path_is = refl

pub line_integers_is : LINE_INTEGERS ≡ 3
line_integers_is = refl
