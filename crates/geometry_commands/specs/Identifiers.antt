-- The numbers of commands.
use Rattle.std.specs.Prelude.{ℕ}
use Rattle.geometry_commands.specs.Commands.{move_to, line_to, close_path}
use Rattle.geometry_commands.specs.declared.command.CommandId.{CommandId}
use Rattle.geometry_commands.specs.declared.command.CommandId.TheVariants.{MoveTo, LineTo, ClosePath}

-- the number of a command
abbrev pub id_number : CommandId → ℕ
id_number MoveTo = move_to
id_number LineTo = line_to
id_number ClosePath = close_path
