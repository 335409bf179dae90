use Rattle.archive_commands.specs.Shown.{header_lines}
use Rattle.archive_commands.proofs.showing.write_header.Goals as goal

pub returns : goal.returns
unfolding header_lines
returns g c = rw (c.from.ensures, c.from-2.ensures, c.from-3.ensures, c.from-4.ensures, c.from-5.ensures, c.from-6.ensures) at c.put_pieces.ensures
