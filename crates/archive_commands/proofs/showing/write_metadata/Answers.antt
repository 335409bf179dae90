use Rattle.archive_commands.specs.Shown.{compressed_line, unreadable_line}
use Rattle.archive_commands.proofs.showing.write_metadata.Goals as goal

pub returns-in-Compressed : goal.returns-in-Compressed
unfolding compressed_line
returns-in-Compressed g c = rw c.in-Compressed.is (rw c.from.ensures at c.put_pieces.ensures)

pub returns-in-Unreadable : goal.returns-in-Unreadable
unfolding unreadable_line
returns-in-Unreadable g c = rw c.in-Unreadable.is c.put_pieces-in-Unreadable.ensures
