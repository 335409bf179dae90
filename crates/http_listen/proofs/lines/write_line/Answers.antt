use Rattle.http_listen.specs.Lines.{line_of}
use Rattle.http_listen.proofs.lines.write_line.Goals as goal

pub returns : goal.returns
unfolding line_of
returns g c = rw (← c.replied_requests-last.ensures, ← c.saturating_add-requests.ensures, ← c.result_word-word.ensures) c.writeln.ensures.bytes
