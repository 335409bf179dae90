use Rattle.std.proofs.Common.{◌≡◌, drop}
use Rattle.http_requests.specs.Lines.{after_bytes}
use Rattle.http_requests.proofs.lines.Lines.after_bytes.Given as goal

abbrev pub invariant-loop-byte : goal.invariant-loop-byte
invariant-loop-byte l = after_bytes l.lines (drop l.byte-index l.bytes) ≡ after_bytes l.fn.self l.bytes
