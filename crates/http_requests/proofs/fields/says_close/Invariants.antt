use Rattle.std.proofs.Common.{◌≡◌, map, take, false}
use Rattle.httparse.specs.Spans.{header_bytes}
use Rattle.http_requests.specs.Fields.{says_close}
use Rattle.http_requests.proofs.fields.says_close.Given as goal

abbrev pub invariant-loop-field : goal.invariant-loop-field
invariant-loop-field l = says_close (map (header_bytes l.bytes) (take l.field-index l.fields)) ≡ false
