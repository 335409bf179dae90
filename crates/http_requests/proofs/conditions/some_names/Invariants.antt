use Rattle.std.proofs.Common.{◌≡◌, map, take, false}
use Rattle.httparse.specs.Spans.{header_bytes}
use Rattle.http_requests.specs.Conditions.{some_names}
use Rattle.http_requests.proofs.conditions.some_names.Given as goal

abbrev pub invariant-loop-field : goal.invariant-loop-field
invariant-loop-field l = some_names l.weak l.tag l.word (map (header_bytes l.bytes) (take l.field-index l.fields)) ≡ false
