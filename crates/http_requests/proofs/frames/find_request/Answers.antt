use Rattle.std.proofs.Common.{refl, None, ◌<◌, arith, length}
use Rattle.httparse.specs.Grammar.{print_request}
use Rattle.http_requests.proofs.HeadLemmas.{some_bytes, no_bytes, long_no_head, full_no_head, empty_missing}
use Rattle.http_requests.proofs.frames.find_request.Goals as goal

pub returns-then-is_empty : goal.returns-then-is_empty
returns-then-is_empty c = empty_missing c.args.bytes.now (no_bytes _ _ c.is_empty.ensures c.if-is_empty.true)

pub returns-in-Ok-Complete : goal.returns-in-Ok-Complete
returns-in-Ok-Complete c =
    let found = rw c.in-Ok-Complete.field-0-is at c.in-Ok-Complete.ensures.complete in
    let size = found.1.len in
    let long : 8192 < length (print_request found.0) = omega arith in
    record {
      some = some_bytes _ _ c.is_empty.ensures c.if-is_empty.false;
      head = None;
      bare = refl;
      refused = λ more. (refl, long_no_head c.args.bytes.now found.0 _ found.1.reads long more);
    }

pub returns-in-Ok-Partial : goal.returns-in-Ok-Partial
returns-in-Ok-Partial c =
    let none = rw c.in-Ok-Partial.field-0-is at c.in-Ok-Partial.ensures.partial in
    record {
      some = some_bytes _ _ c.is_empty.ensures c.if-is_empty.false;
      head = None;
      bare = refl;
      refused = λ more. (refl, full_no_head c.args.bytes.now none c.if-full.true more);
    }
