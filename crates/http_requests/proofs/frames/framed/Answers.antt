use Rattle.std.proofs.Common.{Some, sym, ap, ◌∙◌, arith, map, take}
use Rattle.httparse.specs.Spans.{header_bytes}
use Rattle.http_requests.specs.Requests.{is_head}
use Rattle.http_requests.proofs.FieldLemmas.{framing_bound}
use Rattle.http_requests.proofs.HeadLemmas.{stated_fault, short_fault, spans_frame}
use Rattle.http_requests.proofs.frames.framed.Goals as goal

pub returns-then-end-bytes : goal.returns-then-end-bytes
returns-then-end-bytes c =
    let r = c.requires in
    let stated = sym c.framing.ensures ∙ c.in-Ok.is in
    let bare = c.is_head-bare.ensures ∙ ap is_head (c.of.ensures ∙ r.is.1.method) in
    let bound = framing_bound c.args.head.now.version
    (map (header_bytes c.args.bytes.now) (take c.args.head.now.headers c.args.fields.now)) c.in-Ok.size stated in
    let size = r.size in
    record {
      few = c.if-end-bytes.true;
      bound = omega arith;
      head = Some r.is.0;
      bare = bare;
      refused = λ more below.
          short_fault c.args.bytes.now c.args.fields.now c.args.head.now r.is.0 r.is.1 r.within r.size r.room c.in-Ok.size stated more below;
    }

pub returns : goal.returns
returns c =
    let r = c.requires in
    let stated = sym c.framing.ensures ∙ c.in-Ok.is in
    spans_frame c.args.bytes.now c.args.fields.now c.args.head.now r.is.0 r.is.1 r.within r.size r.room c.in-Ok.size stated c.if-end-bytes.false
    c.asks_to_close.result c.asks_to_close.ensures

pub returns-in-Err : goal.returns-in-Err
returns-in-Err c =
    let r = c.requires in
    let stated = sym c.framing.ensures ∙ c.in-Err.is in
    let bare = c.is_head-bare.ensures ∙ ap is_head (c.of.ensures ∙ r.is.1.method) in
    record {
      some = r.some;
      head = Some r.is.0;
      bare = bare;
      refused = λ more. stated_fault c.args.bytes.now c.args.fields.now c.args.head.now r.is.0 r.is.1 r.size r.room c.in-Err.refusal stated more;
    }
