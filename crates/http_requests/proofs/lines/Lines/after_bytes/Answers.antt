use Rattle.std.proofs.Common.{sym, ap, ◌∙◌, drop}
use Rattle.http_requests.specs.declared.lines.Lines.{Lines}
use Rattle.http_requests.specs.Lines.{after_bytes}
use Rattle.http_requests.proofs.LineLemmas.{after_empty}
use Rattle.http_requests.proofs.lines.Lines.after_bytes.Goals as goal

pub returns-in-Empty : goal.returns-in-Empty
returns-in-Empty c =
    let rest = drop c.loop-byte.byte-index c.args.bytes.now in
    sym (after_empty rest) ∙ ap (λ (s : Lines). after_bytes s rest) (sym c.in-Empty.is) ∙ c.loop-byte.invariant
