use Rattle.http_requests.proofs.LineLemmas.{scanned_all, scanned_missing}
use Rattle.http_requests.proofs.searches.scan_head.Goals as goal

pub returns-then-has_empty-clause-known : goal.returns-then-has_empty-clause-known
returns-then-has_empty-clause-known c =
    scanned_all c.args.bytes.now c.args.scanned c.args.lines c.after_bytes-lines.result c.requires.lines c.after_bytes-lines.ensures

pub returns-then-doubtful-clause-known : goal.returns-then-doubtful-clause-known
returns-then-doubtful-clause-known c =
    scanned_all c.args.bytes.now c.args.scanned c.args.lines c.after_bytes-lines.result c.requires.lines c.after_bytes-lines.ensures

pub returns-clause-missing : goal.returns-clause-missing
returns-clause-missing c =
    scanned_missing c.args.bytes.now c.args.scanned c.args.lines c.after_bytes-lines.result c.requires.lines c.after_bytes-lines.ensures
    (λ e. let yes = c.has_empty.ensures.1 e in let other = c.if-has_empty.false in absurd (cc)) c.if-scanned-ge-MAX_HEAD.false

pub returns-clause-known : goal.returns-clause-known
returns-clause-known c =
    scanned_all c.args.bytes.now c.args.scanned c.args.lines c.after_bytes-lines.result c.requires.lines c.after_bytes-lines.ensures
