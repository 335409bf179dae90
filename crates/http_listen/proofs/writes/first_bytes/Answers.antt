use Rattle.std.proofs.Common.{arith}
use Rattle.http_listen.proofs.TalkLemmas.{first_of_both}
use Rattle.http_listen.proofs.writes.first_bytes.Goals as goal

pub returns-clause-first : goal.returns-clause-first
returns-clause-first c =
    first_of_both c.args.front.now c.args.behind.now c.args.most c.min-count.result c.min-more.result (omega (arith, c.min-count.ensures))
    (omega (arith, c.min-more.ensures))
