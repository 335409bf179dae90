use Rattle.std.proofs.Common.{ap, sym, ◌∙◌}
use Rattle.http_listen.specs.Places.{taken_out}
use Rattle.http_listen.proofs.PoolLemmas.{passes_both, passes_empty, passes_less, passes_take}
use Rattle.http_listen.proofs.pool.Pool.end_at.Goals as goal

pub returns-in_default : goal.returns-in_default
returns-in_default g c =
    let taken = c.take.ensures in
    passes_empty g.S.Talks.told c.args.key (sym taken.taken ∙ ap taken_out c.in_default.is) taken.none taken.others

pub returns : goal.returns
returns g c =
    let told = g.S.Talks.told in
    let taken = c.take.ensures in
    passes_both told (passes_take told c.args.key c.in-Some.peer.value (sym taken.taken ∙ ap taken_out c.in-Some.is) taken.none taken.others)
    (passes_both told (passes_less told c.in-Some.peer.value _ _ (λ e. e.1)) c.keep_or_end.ensures)
