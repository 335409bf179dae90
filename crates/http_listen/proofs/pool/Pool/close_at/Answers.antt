use Rattle.std.proofs.Common.{ap, sym, ◌∙◌}
use Rattle.http_listen.specs.Places.{taken_out}
use Rattle.http_listen.proofs.PoolLemmas.{passes_both, passes_empty, passes_gone, passes_take}
use Rattle.http_listen.proofs.pool.Pool.close_at.Goals as goal

pub returns-in-Some-clause-goes : goal.returns-in-Some-clause-goes
returns-in-Some-clause-goes g c =
    let told = g.S.Talks.told in
    let taken = c.take.ensures in
    passes_both told (passes_take told c.args.key c.in-Some.peer.value (sym taken.taken ∙ ap taken_out c.in-Some.is) taken.none taken.others)
    (passes_gone told c.in-Some.peer.value _ (rw c.into_inner.ensures at c.close.ensures))

pub returns-in_default-clause-goes : goal.returns-in_default-clause-goes
returns-in_default-clause-goes g c =
    let taken = c.take.ensures in
    passes_empty g.S.Talks.told c.args.key (sym taken.taken ∙ ap taken_out c.in_default.is) taken.none taken.others
