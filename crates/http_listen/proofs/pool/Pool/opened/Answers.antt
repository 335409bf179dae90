use Rattle.std.proofs.Common.{rules}
use Rattle.http_listen.proofs.PoolLemmas.{passes_both, passes_close, passes_less, passes_same}
use Rattle.http_listen.proofs.StepLemmas.{none_of}
use Rattle.http_listen.proofs.pool.Pool.opened.Goals as goal

pub returns-in-Err : goal.returns-in-Err
returns-in-Err g c =
    rw (← c.in-Err.ensures.value_returned) (passes_close g.S.Talks.told c.in-Err.refused.value _ c.close_full.ensures)

pub returns-then-is_some : goal.returns-then-is_some
returns-then-is_some g c =
    rw (← c.in-Ok.ensures.ok) (
    passes_both g.S.Talks.told (passes_less g.S.Talks.told c.in-Ok.peer.value _ _ (λ e. e.0)) c.keep_or_end.ensures
    )

pub returns-in-Some : goal.returns-in-Some
returns-in-Some g c =
    let told = g.S.Talks.told in
    rw (← c.in-Ok.ensures.ok) (
    passes_both told (passes_less told c.in-Ok.peer.value _ _ (λ e. none_of c.args.ending (search rules))) (passes_both told c.keep.ensures (passes_same told c.move_first.ensures))
    )

pub returns-in_default : goal.returns-in_default
returns-in_default g c =
    rw (← c.in-Ok.ensures.ok) (
    passes_both g.S.Talks.told (passes_less g.S.Talks.told c.in-Ok.peer.value _ _ (λ e. none_of c.args.ending (search rules))) c.keep.ensures
    )
