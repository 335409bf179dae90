use Rattle.std.proofs.Common.{◌≡◌, None}
use Rattle.http_listen.proofs.PoolLemmas.{closes_same, passes_both, passes_close, passes_put, passes_same}
use Rattle.http_listen.proofs.pool.Pool.keep.Goals as goal

pub returns-in-Ok : goal.returns-in-Ok
returns-in-Ok g c = rw (← c.note.ensures) (passes_put g.S.Talks.told c.in-Ok.key c.args.peer.value c.in-Ok.ensures.free c.in-Ok.ensures.put)

pub returns-in-Err : goal.returns-in-Err
returns-in-Err g c =
    let told = g.S.Talks.told in
    rw (← c.note.ensures) (
    passes_both told (passes_same told c.in-Err.ensures.same)
    (passes_close told c.args.peer.value (c.args.peer.value.state.drops ≡ None)
    (closes_same told c.in-Err.ensures.back (rw c.into_inner.ensures at c.close_full.ensures)))
    )
