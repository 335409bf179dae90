use Rattle.std.proofs.Common.{ap, sym, ◌∙◌, true≢false}
use Rattle.std.specs.Prelude.{is_some}
use Rattle.http_listen.proofs.PoolLemmas.{closes_then, passes_both, passes_carry, passes_close, passes_from, passes_less}
use Rattle.http_listen.proofs.pool.Pool.keep_or_end.Goals as goal

pub returns-in_default : goal.returns-in_default
returns-in_default g c =
    let told = g.S.Talks.told in
    passes_both told (passes_less told c.args.peer.value _ _ (λ e. (c.in_default.is, e))) c.keep.ensures

pub returns-then-end : goal.returns-then-end
returns-then-end g c =
    let told = g.S.Talks.told in
    let ended = rw c.deref_mut.ensures.value at c.end.ensures in
    passes_from told ended.same (
    passes_both told
    (passes_carry told c.args.peer.value c.end.new.self _ _ ended.number
    (λ first acts h talks. (
      ended.held.held c.if-end.true first acts h,
      λ e. absurd (true≢false (sym (ended.ended c.if-end.true) ∙ ap is_some e)),
    )))
    c.keep-then-end.ensures
    )

pub returns-else-end : goal.returns-else-end
returns-else-end g c =
    let told = g.S.Talks.told in
    let ended = rw c.deref_mut.ensures.value at c.end.ensures in
    passes_close told c.args.peer.value _ (closes_then told c.args.peer.value c.end.new.self ended.same ended.number ended.held.talk
    (rw c.into_inner.ensures at c.close.ensures))
