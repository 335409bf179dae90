use Rattle.std.proofs.Common.{◌≤◌, ◌<◌, ◌-◌, drop, length, length-drop, sym, ap, ◌∙◌, arith}
use Rattle.std.specs.Prelude.{vec_len, vec_capacity}
use Rattle.std.proofs.lemmas.List.{append-nil, take_all}
use Rattle.http_serve.specs.Buffers.{BufferView}
use Rattle.http_serve.specs.Parts.{front_content}
use Rattle.http_serve.proofs.PieceLemmas.{all_waits, second_left}
use Rattle.http_serve.proofs.SpellLemmas.{lies, next_bytes}
use Rattle.http_serve.proofs.outputs.Output.pieces.Goals as goal

pub returns : goal.returns
returns c =
    let inside = c.self.inside in
    let over : c.len-2.result ≤ inside.taken = omega (arith, c.len.ensures, c.len-2.ensures, c.if-self-len.false) in
    let here = lies inside.taken (vec_len inside.front) (vec_capacity inside.front) inside.lent c.self.invariant.1 (omega (arith, over, c.len-2.ensures)) in
    all_waits _ _ (
    append-nil _
    ∙ second_left inside.taken c.len-2.result inside.front.items (front_content inside.lent) c.front-2.result.now
    (omega (arith, c.len-2.ensures, inside.front.ok.0)) over (c.front-2.ensures ∙ sym here)
    ∙ ap (λ (v : BufferView). v.waiting) c.self.view_is
    )

pub returns-then-self-len : goal.returns-then-self-len
returns-then-self-len c =
    let inside = c.self.inside in
    let items = inside.front.items in
    let under : inside.taken < length items = omega (arith, c.if-self-len.true, c.len.ensures, inside.front.ok.0) in
    next_bytes inside.taken items _ _ _ inside.lent under
    (take_all (length c.deref.result.now - inside.taken) (drop inside.taken c.deref.result.now) (omega (arith, length-drop inside.taken c.deref.result.now))
    ∙ ap (drop inside.taken) c.deref.ensures.value)
    c.front.ensures (ap (λ (v : BufferView). v.waiting) c.self.view_is)

pub slice_bounds-result-count-2 : goal.slice_bounds-result-count-2
slice_bounds-result-count-2 c =
    let inside = c.self.inside in
    let over : c.len-2.result ≤ inside.taken = omega (arith, c.len.ensures, c.len-2.ensures, c.if-self-len.false) in
    let here = lies inside.taken (vec_len inside.front) (vec_capacity inside.front) inside.lent c.self.invariant.1 (omega (arith, over, c.len-2.ensures)) in
    omega (arith, over, c.self.invariant.0, ap length here, ap length c.front-2.ensures, c.len-2.ensures)

pub slice_bounds-result-start-2 : goal.slice_bounds-result-start-2
slice_bounds-result-start-2 c =
    let inside = c.self.inside in
    let over : c.len-2.result ≤ inside.taken = omega (arith, c.len.ensures, c.len-2.ensures, c.if-self-len.false) in
    let here = lies inside.taken (vec_len inside.front) (vec_capacity inside.front) inside.lent c.self.invariant.1 (omega (arith, over, c.len-2.ensures)) in
    omega (arith, over, c.self.invariant.0, ap length here, ap length c.front-2.ensures, c.len-2.ensures)
