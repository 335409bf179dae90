use Rattle.std.proofs.Common.{◌≤◌, length, sym, ap, ◌∙◌, arith}
use Rattle.std.specs.Prelude.{vec_len, vec_capacity}
use Rattle.http_serve.specs.Buffers.{BufferView}
use Rattle.http_serve.specs.Parts.{front_content}
use Rattle.http_serve.proofs.PieceLemmas.{all_waits, second_left}
use Rattle.http_serve.proofs.SpellLemmas.{lies}
use Rattle.http_serve.proofs.outputs.Output.piece.Goals as goal

pub returns : goal.returns
returns c =
    let inside = c.self.inside in
    let over : c.len-2.result ≤ inside.taken = omega (arith, c.len.ensures, c.len-2.ensures, c.if-self-len.false) in
    let here = lies inside.taken (vec_len inside.front) (vec_capacity inside.front) inside.lent c.self.invariant.1 (omega (arith, over, c.len-2.ensures)) in
    all_waits _ _ (
    second_left inside.taken c.len-2.result inside.front.items (front_content inside.lent) c.front.result.now
    (omega (arith, c.len-2.ensures, inside.front.ok.0)) over (c.front.ensures ∙ sym here)
    ∙ ap (λ (v : BufferView). v.waiting) c.self.view_is
    )

pub slice_bounds-result-count-2 : goal.slice_bounds-result-count-2
slice_bounds-result-count-2 c =
    let inside = c.self.inside in
    let over : c.len-2.result ≤ inside.taken = omega (arith, c.len.ensures, c.len-2.ensures, c.if-self-len.false) in
    let here = lies inside.taken (vec_len inside.front) (vec_capacity inside.front) inside.lent c.self.invariant.1 (omega (arith, over, c.len-2.ensures)) in
    omega (arith, over, c.self.invariant.0, ap length here, ap length c.front.ensures, c.len-2.ensures)

pub slice_bounds-result-start-2 : goal.slice_bounds-result-start-2
slice_bounds-result-start-2 c =
    let inside = c.self.inside in
    let over : c.len-2.result ≤ inside.taken = omega (arith, c.len.ensures, c.len-2.ensures, c.if-self-len.false) in
    let here = lies inside.taken (vec_len inside.front) (vec_capacity inside.front) inside.lent c.self.invariant.1 (omega (arith, over, c.len-2.ensures)) in
    omega (arith, over, c.self.invariant.0, ap length here, ap length c.front.ensures, c.len-2.ensures)
