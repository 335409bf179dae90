use Rattle.std.proofs.Common.{List, ℕ, ◌++◌, length, length-append, length-drop, ap, arith}
use Rattle.http_serve.specs.Buffers.{BufferView}
use Rattle.http_serve.specs.Parts.{front_content}
use Rattle.http_serve.proofs.outputs.Output.took.Goals as goal

pub overflow_add-taken : goal.overflow_add-taken
overflow_add-taken c =
    let inside = c.self.inside in
    let all = inside.front.items ++ front_content inside.lent in
    omega (
      arith,
      c.requires,
      ap (λ (v : BufferView). length v.waiting) c.self.view_is,
      length-drop inside.taken all,
      length-append inside.front.items (front_content inside.lent),
      c.self.invariant.0,
      c.len.ensures,
      c.front_len.ensures.len,
      c.front_len.ensures.most,
      inside.front.ok.0,
    )
