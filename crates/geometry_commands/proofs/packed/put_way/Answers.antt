use Rattle.std.proofs.Common.{rules, ◌∙◌, append_assoc, SFits, w64}
use Rattle.std.proofs.lemmas.Int.{to_z-of_z}
use Rattle.std.proofs.lemmas.List.{append-nil}
use Rattle.geometry_commands.proofs.packed.put_way.Goals as goal

pub returns : goal.returns
returns c =
    let p = c.args.from in
    let q = c.args.to in
    let px : SFits w64 p.x = search rules in
    let py : SFits w64 p.y = search rules in
    let qx : SFits w64 q.x = search rules in
    let qy : SFits w64 q.y = search rules in
    let x = simp to_z-of_z at c.way.ensures in
    let y = simp to_z-of_z at c.way-2.ensures in
    c.in_ok-put_varint-2.ensures.ok ∙ rw (c.in_ok-put_varint.ensures.ok, c.from.ensures, c.from-2.ensures, x, y) (simp (append_assoc, append-nil))
