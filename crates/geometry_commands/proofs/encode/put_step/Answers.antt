use Rattle.geometry_commands.specs.Ways.{fits}
use Rattle.std.proofs.Common.{arith, rules, ◌∙◌, append_assoc, SFits, w64}
use Rattle.std.proofs.lemmas.Int.{to_z-of_z}
use Rattle.geometry_commands.proofs.encode.put_step.Goals as goal

pub returns-clause-step : goal.returns-clause-step
returns-clause-step c =
    let p = c.args.from in
    let q = c.args.to in
    let px : SFits w64 p.x = search rules in
    let py : SFits w64 p.y = search rules in
    let qx : SFits w64 q.x = search rules in
    let qy : SFits w64 q.y = search rules in
    let x = simp to_z-of_z at c.way.ensures in
    let y = simp to_z-of_z at c.way-2.ensures in
    let one = c.push_reserved.ensures.items in
    let two = c.push_reserved-2.ensures.items in
    two ∙ rw (one, x, y) (append_assoc c.args.out.now.items _ _)

pub returns-clause-fits : goal.returns-clause-fits
unfolding fits
returns-clause-fits c = search rules

pub push_reserved-requires : goal.push_reserved-requires
push_reserved-requires c = omega (arith, c.requires.room)

pub push_reserved-requires-2 : goal.push_reserved-requires-2
push_reserved-requires-2 c = omega (arith, c.requires.room, c.push_reserved.ensures.len, c.push_reserved.ensures.capacity)
