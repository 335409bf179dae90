use Rattle.std.proofs.lemmas.Grind.{common_steps}
use Rattle.std.proofs.Common.{◌≡◌, ◌∷◌, [], ◌++◌, ◌-◌, length, take, drop, get_or, refl, sym, ap, ◌∙◌, arith}
use Rattle.std.specs.List.{flat_map}
use Rattle.std.proofs.lemmas.List.{append-nil}
use Rattle.pb_wire.specs.Varint.{varint}
use Rattle.geometry_commands.specs.Commands.{command, steps, origin}
use Rattle.geometry_commands.specs.Shapes.{close_spelled}
use Rattle.geometry_commands.proofs.Packing.{line_packed}
use Rattle.geometry_commands.proofs.Written.{split_first}
use Rattle.geometry_commands.proofs.packed.PackedShape.put_line.Goals as goal

pub returns-in_ok-put_command-3-clause-bytes : goal.returns-in_ok-put_command-3-clause-bytes
returns-in_ok-put_command-3-clause-bytes c =
    let line = c.args.line.now in
    let others = take (length line - 1) (drop 1 line) in
    let close : close_spelled c.args.closed ≡ command 7 1 ∷ [] = rw c.if-closed.true refl in
    let drawn = c.put_command-2.new.out.items in
    let all = line_packed c.args.closed c.args.self.now.at (get_or line 0 origin) others
    line (command 1 1) (command 2 (length others)) c.args.self.now.bytes.items c.put_command.new.out.items c.put_point.new.self.bytes.items drawn
    c.put_points.new.self.bytes.items (split_first line origin (omega (arith, c.requires.long))) refl refl
    c.in_ok-put_command.ensures c.in_ok-put_point.ensures.bytes c.in_ok-put_command-2.ensures
    (c.in_ok-put_points.ensures.bytes ∙ ap (λ p. drawn ++ flat_map varint (steps p others)) c.in_ok-put_point.ensures.at) in
    c.in_ok-put_command-3.ensures
    ∙ ap (λ r. c.put_points.new.self.bytes.items ++ r) (sym (append-nil (varint (command 7 1)))) ∙ rw close at all

pub returns-else-closed-clause-bytes : goal.returns-else-closed-clause-bytes
returns-else-closed-clause-bytes c =
    let line = c.args.line.now in
    let others = take (length line - 1) (drop 1 line) in
    let close : close_spelled c.args.closed ≡ [] = rw c.if-closed.false refl in
    let drawn = c.put_command-2.new.out.items in
    let all = line_packed c.args.closed c.args.self.now.at (get_or line 0 origin) others
    line (command 1 1) (command 2 (length others)) c.args.self.now.bytes.items c.put_command.new.out.items c.put_point.new.self.bytes.items drawn
    c.put_points.new.self.bytes.items (split_first line origin (omega (arith, c.requires.long))) refl refl
    c.in_ok-put_command.ensures c.in_ok-put_point.ensures.bytes c.in_ok-put_command-2.ensures
    (c.in_ok-put_points.ensures.bytes ∙ ap (λ p. drawn ++ flat_map varint (steps p others)) c.in_ok-put_point.ensures.at) in
    sym (append-nil c.put_points.new.self.bytes.items) ∙ rw close at all

pub put_points-requires : goal.put_points-requires
put_points-requires c = grind (arith, common_steps)

pub returns-in_ok-put_command-3-clause-at : goal.returns-in_ok-put_command-3-clause-at
returns-in_ok-put_command-3-clause-at c = grind (arith, common_steps)

pub returns-else-closed-clause-at : goal.returns-else-closed-clause-at
returns-else-closed-clause-at c = grind (arith, common_steps)
