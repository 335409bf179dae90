use Rattle.std.proofs.Common.{◌≡◌, ◌+◌, ◌/◌, ◌%◌, ◌++◌, ◌∷◌, [], List, ℕ, rules, append_assoc, ap, ◌∙◌}
use Rattle.pb_wire.proofs.Varints.{varint_two}
use Rattle.pb_wire.proofs.varint.put_two.Goals as goal

pub returns-in_err-reserve-clause-full : goal.returns-in_err-reserve-clause-full
returns-in_err-reserve-clause-full c = rw (varint_two c.args.n c.requires.0 c.requires.1) (search rules)

pub returns-clause-ok : goal.returns-clause-ok
returns-clause-ok c =
    let n = c.args.n in
    let first : c.push_reserved.new.self.items ≡ c.args.out.now.items ++ (128 + n % 128) ∷ [] = search rules in
    let second : c.push_reserved-2.new.self.items ≡ c.push_reserved.new.self.items ++ n / 128 ∷ [] = search rules in
    rw (varint_two n c.requires.0 c.requires.1) (second ∙ ap (λ (bytes : List ℕ). bytes ++ n / 128 ∷ []) first
    ∙ append_assoc c.args.out.now.items ((128 + n % 128) ∷ []) (n / 128 ∷ []))
