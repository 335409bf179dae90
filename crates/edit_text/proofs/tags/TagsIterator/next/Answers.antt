use Rattle.std.proofs.Common.{◌<◌, length, ap, arith}
use Rattle.edit_text.specs.Trusted.{tag_in}
use Rattle.edit_text.proofs.EachSteps.{each_next, each_none}
use Rattle.edit_text.proofs.TagTexts.{first_texts, other_texts}
use Rattle.edit_text.proofs.tags.TagsIterator.next.Goals as goal

pub returns-then-self-eq0-clause-steps : goal.returns-then-self-eq0-clause-steps
returns-then-self-eq0-clause-steps c =
    let s = c.args.self.now in
    let none = each_none tag_in s.count s.rest.now (omega (arith, c.if-self-eq0.true)) in
    (none, none)

pub front-requires : goal.front-requires
front-requires c =
    let s = c.args.self.now in
    let some : 0 < s.count = omega (arith, c.if-self-eq0.false) in
    first_texts s.count s.rest.now some s.texts

pub invariant_of-self : goal.invariant_of-self
invariant_of-self c =
    let s = c.args.self.now in
    let some : 0 < s.count = omega (arith, c.if-self-eq0.false) in
    record { texts = other_texts s.count s.rest.now some s.texts _ c.front.ensures.rest }

pub returns-clause-steps : goal.returns-clause-steps
returns-clause-steps c =
    let s = c.args.self.now in
    let some : 0 < s.count = omega (arith, c.if-self-eq0.false) in
    each_next tag_in s.count s.rest.now _ _ some c.front.ensures.tag c.front.ensures.rest

pub returns-clause-goes : goal.returns-clause-goes
returns-clause-goes c = let h = ap length (returns-clause-steps c) in record { on = λ _. (tt, tt, omega (arith, h)); keeps = tt; rests = λ _. tt }
