use Rattle.std.proofs.Common.{◌≡◌, ◌-◌, Bool, true, false, nat_lt, length, refl, subst, sym, ◌∙◌, arith}
use Rattle.std.specs.Bool.{OnTrue}
use Rattle.std.proofs.lemmas.Bool.Decides.{nat_tests}
use Rattle.number_map.specs.Blocks.{Ascends, AreBelow}
use Rattle.number_map.proofs.Last.{below_after_last, is_nothing}
use Rattle.number_map.proofs.block.Block.ends_before.Goals as goal

-- the last number is the greatest
pub returns-in-Some : goal.returns-in-Some
returns-in-Some g c = by (nat_lt c.in-Some.entry.now.0 c.args.number) refl
  where
    by : (b : Bool) → nat_lt c.in-Some.entry.now.0 c.args.number ≡ b → OnTrue b (AreBelow c.args.number c.args.self.now)
    by true less =
        let there = c.in-Some.ensures.item in
        let es = c.deref.result.now in
        subst (AreBelow c.args.number) (c.deref.ensures.value ∙ c.self.view_is)
        (below_after_last es (length es - 1) c.in-Some.entry.now c.args.number
        (subst Ascends (sym (c.deref.ensures.value ∙ c.self.view_is)) c.requires)
        (omega (arith, there.3.0)) there.1 (grind (arith, nat_tests, less)))
    by false less = tt

pub returns-in-None : goal.returns-in-None
returns-in-None g c =
    subst (AreBelow c.args.number) (sym (is_nothing c.deref.result.now c.in-None.ensures.item.3) ∙ c.deref.ensures.value ∙ c.self.view_is) tt
