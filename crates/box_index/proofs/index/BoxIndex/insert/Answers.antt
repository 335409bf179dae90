use Rattle.std.proofs.Common.{◌≡◌, [], take, length, rules, subst, sym, ap, ◌∙◌, arith}
use Rattle.std.specs.Prelude.{vec_len}
use Rattle.std.proofs.lemmas.List.Elements.{All-pop}
use Rattle.box_index.specs.Runs.{AreCovered}
use Rattle.box_index.proofs.Skipped.{covered_put, covered_before}
use Rattle.box_index.proofs.index.BoxIndex.insert.Goals as goal

pub invariant_of-self : goal.invariant_of-self
invariant_of-self c =
    let len : vec_len c.self.inside.runs ≡ length c.self.inside.runs.items = search rules in
    record {
      runs = subst (AreCovered c.widen.new.runs.items) (sym c.if-put.ensures.block)
          (covered_put c.self.inside.runs.items c.widen.new.runs.items c.self.inside.blocks.items c.home_of-at.result c.args.entry
          (search rules) (search rules) c.widen.ensures.span (λ r s lt. c.widen.ensures.wider r s (omega (arith, len, lt))) c.self.invariant.runs);
      spare = c.self.invariant.spare;
    }

pub cover_from-requires-clause-before : goal.cover_from-requires-clause-before
cover_from-requires-clause-before c =
    let at = c.home_of-at.result in
    covered_before at c.self.inside.runs.items c.self.inside.blocks.items c.deref-2.result.now
    (ap (take at) c.deref-2.ensures.value ∙ c.put_beside.ensures.before ∙ ap (take at) c.if-put.ensures.unchanged) c.self.invariant.runs.covered

pub invariant_of-self-2 : goal.invariant_of-self-2
invariant_of-self-2 c = record {
  runs = subst (AreCovered c.cover_from.new.runs.items) c.deref-2.ensures.value c.cover_from.ensures.covered;
  spare = (All-pop (λ b. b ≡ []) c.self.inside.spare.items c.pop.new.self.items c.pop.result c.pop.ensures.items c.self.invariant.spare).0;
}
