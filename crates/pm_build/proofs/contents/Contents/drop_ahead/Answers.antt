use Rattle.std.proofs.Common.{ℕ, List, take, sym, ap, subst, ◌∙◌}
use Rattle.pm_build.specs.Ahead.{AreStored}
use Rattle.pm_build.proofs.AheadBytes.{stored_less}
use Rattle.pm_build.proofs.Words.{none_known}
use Rattle.pm_build.proofs.contents.Contents.drop_ahead.Goals as goal

pub invariant_of-self : goal.invariant_of-self
invariant_of-self c =
    let inside = c.self.inside in
    let cut = c.truncate.ensures.items ∙ ap (λ (n : ℕ). take n inside.bytes.items) c.total-total.ensures in
    record {
      stored = subst (λ (xs : List ℕ). AreStored inside.index.contents xs) (sym cut)
          (stored_less inside.index.contents inside.bytes.items c.self.invariant.stored);
      hashed = none_known _ c.none-self-inside.result c.none-self-inside.ensures;
    }
