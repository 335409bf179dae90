use Rattle.std.proofs.Common.{◌≡◌, ◌++◌, ◌∷◌, [], ◌∙◌, sym, ap, subst, arith}
use Rattle.pm_archive.specs.Lookup.{bytes_of, IsSmall}
use Rattle.pm_archive.proofs.CachedLeaves.{pushed, bytes_pushed, small_pushed}
use Rattle.pm_archive.proofs.leaves.Leaves.push.Goals as goal
use Rattle.pm_archive.proofs.leaves.Leaves.push.Goals.{After-self-1}

is_pushed : (c : After-self-1) → c.push.new.self.items ≡ c.self.inside.all.items ++ c.args.leaf ∷ []
is_pushed c = pushed _ c.args.leaf c.self.inside.all.items c.push.new.self.items c.push.ensures.items (sym c.is_ok.ensures.value ∙ c.if-is_ok.true)

is_small : (c : After-self-1) → IsSmall c.push.new.self.items
is_small c = subst IsSmall (sym (is_pushed c)) (small_pushed c.args.leaf c.self.inside.all.items c.self.invariant.1 c.requires.small
    (omega (arith, ap bytes_of c.self.view_is, c.requires.fits)))

pub invariant_of-self : goal.invariant_of-self
invariant_of-self c =
    (omega (arith, ap bytes_of (is_pushed c), bytes_pushed c.args.leaf c.self.inside.all.items, c.self.invariant.0, c.len-length.ensures), is_small c)

pub returns-then-is_ok-clause-room : goal.returns-then-is_ok-clause-room
returns-then-is_ok-clause-room c = is_small c
