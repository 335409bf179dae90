use Rattle.std.proofs.Common.{ap, ◌≡◌, length, vec_len, sym, ◌∙◌, arith}
use Rattle.std.proofs.lemmas.Bool.Decides.{nat_tests}
use Rattle.pm_build.specs.Building.{BuilderView}
use Rattle.pm_build.proofs.Adding.{none_in, some_in}
use Rattle.pm_build.proofs.builder.ArchiveBuilder.is_empty.Goals as goal

pub returns : goal.returns
returns c =
    let runs = c.self.inside.runs in (
      λ yes.
          let zero : vec_len runs ≡ 0 = grind (arith, nat_tests, c.is_empty.ensures, yes) in
          let none : length runs.items ≡ 0 = omega (arith, zero, runs.ok) in
          sym (ap (λ (v : BuilderView). v.tiles) c.self.view_is) ∙ none_in c.self.inside.contents.index.contents runs.items none,
      λ empty.
          let tiles = ap (λ (v : BuilderView). v.tiles) c.self.view_is in
          let none = some_in c.self.inside.contents.index.contents runs.items c.self.invariant.longest.each (tiles ∙ empty) in
          let zero : vec_len runs ≡ 0 = omega (arith, none, runs.ok) in
          grind (arith, nat_tests, c.is_empty.ensures, zero),
    )
