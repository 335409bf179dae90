use Rattle.std.proofs.Common.{◌++◌, ◌∷◌, [], List, OnOk, Contains, refl, sym, ap, subst, ◌∙◌}
use Rattle.std.proofs.lemmas.Result.{on_ok_weaker}
use Rattle.pm_build.specs.Firsts.{AreFirsts}
use Rattle.pm_build.specs.Storing.{ContentsView}
use Rattle.pm_build.specs.Tiles.{Tile}
use Rattle.pm_build.proofs.Different.{with_at, with_new}
use Rattle.pm_build.proofs.FirstTiles.{firsts_pushed}
use Rattle.pm_build.proofs.contents.Contents.place_given.Goals as goal

pub returns-in-Some-clause-contents : goal.returns-in-Some-clause-contents
returns-in-Some-clause-contents c =
    with_at c.args.self.now.index.contents c.in-Some.place c.args.content.now c.in-Some.ensures.found.0 c.in-Some.ensures.found.1

pub returns-in-None-clause-contents : goal.returns-in-None-clause-contents
returns-in-None-clause-contents c =
    let content = c.args.content.now in
    let absent = c.in-None.ensures.none refl in
    on_ok_weaker c.push.result
    (λ grown. grown ∙ ap (λ (v : ContentsView). v.index.contents ++ content ∷ []) c.self.view_is
    ∙ sym (with_new c.args.self.now.index.contents content absent))
    c.push.ensures.contents

pub returns-in-None-clause-firsts : goal.returns-in-None-clause-firsts
returns-in-None-clause-firsts c =
    let first = c.args.first in
    let content = c.args.content.now in
    subst
    (λ (v : ContentsView). OnOk c.push.result ((ts : List Tile) → AreFirsts ts v.index → Contains ts (first, content) → AreFirsts ts c.push.new.index))
    c.self.view_is (firsts_pushed c.push.result c.self.inside.index c.push.new.index first content c.push.ensures.firsts c.push.ensures.contents)
