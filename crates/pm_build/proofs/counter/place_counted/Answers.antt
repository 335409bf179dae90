use Rattle.std.proofs.Common.{ℕ, Option, sym, subst, ◌∙◌}
use Rattle.std.proofs.lemmas.Result.{on_ok_weaker}
use Rattle.pm_build.specs.Counted.{IsPlaceAmong}
use Rattle.pm_build.proofs.Different.{with_at, with_new}
use Rattle.pm_build.proofs.FirstTiles.{firsts_pushed}
use Rattle.pm_build.proofs.counter.place_counted.Goals as goal

pub returns-in-Some-clause-contents : goal.returns-in-Some-clause-contents
returns-in-Some-clause-contents c =
    let cs = c.args.contents.now.contents in
    let content = c.args.content.now.items in
    let there = subst (λ (o : Option ℕ). IsPlaceAmong cs content o) c.in-Some.is c.requires.equal in
    with_at cs c.in-Some.place content there.0 there.1

pub returns-in-None-clause-contents : goal.returns-in-None-clause-contents
returns-in-None-clause-contents c =
    let cs = c.args.contents.now.contents in
    let content = c.args.content.now.items in
    let absent = subst (λ (o : Option ℕ). IsPlaceAmong cs content o) c.in-None.is c.requires.equal in
    on_ok_weaker c.push.result (λ grown. grown ∙ sym (with_new cs content absent)) c.push.ensures.contents

pub returns-in-None-clause-firsts : goal.returns-in-None-clause-firsts
returns-in-None-clause-firsts c =
    firsts_pushed c.push.result c.args.contents.now c.push.new.self c.args.first c.args.content.now.items c.push.ensures.firsts c.push.ensures.contents
