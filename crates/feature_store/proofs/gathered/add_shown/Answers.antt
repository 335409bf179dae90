use Rattle.std.proofs.Common.{subst}
use Rattle.std.specs.Prelude.{IfSome}
use Rattle.std.proofs.lemmas.Result.{on_ok_weaker}
use Rattle.edit_text.specs.Views.{feature_view}
use Rattle.tile_cutter.specs.Put.{Shows}
use Rattle.feature_store.proofs.Gathers.{shown_more, nothing_more}
use Rattle.feature_store.proofs.gathered.add_shown.Goals as goal

pub returns-in_default : goal.returns-in_default
returns-in_default c = λ fs gathers.
    let at = c.args.at in
    nothing_more c.args.gathered.now fs c.args.id (feature_view c.args.feature) at.z at.x at.y (c.in_ok-kind.ensures.none.0 c.in_default.is) gathers

pub returns : goal.returns
returns c =
    let at = c.args.at in
    let f = feature_view c.args.feature in
    let shows : Shows f at.z at.x at.y c.put_cut.new.out c.in-Some.kind =
    subst (λ o. IfSome o (λ kind. Shows f at.z at.x at.y c.put_cut.new.out kind)) c.in-Some.is c.in_ok-kind.ensures.shape in
    on_ok_weaker c.add.result
    (λ step fs gathers. shown_more c.add.new.gathered fs c.args.id f at.z at.x at.y shows.shape shows.cut (step fs shows.shape gathers shows.put))
    c.add.ensures
