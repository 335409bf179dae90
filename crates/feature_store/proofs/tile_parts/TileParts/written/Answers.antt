use Rattle.std.proofs.Common.{◌≡◌, length, subst}
use Rattle.std.proofs.lemmas.Result.{IfOk-weaker}
use Rattle.feature_store.specs.Parts.{work_of}
use Rattle.feature_store.proofs.Chosen.{all_added, all_shown}
use Rattle.feature_store.proofs.Unique.{a_tile}
use Rattle.feature_store.proofs.tile_parts.TileParts.written.Goals as goal

pub returns : goal.returns
returns c =
    let p = c.args.self in
    let none : p.left ≡ 0 = all_added (length p.numbers.items) p.left (subst (λ o. work_of o (length p.numbers.items) p.left ≡ 0) c.in-None.is c.requires) in
    IfOk-weaker c.written-in-None.result _ _
    (λ o written m is_map making. written m p.at.z p.at.x p.at.y (all_shown m p is_map making c.in-None.is none)
    (a_tile p.at.z p.at.x p.at.y making.zoom p.at.column p.at.row))
    c.written-in-None.ensures
