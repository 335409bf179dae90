use Rattle.std.proofs.Common.{◌≡◌, ◌∙◌, inl, inr, false, true, [], ◌∷◌, refl, sym}
use Rattle.tile_service.specs.Machine.{tile_number}
use Rattle.tile_service.proofs.Runs.Callers.{number_step}
use Rattle.map_replies.proofs.TileLemmas.{tagged_made, tagged_refused}
use Rattle.map_replies.proofs.calls.Calls.tagged_tile.Goals as goal

pub returns-in-Ok-true-clause-answered : goal.returns-in-Ok-true-clause-answered
returns-in-Ok-true-clause-answered g c =
    let d = g.D.Sectors in
    let at = c.args.at in
    let old = c.args.self.now.service in
    let n = c.tile_number.result in (
      tile_number at.z at.x at.y n ∷ [],
      inr (n, inl (sym c.in-Ok-true.ensures ∙ c.in-Ok-true.field-0-test, c.same_tile.ensures.reply, refl)),
      (old, number_step d.sectors d.honest d.history old at.z at.x at.y n c.tile_number.ensures.told, refl),
    )

pub returns-in-Ok-clause-answered : goal.returns-in-Ok-clause-answered
returns-in-Ok-clause-answered g c =
    let d = g.D.Sectors in
    let at = c.args.at in
    tagged_made d.sectors d.honest d.history at.z at.x at.y c.args.format c.args.self.now.service c.cut_tile.new.self.service
    (record { start = c.args.start; number = c.tile_number.result }) c.args.fields.now c.tile_number.ensures.told
    (sym c.in-Ok-false.ensures ∙ c.in-Ok-false.field-0-test) c.in-Ok.reply _ c.with_tag.ensures.reply c.in-Ok.ensures.shown

pub returns-in-Err-cut_tile-clause-answered : goal.returns-in-Err-cut_tile-clause-answered
returns-in-Err-cut_tile-clause-answered g c =
    let d = g.D.Sectors in
    let at = c.args.at in
    tagged_refused d.sectors d.honest d.history at.z at.x at.y c.args.format c.args.self.now.service c.cut_tile.new.self.service
    (record { start = c.args.start; number = c.tile_number.result }) c.args.fields.now c.tile_number.ensures.told
    (sym c.in-Ok-false.ensures ∙ c.in-Ok-false.field-0-test) c.in-Err-cut_tile.fault c.in-Err-cut_tile.ensures.shown
