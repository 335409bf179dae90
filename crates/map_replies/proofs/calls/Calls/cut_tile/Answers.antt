use Rattle.std.proofs.Common.{ap, option_map, refl}
use Rattle.std.specs.Rc.{rc_slice_items}
use Rattle.tile_service.specs.Machine.{got, no_memory, tile}
use Rattle.tile_service.specs.Service.{state_of}
use Rattle.tile_service.proofs.Runs.Callers.{tile_step}
use Rattle.map_replies.proofs.TicketLemmas.{held_reading}
use Rattle.map_replies.proofs.calls.Calls.cut_tile.Goals as goal

pub returns-in-Ok-tile-clause-shown : goal.returns-in-Ok-tile-clause-shown
returns-in-Ok-tile-clause-shown g c =
    let d = g.D.Sectors in
    let at = c.args.at in
    let call = c.tile.ensures in
    let outcome = got (option_map rc_slice_items c.in-Ok.content) in (
      outcome,
      tile_step d.sectors d.honest d.history _ _ call.same call.disk call.untouched call.up at.z at.x at.y outcome c.in-Ok.ensures.machine,
      c.in-Ok-tile.ensures.reply,
    )

-- it was shown, and there is no memory for the reply
pub returns-in-Err-clause-shown : goal.returns-in-Err-clause-shown
returns-in-Err-clause-shown g c =
    let d = g.D.Sectors in
    let at = c.args.at in
    let call = c.tile.ensures in (
      no_memory,
      tile_step d.sectors d.honest d.history _ _ call.same call.disk call.untouched call.up at.z at.x at.y no_memory
          (λ known. (tt, ap (λ s. state_of known s) call.same)),
      refl,
    )

pub returns-in_default-clause-shown : goal.returns-in_default-clause-shown
returns-in_default-clause-shown g c =
    let d = g.D.Sectors in
    let at = c.args.at in
    let call = c.tile.ensures in (
      no_memory,
      tile_step d.sectors d.honest d.history _ _ call.same call.disk call.untouched call.up at.z at.x at.y no_memory
          (λ known. (tt, ap (λ s. state_of known s) call.same)),
      refl,
    )

pub returns-in-Ok-tile-clause-held : goal.returns-in-Ok-tile-clause-held
returns-in-Ok-tile-clause-held g c =
    let d = g.D.Sectors in
    λ place first held. held_reading d.sectors d.honest d.history place first c.args.self.now.oldest c.args.self.now.service _ held
    c.tile.ensures.disk (ap (λ s. s.size) c.tile.ensures.same) (ap (λ s. s.generation) c.tile.ensures.same)

pub returns-in-Err-clause-held : goal.returns-in-Err-clause-held
returns-in-Err-clause-held g c =
    let d = g.D.Sectors in
    λ place first held. held_reading d.sectors d.honest d.history place first c.args.self.now.oldest c.args.self.now.service _ held
    c.tile.ensures.disk (ap (λ s. s.size) c.tile.ensures.same) (ap (λ s. s.generation) c.tile.ensures.same)

pub returns-in_default-clause-held : goal.returns-in_default-clause-held
returns-in_default-clause-held g c =
    let d = g.D.Sectors in
    λ place first held. held_reading d.sectors d.honest d.history place first c.args.self.now.oldest c.args.self.now.service _ held
    c.tile.ensures.disk (ap (λ s. s.size) c.tile.ensures.same) (ap (λ s. s.generation) c.tile.ensures.same)
