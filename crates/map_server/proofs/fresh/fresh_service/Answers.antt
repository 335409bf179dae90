use Rattle.std.specs.Prelude.{Option, IfSome}
use Rattle.std.proofs.Common.{subst, sym, Some, None}
use Rattle.sector_disk.proofs.Laws.{seen_is_left}
use Rattle.sector_disk.specs.Disk.{seen}
use Rattle.sector_disk.specs.Views.{memory_history}
use Rattle.tile_service.specs.Service.{IsUp}
use Rattle.tile_service.specs.Stored.{Holds, first_state}
use Rattle.map_replies.specs.State.{asked_service}
use Rattle.map_server.proofs.fresh.fresh_service.Goals as goal

-- every disk in memory is honest
memory_is_honest : {D : Type 0} → (disk : Option D) → IfSome disk (λ _. Unit {0})
memory_is_honest None = tt
memory_is_honest (Some disk) = tt

pub returns-in-Ok-opened_service-clause-ready : goal.returns-in-Ok-opened_service-clause-ready
returns-in-Ok-opened_service-clause-ready c =
    let history = memory_history c.in-Ok.disk in
    let holds = subst (λ n. Holds n c.args.sectors first_state (seen history)) (sym c.in-Ok.ensures.count)
    (c.in-Ok.ensures.holds (seen history) (seen_is_left history)) in
    let asked = asked_service c.in-Ok-opened_service.service in
    let up = (c.in-Ok-opened_service.ensures.opened c.args.sectors first_state holds tt).1 in
    subst (λ n. IsUp n (memory_history asked.disk) first_state asked) c.in-Ok.ensures.count up

pub returns-clause-only : goal.returns-clause-only
returns-clause-only c size =
    let history = memory_history c.in-Ok.disk in
    let holds = subst (λ n. Holds n c.args.sectors first_state (seen history)) (sym c.in-Ok.ensures.count)
    (c.in-Ok.ensures.holds (seen history) (seen_is_left history)) in
    c.in-Err-opened_service.ensures.refused c.args.sectors first_state holds (memory_is_honest c.in-Err-opened_service.field-0-0)
