use Rattle.std.proofs.Common.{◌≡◌, subst, sym}
use Rattle.tile_service.specs.Service.{IsUp}
use Rattle.map_server.proofs.opening.opened_service.Goals as goal

pub returns-clause-opened : goal.returns-clause-opened
returns-clause-opened g c n stored holds honest =
    let opened = c.in-Ok.ensures.opened n stored holds in
    subst (λ s. g.D.Sectors.honest s.disk → (s.size ≡ n) × IsUp (g.D.Sectors.sectors c.args.disk) (g.D.Sectors.history s.disk) stored s)
    (sym c.new-replies.ensures.service)
    (λ kept. (
      (opened kept).0,
      subst (λ count. IsUp count (g.D.Sectors.history c.in-Ok.service.disk) stored c.in-Ok.service)
          c.in-Ok.ensures.disk.same_count (opened kept).1,
    ))
    honest
