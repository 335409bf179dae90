use Rattle.std.proofs.Common.{subst}
use Rattle.map_server.proofs.Confirmed.{ConfirmedRuns, ConfirmedServes, confirmed_deeds, confirmed_run}
use Rattle.map_server.proofs.Told.{told_ok, told_err}
use Rattle.map_server.proofs.confirming.serve_confirmed_on.Goals as goal

pub returns-clause-all : goal.returns-clause-all
returns-clause-all g c = told_ok c.serve_on.result _ _
    (λ is. let d = g.D.Sectors in
    let told = confirmed_run d.sectors d.honest d.history d.faults c.args.service.now is.0 c.serve_on.new.handler
    (subst (λ s. ConfirmedServes d.sectors d.honest d.history d.faults s is.0 c.serve_on.new.handler) c.forget.ensures is.1) in
    (is.0, is.2, is.3, told.0, told.1, told.2, told.3, told.4))
    c.serve_on.ensures.known

pub returns-clause-fewer : goal.returns-clause-fewer
returns-clause-fewer g c = told_err c.serve_on.result _ _
    (λ is. let d = g.D.Sectors in
    let told = confirmed_run d.sectors d.honest d.history d.faults c.args.service.now is.0 c.serve_on.new.handler
    (subst (λ s. ConfirmedServes d.sectors d.honest d.history d.faults s is.0 c.serve_on.new.handler) c.forget.ensures is.1) in
    (is.0, is.2, is.3, told.0, told.1, told.2, told.3, told.4))
    c.serve_on.ensures.fewer_known

pub returns-clause-named : goal.returns-clause-named
returns-clause-named g c =
    let d = g.D.Sectors in
    let named = c.serve_on.ensures.named in
    let told = confirmed_deeds d.sectors d.honest d.history d.faults c.args.service.now named.0 c.serve_on.new.handler
    (subst (λ s. ConfirmedRuns d.sectors d.honest d.history d.faults s named.0 c.serve_on.new.handler) c.forget.ensures named.1) in
    (named.0, told.0, told.1, told.2, told.3, told.4, told.5, told.6, named.2, named.3)
