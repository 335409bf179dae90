use Rattle.std.proofs.Common.{◌≡◌, sym, subst}
use Rattle.http_requests.specs.Requests.{RequestView}
use Rattle.tile_routes.specs.Targets.{asked_of}
use Rattle.tile_service.specs.Service.{ServiceView}
use Rattle.map_replies.specs.Meanings.{asked_for}
use Rattle.map_replies.specs.State.{access_of}
use Rattle.map_replies.proofs.Routed.{Replied, replied, refused}
use Rattle.map_replies.proofs.service.MapReplies.answer_at.Goals as goal

pub returns-in-Ok-clause-replied : goal.returns-in-Ok-clause-replied
returns-in-Ok-clause-replied g c =
    let d = g.D.Sectors in
    let old = c.args.self.now in
    let inside = c.request.inside in
    let request : RequestView = record {
      method = inside.method.now;
      path = inside.path.now;
      query = inside.query.now;
      fields = inside.fields;
      body = inside.body.now;
      close = inside.close;
    } in
    let before = record old { calls = record old.calls { service = c.let_go.new.self } } in
    subst (λ (s : ServiceView g.row.D.Denot). Replied d.sectors d.honest d.history d.faults
    (record old { calls = record old.calls { service = s } }) c.args.request.now c.in-Ok.reply (record old { calls = c.respond.new.self }))
    c.let_go.ensures
    (subst (λ (r : RequestView). Replied d.sectors d.honest d.history d.faults before r c.in-Ok.reply (record old { calls = c.respond.new.self }))
    c.request.view_is
    (replied d.sectors d.honest d.history d.faults before request c.respond.new.self _ _ c.method-method.ensures
    (subst (λ (r : RequestView). asked_of c.args.target ≡ asked_for (access_of old) r) (sym c.request.view_is) c.requires.asked) c.respond.ensures.held
    c.in-Ok.reply
    c.in-Ok.ensures.answered c.in-Ok.ensures.oldest))

pub returns-in-Err-clause-replied : goal.returns-in-Err-clause-replied
returns-in-Err-clause-replied g c =
    let d = g.D.Sectors in
    let old = c.args.self.now in
    let inside = c.request.inside in
    let request : RequestView = record {
      method = inside.method.now;
      path = inside.path.now;
      query = inside.query.now;
      fields = inside.fields;
      body = inside.body.now;
      close = inside.close;
    } in
    let before = record old { calls = record old.calls { service = c.let_go.new.self } } in
    subst (λ (s : ServiceView g.row.D.Denot). Replied d.sectors d.honest d.history d.faults
    (record old { calls = record old.calls { service = s } }) c.args.request.now c.refusal.result (record old { calls = c.respond.new.self }))
    c.let_go.ensures
    (subst (λ (r : RequestView). Replied d.sectors d.honest d.history d.faults before r c.refusal.result (record old { calls = c.respond.new.self }))
    c.request.view_is
    (refused d.sectors d.honest d.history d.faults before request c.respond.new.self _ _ c.method-method.ensures
    (subst (λ (r : RequestView). asked_of c.args.target ≡ asked_for (access_of old) r) (sym c.request.view_is) c.requires.asked) c.respond.ensures.held
    c.in-Err.fault c.refusal.result
    c.refusal.ensures.writable c.refusal.ensures.reply c.in-Err.ensures.answered c.in-Err.ensures.oldest))
