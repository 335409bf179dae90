use Rattle.std.proofs.Common.{◌≡◌, ◌∙◌, ap, subst}
use Rattle.http_requests.specs.Requests.{RequestView}
use Rattle.tile_routes.specs.Paths.{granted}
use Rattle.tile_routes.specs.Targets.{asked_of}
use Rattle.map_replies.specs.Meanings.{asked_for}
use Rattle.map_replies.specs.State.{access_of}
use Rattle.map_replies.proofs.service.MapReplies.target.Goals as goal

pub returns : goal.returns
returns g c =
    let old = c.args.self.now in
    subst (λ (r : RequestView). asked_of c.granted.result ≡ asked_for (access_of old) r) c.request.view_is
    (c.granted.ensures.asked ∙ ap (granted old.settings.access) c.target.ensures.asked)
