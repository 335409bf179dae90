use Rattle.std.proofs.Common.{subst}
use Rattle.http_requests.specs.Requests.{RequestView}
use Rattle.http_requests.proofs.ReadingLemmas.{request_alone}
use Rattle.http_serve.proofs.CarryLemmas.{framed_view}
use Rattle.http_serve.proofs.connection.Connection.prepare.Goals as goal

pub returns : goal.returns
returns g c =
    let found = c.requires.found in (
      found.0,
      request_alone c.args.self.now.input found.0 c.args.frame.now.body.end found.1.body_within.1 found.1.is,
      subst (λ (v : RequestView). g.H.Prepares.prepares c.args.handler.now c.args.number v c.prepare_at.new.handler)
          (framed_view c.args.self.now.input c.args.fields.now c.args.frame.now found.0 found.1) (rw c.bytes.ensures at c.prepare_at.ensures),
    )
