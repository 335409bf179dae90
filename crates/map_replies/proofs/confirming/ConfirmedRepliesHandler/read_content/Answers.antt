use Rattle.std.proofs.Common.{inl, inr, refl}
use Rattle.http_serve.specs.Reply.{with_part}
use Rattle.map_replies.proofs.ConfirmedLemmas.{keeps_on, on_ok_of, on_err_of, sends_last}
use Rattle.map_replies.proofs.confirming.ConfirmedRepliesHandler.read_content.Goals as goal

pub returns-clause-read : goal.returns-clause-read
returns-clause-read g c = on_ok_of c.read_content.result _ _
    (λ more old request reply is.
    let d = g.D.Sectors in
    let new = record c.args.self.now { inner = c.read_content.new.self } in
    let read = with_part c.args.offset c.read_content.new.part reply in
    let two = more old.inner request reply is.1 in
    let keeps = keeps_on old c.args.self.now new is.2 refl
    (sends_last d.sectors d.honest d.history d.faults old.inner request reply c.args.self.now.inner is.1)
    (sends_last d.sectors d.honest d.history d.faults old.inner request read c.read_content.new.self two.0) in
    ((is.0, two.0, keeps), inr (read, is.0, two.1, keeps, inl refl))) c.read_content.ensures.read

pub returns-clause-unread : goal.returns-clause-unread
returns-clause-unread g c = on_err_of c.read_content.result _ _
    (λ fails old request reply is. (is.0, fails old.inner request reply is.1, is.2.confirmed)) c.read_content.ensures.unread
