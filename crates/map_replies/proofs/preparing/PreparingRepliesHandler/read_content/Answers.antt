use Rattle.std.proofs.Common.{[], inl, refl}
use Rattle.map_replies.proofs.ReadyLemmas.{on_ok, on_err}
use Rattle.map_replies.proofs.preparing.PreparingRepliesHandler.read_content.Goals as goal

pub returns-clause-read : goal.returns-clause-read
returns-clause-read g c = on_ok c.read_content.result _ _
    (λ more old request reply is. let two = more old.replies request reply is.1 in
    ((is.0, two.0, is.2), inl ([], old.replies, inl (refl, refl, is.2, is.0), two.1))) c.read_content.ensures.read

pub returns-clause-unread : goal.returns-clause-unread
returns-clause-unread g c = on_err c.read_content.result _ _
    (λ fails old request reply is. (is.0, fails old.replies request reply is.1, is.2)) c.read_content.ensures.unread
