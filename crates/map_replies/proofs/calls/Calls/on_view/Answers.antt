use Rattle.std.proofs.Common.{refl}
use Rattle.map_replies.proofs.SendingLemmas.{answered_on, whole_answer, whole_words}
use Rattle.map_replies.proofs.calls.Calls.on_view.Goals as goal

pub returns-in-Archive-clause-answered : goal.returns-in-Archive-clause-answered
returns-in-Archive-clause-answered g c =
    rw c.in-Archive.is (answered_on _ _ _ _ c.archive.result (λ view is. is) (λ view is. (refl, is)) c.archive.ensures.answered)

pub returns-in-Metadata-clause-answered : goal.returns-in-Metadata-clause-answered
returns-in-Metadata-clause-answered g c = rw c.in-Metadata.is (whole_answer _ _ c.metadata.result c.metadata.ensures.answered c.metadata.ensures.writable)

pub returns-in-Metadata-clause-words : goal.returns-in-Metadata-clause-words
returns-in-Metadata-clause-words g c = whole_words c.metadata.result c.metadata.ensures.writable

pub returns-in-Metadata-clause-held : goal.returns-in-Metadata-clause-held
returns-in-Metadata-clause-held g c = c.metadata.ensures.held

pub returns-in-Archive-clause-words : goal.returns-in-Archive-clause-words
returns-in-Archive-clause-words g c = c.archive.ensures.words

pub returns-in-Archive-clause-held : goal.returns-in-Archive-clause-held
returns-in-Archive-clause-held g c = c.archive.ensures.held

pub returns-in-Status-clause-answered : goal.returns-in-Status-clause-answered
returns-in-Status-clause-answered g c = rw c.in-Status.is (whole_answer _ _ c.status.result c.status.ensures.answered c.status.ensures.writable)

pub returns-in-Status-clause-words : goal.returns-in-Status-clause-words
returns-in-Status-clause-words g c = whole_words c.status.result c.status.ensures.writable

pub returns-in-Status-clause-held : goal.returns-in-Status-clause-held
returns-in-Status-clause-held g c = c.status.ensures.held
