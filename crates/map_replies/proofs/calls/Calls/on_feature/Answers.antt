use Rattle.map_replies.proofs.calls.Calls.on_feature.Goals as goal

pub returns-in-Put-clause-answered : goal.returns-in-Put-clause-answered
returns-in-Put-clause-answered g c = rw c.in-Put.is c.put.ensures.answered

pub returns-in-Put-clause-writable : goal.returns-in-Put-clause-writable
returns-in-Put-clause-writable g c = c.put.ensures.writable

pub returns-in-Put-clause-held : goal.returns-in-Put-clause-held
returns-in-Put-clause-held g c = c.put.ensures.held

pub returns-in-Delete-clause-answered : goal.returns-in-Delete-clause-answered
returns-in-Delete-clause-answered g c = rw c.in-Delete.is c.delete.ensures.answered

pub returns-in-Delete-clause-writable : goal.returns-in-Delete-clause-writable
returns-in-Delete-clause-writable g c = c.delete.ensures.writable

pub returns-in-Delete-clause-held : goal.returns-in-Delete-clause-held
returns-in-Delete-clause-held g c = c.delete.ensures.held
