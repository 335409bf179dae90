use Rattle.std.proofs.Common.{◌∙◌}
use Rattle.http_serve.proofs.sessions.Session.read_from.Goals as goal

pub read_more-requires : goal.read_more-requires
read_more-requires g c = record { space = c.args.self.now.space; reserved = c.args.self.now.reserved; few = c.requires }

pub invariant_of-self : goal.invariant_of-self
invariant_of-self g c = record {
  reserved = c.read_more.ensures.reserved ∙ c.args.self.now.reserved;
  space = c.read_more.ensures.len ∙ c.args.self.now.space;
}

pub returns-clause-ok : goal.returns-clause-ok
returns-clause-ok g c = c.read_more.ensures.ok

pub returns-clause-err : goal.returns-clause-err
returns-clause-err g c = c.read_more.ensures.err
