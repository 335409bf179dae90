use Rattle.std.proofs.Common.{ap}
use Rattle.archive_commands.proofs.Judged.{only_at_judging}
use Rattle.archive_commands.proofs.verifying.verify.Goals as goal

pub returns-clause-found : goal.returns-clause-found
returns-clause-found c = c.verify_source-judged.ensures.found c.args.archive.now (ap (λ s. s.now) c.verify_source-judged.ensures.source.same_behind)

pub returns-clause-only : goal.returns-clause-only
returns-clause-only c report sound = let bytes = c.args.archive.now in
    let same = ap (λ s. s.now) c.verify_source-judged.ensures.source.same_behind in
    only_at_judging report c.verify_source-judged.result.1 c.verify_source-judged.ensures.read (c.verify_source-judged.ensures.only bytes report same sound)

pub returns-clause-fault : goal.returns-clause-fault
returns-clause-fault c = c.verify_source-judged.ensures.fault c.args.archive.now (ap (λ s. s.now) c.verify_source-judged.ensures.source.same_behind)

pub returns-clause-memory : goal.returns-clause-memory
returns-clause-memory c = c.verify_source-judged.ensures.memory c.args.archive.now (ap (λ s. s.now) c.verify_source-judged.ensures.source.same_behind)
