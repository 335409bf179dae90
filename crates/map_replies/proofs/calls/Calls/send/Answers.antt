use Rattle.std.proofs.Common.{◌≤◌, length, refl, sym, arith}
use Rattle.std.proofs.lemmas.Option.{none-some}
use Rattle.map_replies.proofs.SendingLemmas.{begins}
use Rattle.map_replies.proofs.calls.Calls.send.Goals as goal

pub returns-in-Ok-Some-clause-begun : goal.returns-in-Ok-Some-clause-begun
returns-in-Ok-Some-clause-begun g c =
    let d = g.D.Sectors in
    let long = rw c.in-Ok-Some.field-0-is at c.in-Ok-Some.ensures.length in
    let read = rw c.in-Ok-Some.field-0-is at c.in-Ok-Some.ensures.read in
    let few : length c.in-Ok-Some.begun.items ≤ c.args.length = omega (arith, long, c.begin_size.ensures.within) in
    begins d.sectors d.honest d.history c.args.self.now.service
    c.archive_bytes.new.self.service c.args.first c.args.length c.in-Ok-Some.begun c.requires few read

pub archive_bytes-requires : goal.archive_bytes-requires
archive_bytes-requires g c = omega (arith, c.requires, c.begin_size.ensures.within)

pub returns-in-Ok-Some-clause-failed : goal.returns-in-Ok-Some-clause-failed
returns-in-Ok-Some-clause-failed g c = λ none. absurd (none-some _ (sym none))

pub returns-in-Ok-Some-clause-unfailed : goal.returns-in-Ok-Some-clause-unfailed
returns-in-Ok-Some-clause-unfailed g c = rw c.in-Ok-Some.field-0-is at c.in-Ok-Some.ensures.unfailed

pub returns-in-Ok-Some-clause-sending : goal.returns-in-Ok-Some-clause-sending
returns-in-Ok-Some-clause-sending g c = refl

pub returns-in-Ok-Some-clause-held : goal.returns-in-Ok-Some-clause-held
returns-in-Ok-Some-clause-held g c = c.archive_bytes.ensures.held

pub returns-in-Ok-None-clause-begun : goal.returns-in-Ok-None-clause-begun
returns-in-Ok-None-clause-begun g c = rw c.in-Ok-None.field-0-is at c.in-Ok-None.ensures.read

pub returns-in-Ok-None-clause-failed : goal.returns-in-Ok-None-clause-failed
returns-in-Ok-None-clause-failed g c = λ none. c.in-Ok-None.ensures.failed c.in-Ok-None.field-0-is

pub returns-in-Ok-None-clause-held : goal.returns-in-Ok-None-clause-held
returns-in-Ok-None-clause-held g c = c.archive_bytes.ensures.held

pub returns-in-Err-clause-refused : goal.returns-in-Err-clause-refused
returns-in-Err-clause-refused g c = c.in-Err.ensures.refused

pub returns-in-Err-clause-held : goal.returns-in-Err-clause-held
returns-in-Err-clause-held g c = c.archive_bytes.ensures.held

pub returns-in-Ok-Some-clause-some : goal.returns-in-Ok-Some-clause-some
returns-in-Ok-Some-clause-some g c =
    λ whole some. let long = rw c.in-Ok-Some.field-0-is at c.in-Ok-Some.ensures.length in
    omega (arith, long, c.begin_size.ensures.some whole some)

pub returns-in-Ok-None-clause-some : goal.returns-in-Ok-None-clause-some
returns-in-Ok-None-clause-some g c = λ whole. tt

pub returns-in-Err-clause-some : goal.returns-in-Err-clause-some
returns-in-Err-clause-some g c = λ whole. tt
