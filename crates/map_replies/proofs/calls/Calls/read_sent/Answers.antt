use Rattle.std.proofs.Common.{◌≡◌, ◌+◌, length, arith}
use Rattle.std.proofs.lemmas.Bool.Decides.{nat_tests}
use Rattle.map_replies.proofs.SendingLemmas.{gives_bytes, gives_none, reads_nothing}
use Rattle.map_replies.proofs.TicketLemmas.{held_reading}
use Rattle.std.proofs.Common.{ap}
use Rattle.map_replies.proofs.calls.Calls.read_sent.Goals as goal

pub returns-then-is_empty-clause-read : goal.returns-then-is_empty-clause-read
returns-then-is_empty-clause-read g c =
    let d = g.D.Sectors in
    let none : length c.args.part.now ≡ 0 = grind (arith, nat_tests) in
    reads_nothing d.sectors d.honest d.history c.args.self.now.service (c.args.self.now.sending.first + c.args.offset) c.args.part.now none

pub returns-in-Ok-clause-read : goal.returns-in-Ok-clause-read
returns-in-Ok-clause-read g c =
    let d = g.D.Sectors in
    let call = c.archive_read.ensures in
    gives_bytes d.sectors d.honest d.history c.args.self.now.service c.archive_read.new.self call.same call.disk call.up
    (c.args.self.now.sending.first + c.args.offset) _ c.archive_read.new.into call.length c.in-Ok.ensures.shown

pub returns-in-Err-clause-read : goal.returns-in-Err-clause-read
returns-in-Err-clause-read g c =
    let d = g.D.Sectors in
    let call = c.archive_read.ensures in
    gives_none d.sectors d.honest d.history c.args.self.now.service c.archive_read.new.self call.same call.disk call.up
    (c.args.self.now.sending.first + c.args.offset)

pub returns-in-Ok-clause-held : goal.returns-in-Ok-clause-held
returns-in-Ok-clause-held g c =
    let d = g.D.Sectors in
    λ place first held. held_reading d.sectors d.honest d.history place first c.args.self.now.oldest c.args.self.now.service _ held
    c.archive_read.ensures.disk (ap (λ s. s.size) c.archive_read.ensures.same) (ap (λ s. s.generation) c.archive_read.ensures.same)

pub returns-in-Err-clause-held : goal.returns-in-Err-clause-held
returns-in-Err-clause-held g c =
    let d = g.D.Sectors in
    λ place first held. held_reading d.sectors d.honest d.history place first c.args.self.now.oldest c.args.self.now.service _ held
    c.archive_read.ensures.disk (ap (λ s. s.size) c.archive_read.ensures.same) (ap (λ s. s.generation) c.archive_read.ensures.same)
