use Rattle.std.proofs.Common.{◌≡◌, Some, List, ℕ, length, Err, refl, sym, ◌∙◌, ap, subst, arith}
use Rattle.std.proofs.lemmas.List.{take_at}
use Rattle.std.proofs.lemmas.Option.{none-some}
use Rattle.tile_service.specs.Machine.{read}
use Rattle.tile_service.specs.Runs.{Takes}
use Rattle.map_replies.proofs.Answering.{device_failed}
use Rattle.map_replies.proofs.SendingLemmas.{gives_bytes, gives_none}
use Rattle.map_replies.proofs.TicketLemmas.{held_reading}
use Rattle.map_replies.proofs.calls.Calls.archive_bytes.Goals as goal

pub returns-in-Ok-archive_read-clause-read : goal.returns-in-Ok-archive_read-clause-read
returns-in-Ok-archive_read-clause-read g c =
    let d = g.D.Sectors in
    let call = c.archive_read.ensures in
    let old = c.args.self.now.service in
    let new = c.archive_read.new.self in
    let into = c.archive_read.new.into in
    let whole : length into ≡ c.in-Ok.bytes.len = omega (arith, call.length, ap length c.deref_mut.ensures.value, c.in-Ok.bytes.ok.0) in
    subst (λ (bytes : List ℕ). Takes d.sectors d.honest d.history old (read c.args.at (Some bytes)) new)
    (sym (take_at into _ c.in-Ok.bytes.len whole))
    (gives_bytes d.sectors d.honest d.history old new call.same call.disk call.up c.args.at _ into
    call.length c.in-Ok-archive_read.ensures.shown)

pub returns-in-Err-clause-read : goal.returns-in-Err-clause-read
returns-in-Err-clause-read g c =
    let d = g.D.Sectors in
    let call = c.archive_read.ensures in
    gives_none d.sectors d.honest d.history c.args.self.now.service c.archive_read.new.self
    call.same call.disk call.up c.args.at

pub returns-in-Ok-archive_read-clause-held : goal.returns-in-Ok-archive_read-clause-held
returns-in-Ok-archive_read-clause-held g c =
    let d = g.D.Sectors in
    λ place first held. held_reading d.sectors d.honest d.history place first c.args.self.now.oldest c.args.self.now.service _ held
    c.archive_read.ensures.disk (ap (λ s. s.size) c.archive_read.ensures.same) (ap (λ s. s.generation) c.archive_read.ensures.same)

pub returns-in-Err-clause-held : goal.returns-in-Err-clause-held
returns-in-Err-clause-held g c =
    let d = g.D.Sectors in
    λ place first held. held_reading d.sectors d.honest d.history place first c.args.self.now.oldest c.args.self.now.service _ held
    c.archive_read.ensures.disk (ap (λ s. s.size) c.archive_read.ensures.same) (ap (λ s. s.generation) c.archive_read.ensures.same)

pub returns-in_default-clause-refused : goal.returns-in_default-clause-refused
returns-in_default-clause-refused g c = (refl, refl)

pub returns-in_default-clause-held : goal.returns-in_default-clause-held
returns-in_default-clause-held g c = λ place first held. held

pub archive_read-requires : goal.archive_read-requires
archive_read-requires g c = omega (arith, c.requires, ap length c.deref_mut.ensures.value, c.in-Ok.bytes.ok.0, c.in-Ok.ensures.len)

pub returns-in-Ok-archive_read-clause-failed : goal.returns-in-Ok-archive_read-clause-failed
returns-in-Ok-archive_read-clause-failed g c = λ none. absurd (none-some _ (sym none))

pub returns-in-Ok-archive_read-clause-unfailed : goal.returns-in-Ok-archive_read-clause-unfailed
returns-in-Ok-archive_read-clause-unfailed g c = c.in-Ok-archive_read.ensures.failed

pub returns-in-Ok-archive_read-clause-length : goal.returns-in-Ok-archive_read-clause-length
returns-in-Ok-archive_read-clause-length g c =
    let whole : length c.archive_read.new.into ≡ c.in-Ok.bytes.len = omega (
      arith,
      c.archive_read.ensures.length,
      ap length c.deref_mut.ensures.value,
      c.in-Ok.bytes.ok.0,
    ) in
    ap length (take_at c.archive_read.new.into _ c.in-Ok.bytes.len whole) ∙ whole ∙ c.in-Ok.ensures.len

pub returns-in-Err-clause-failed : goal.returns-in-Err-clause-failed
returns-in-Err-clause-failed g c = λ none.
    device_failed {A = ℕ} (Err c.in-Err.field-0) (g.D.Sectors.faults c.args.self.now.service.disk) (g.D.Sectors.faults c.archive_read.new.self.disk)
    c.in-Err.ensures.failed c.in-Err.ensures.fault
