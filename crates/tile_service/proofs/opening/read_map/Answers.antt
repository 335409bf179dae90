use Rattle.std.proofs.Common.{◌∙◌, ℕ, arith, subst}
use Rattle.sector_disk.proofs.AskedLaws.{reads_on}
use Rattle.generations.specs.Faults.{CountsDevice}
use Rattle.tile_service.proofs.opening.read_map.Goals as goal

pub returns-in-Err-clause-fault : goal.returns-in-Err-clause-fault
returns-in-Err-clause-fault g c honest = c.in-Err.ensures.fault c.args.version honest

pub read_snapshot-requires-clause-within : goal.read_snapshot-requires-clause-within
read_snapshot-requires-clause-within g c = c.requires.within

pub read_snapshot-requires-clause-can : goal.read_snapshot-requires-clause-can
read_snapshot-requires-clause-can g c = c.requires.can

pub returns-in-Err-clause-disk : goal.returns-in-Err-clause-disk
returns-in-Err-clause-disk g c = c.read_snapshot.ensures.disk

pub returns-in-Err-clause-failed : goal.returns-in-Err-clause-failed
returns-in-Err-clause-failed g c = c.in-Err.ensures.failed

pub read_edits-requires-clause-within : goal.read_edits-requires-clause-within
read_edits-requires-clause-within g c = omega (arith, c.requires.within, c.read_snapshot.ensures.disk.same_count)

pub read_edits-requires-clause-version : goal.read_edits-requires-clause-version
read_edits-requires-clause-version g c = c.requires.version

pub read_edits-requires-clause-can : goal.read_edits-requires-clause-can
read_edits-requires-clause-can g c = c.requires.can

pub returns-in-Ok-read_edits-clause-disk : goal.returns-in-Ok-read_edits-clause-disk
returns-in-Ok-read_edits-clause-disk g c = reads_on c.read_snapshot.ensures.disk c.read_edits.ensures.disk

pub returns-in-Ok-read_edits-clause-failed : goal.returns-in-Ok-read_edits-clause-failed
returns-in-Ok-read_edits-clause-failed g c = c.in-Ok-read_edits.ensures.failed ∙ c.in-Ok.ensures.failed

pub returns-in-Ok-read_edits-clause-ring : goal.returns-in-Ok-read_edits-clause-ring
returns-in-Ok-read_edits-clause-ring g c = c.in-Ok-read_edits.ensures.ring

pub returns-in-Ok-read_edits-clause-texts : goal.returns-in-Ok-read_edits-clause-texts
returns-in-Ok-read_edits-clause-texts g c = c.in-Ok-read_edits.ensures.texts

pub returns-in-Ok-read_edits-clause-counted : goal.returns-in-Ok-read_edits-clause-counted
returns-in-Ok-read_edits-clause-counted g c = c.in-Ok-read_edits.ensures.counted

pub returns-in-Ok-read_edits-clause-last : goal.returns-in-Ok-read_edits-clause-last
returns-in-Ok-read_edits-clause-last g c = c.in-Ok-read_edits.ensures.last

pub returns-in-Ok-read_edits-clause-reads : goal.returns-in-Ok-read_edits-clause-reads
returns-in-Ok-read_edits-clause-reads g c = c.in-Ok-read_edits.ensures.reads

pub returns-in-Ok-read_edits-clause-found : goal.returns-in-Ok-read_edits-clause-found
returns-in-Ok-read_edits-clause-found g c = λ honest.
    let before = c.read_edits.ensures.disk.was_honest honest in
    rw (c.read_snapshot.ensures.disk.same_history before) at c.in-Ok-read_edits.ensures.found honest (c.in-Ok.ensures.found before)

pub returns-in-Err-read_edits-clause-disk : goal.returns-in-Err-read_edits-clause-disk
returns-in-Err-read_edits-clause-disk g c = reads_on c.read_snapshot.ensures.disk c.read_edits.ensures.disk

pub returns-in-Err-read_edits-clause-failed : goal.returns-in-Err-read_edits-clause-failed
returns-in-Err-read_edits-clause-failed g c = subst (λ (count : ℕ). CountsDevice c.in-Err-read_edits.fault count (g.D.Sectors.faults c.read_edits.new.disk))
    c.in-Ok.ensures.failed c.in-Err-read_edits.ensures.failed

pub returns-in-Err-read_edits-clause-fault : goal.returns-in-Err-read_edits-clause-fault
returns-in-Err-read_edits-clause-fault g c = λ honest.
    let before = c.read_edits.ensures.disk.was_honest honest in
    rw (c.read_snapshot.ensures.disk.same_history before) at c.in-Err-read_edits.ensures.fault honest (c.in-Ok.ensures.found before)
