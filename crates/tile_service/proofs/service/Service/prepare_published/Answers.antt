use Rattle.std.proofs.Common.{◌∙◌, refl, sym}
use Rattle.std.proofs.lemmas.Bool.{false≢true}
use Rattle.sector_bytes.proofs.Counts.{same_count}
use Rattle.sector_disk.proofs.AskedLaws.{reads_none}
use Rattle.tile_service.proofs.service.Service.prepare_published.Goals as goal

-- nothing is read

pub returns-then-not-is_read-clause-same : goal.returns-then-not-is_read-clause-same
returns-then-not-is_read-clause-same g c = refl

pub returns-then-not-is_read-clause-disk : goal.returns-then-not-is_read-clause-disk
returns-then-not-is_read-clause-disk g c = reads_none _

pub returns-then-not-is_read-clause-never_falls : goal.returns-then-not-is_read-clause-never_falls
returns-then-not-is_read-clause-never_falls g c = same_count _ _ refl

pub returns-then-not-is_read-clause-untouched : goal.returns-then-not-is_read-clause-untouched
returns-then-not-is_read-clause-untouched g c = λ broken. (refl, refl)

pub returns-then-not-is_read-clause-up : goal.returns-then-not-is_read-clause-up
returns-then-not-is_read-clause-up g c = λ stored up honest. up

-- a part is read

pub returns-clause-same : goal.returns-clause-same
returns-clause-same g c = c.archived_part.ensures.same

pub returns-clause-disk : goal.returns-clause-disk
returns-clause-disk g c = c.archived_part.ensures.disk

pub returns-clause-never_falls : goal.returns-clause-never_falls
returns-clause-never_falls g c = c.archived_part.ensures.never_falls

pub returns-clause-untouched : goal.returns-clause-untouched
returns-clause-untouched g c = λ broken. absurd (false≢true (sym (c.is_read.ensures c.if-not-is_read.false) ∙ broken))

pub returns-clause-up : goal.returns-clause-up
returns-clause-up g c = c.archived_part.ensures.up
