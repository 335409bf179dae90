use Rattle.std.proofs.Common.{Ok, ap}
use Rattle.area_content.proofs.archive.next_short.Goals as goal

pub returns-in-Ok-Part-clause-part : goal.returns-in-Ok-Part-clause-part
returns-in-Ok-Part-clause-part c same = c.in-Ok-Part.ensures.part (ap Ok c.in-Ok-Part.field-0-is)

pub returns-in-Ok-Over-clause-over : goal.returns-in-Ok-Over-clause-over
returns-in-Ok-Over-clause-over c same = c.in-Ok-Over.ensures.over (ap Ok c.in-Ok-Over.field-0-is)
