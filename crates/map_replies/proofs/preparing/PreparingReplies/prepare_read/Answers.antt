use Rattle.map_replies.proofs.ReadyLemmas.{part_on}
use Rattle.map_replies.proofs.preparing.PreparingReplies.prepare_read.Goals as goal

pub returns-in-Some-true : goal.returns-in-Some-true
returns-in-Some-true g c =
    let d = g.D.Sectors in
    part_on d.sectors d.honest d.history d.faults c.args.self.now c.read_part.new.self _ c.after_part.ensures.same c.after_part.ensures.whole
    c.read_part.ensures

pub returns-in-Some-false : goal.returns-in-Some-false
returns-in-Some-false g c =
    let d = g.D.Sectors in
    part_on d.sectors d.honest d.history d.faults c.args.self.now c.read_part.new.self _ c.end_part.ensures.same c.end_part.ensures.whole
    c.read_part.ensures

pub returns-in-None : goal.returns-in-None
returns-in-None g c =
    let d = g.D.Sectors in
    part_on d.sectors d.honest d.history d.faults c.args.self.now c.read_part.new.self _ c.end_part-in-None.ensures.same c.end_part-in-None.ensures.whole
    c.read_part.ensures
