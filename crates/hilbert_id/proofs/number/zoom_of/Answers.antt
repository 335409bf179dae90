use Rattle.std.proofs.Common.{refl, ◌/◌}
use Rattle.hilbert_id.proofs.Ids.{zoom_bits}
use Rattle.hilbert_id.proofs.number.zoom_of.Goals as goal

pub returns-clause-first : goal.returns-clause-first
returns-clause-first c = (zoom_bits (c.ilog2.result / 2) c.ilog2.result c.args.id refl c.ilog2.ensures.power_le c.ilog2.ensures.next_power_gt).0

pub returns-clause-last : goal.returns-clause-last
returns-clause-last c = (zoom_bits (c.ilog2.result / 2) c.ilog2.result c.args.id refl c.ilog2.ensures.power_le c.ilog2.ensures.next_power_gt).1
