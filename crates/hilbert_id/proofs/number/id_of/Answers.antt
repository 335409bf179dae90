use Rattle.std.proofs.Common.{arith}
use Rattle.hilbert_id.proofs.Ids.{one_id, below_end}
use Rattle.hilbert_id.proofs.number.id_of.Goals as goal

pub returns-clause-only : goal.returns-clause-only
returns-clause-only c = λ id h. one_id c.args.at.z c.args.at.x c.args.at.y id _ h (c.position.result, c.position.ensures.stands, omega arith)

pub returns-clause-below : goal.returns-clause-below
returns-clause-below c = omega (arith, below_end c.args.at.z c.args.at.zoom)
