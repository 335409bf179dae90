use Rattle.std.proofs.Common.{map, rules}
use Rattle.feature_model.specs.Limits.{RingsFit}
use Rattle.feature_model.proofs.Mapped.{tests_map}
use Rattle.feature_model.proofs.limits.each_polygon_fits.Goals as goal

pub returns : goal.returns
returns c = tests_map RingsFit (λ p. map (λ r. r.items) p.items) c.args.polygons.now _ (search rules)
