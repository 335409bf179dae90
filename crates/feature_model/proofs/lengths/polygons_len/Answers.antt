use Rattle.std.proofs.Common.{map}
use Rattle.feature_model.specs.Spelled.{spelled_list, spelled_line}
use Rattle.feature_model.proofs.TextLengths.{length-list_all}
use Rattle.feature_model.proofs.lengths.polygons_len.Goals as goal

pub returns-clause-exact : goal.returns-clause-exact
returns-clause-exact c = length-list_all (spelled_list spelled_line)
    (λ p. map (λ r. r.items) p.items) c.args.polygons.now _ _ c.loop-rings-test.false c.loop-rings.invariant.0
