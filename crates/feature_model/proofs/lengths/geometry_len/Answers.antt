use Rattle.std.proofs.Common.{arith}
use Rattle.std.proofs.lemmas.Grind.{common_steps}
use Rattle.feature_model.proofs.TextLengths.{lines_short, polygons_short, rings_short, geometries}
use Rattle.feature_model.proofs.lengths.geometry_len.Goals as goal

pub lines_len-requires-clause-points : goal.lines_len-requires-clause-points
lines_len-requires-clause-points c = lines_short c.in-Lines.is c.deref-in-Lines.ensures.value c.requires

pub polygons_len-requires-clause-rings : goal.polygons_len-requires-clause-rings
polygons_len-requires-clause-rings c = polygons_short c.in-Polygons.is c.deref-in-Polygons.ensures.value c.requires

pub polygons_len-requires-clause-points : goal.polygons_len-requires-clause-points
polygons_len-requires-clause-points c = rings_short c.in-Polygons.is c.deref-in-Polygons.ensures.value c.requires

pub lines_len-requires-clause-count : goal.lines_len-requires-clause-count
lines_len-requires-clause-count c = grind (arith, common_steps, geometries)

pub polygons_len-requires-clause-count : goal.polygons_len-requires-clause-count
polygons_len-requires-clause-count c = grind (arith, common_steps, geometries)

pub returns-in-Points-clause-exact : goal.returns-in-Points-clause-exact
returns-in-Points-clause-exact c = grind (arith, common_steps, geometries)

pub returns-in-Lines-clause-exact : goal.returns-in-Lines-clause-exact
returns-in-Lines-clause-exact c = grind (arith, common_steps, geometries)
