use Rattle.std.proofs.Common.{arith}
use Rattle.std.proofs.lemmas.Grind.{common_steps}
use Rattle.edit_text.proofs.GeometryKinds.{geometries}
use Rattle.feature_model.proofs.TextLengths.{lines_short, polygons_short, rings_short}
use Rattle.edit_text.proofs.encoding.put_geometry.Goals as goal

pub put_lines-requires-clause-points : goal.put_lines-requires-clause-points
put_lines-requires-clause-points c = lines_short c.in-Lines.is c.deref-in-Lines.ensures.value c.requires

pub put_polygons-requires-clause-rings : goal.put_polygons-requires-clause-rings
put_polygons-requires-clause-rings c = polygons_short c.in-Polygons.is c.deref-in-Polygons.ensures.value c.requires

pub put_polygons-requires-clause-points : goal.put_polygons-requires-clause-points
put_polygons-requires-clause-points c = rings_short c.in-Polygons.is c.deref-in-Polygons.ensures.value c.requires

pub returns-in_ok-push-in-Lines-clause-types : goal.returns-in_ok-push-in-Lines-clause-types
returns-in_ok-push-in-Lines-clause-types c = rw (c.in-Lines.is, ← c.deref-in-Lines.ensures.value) c.put_lines.ensures.types

pub returns-in_ok-push-in-Polygons-clause-types : goal.returns-in_ok-push-in-Polygons-clause-types
returns-in_ok-push-in-Polygons-clause-types c = rw (c.in-Polygons.is, ← c.deref-in-Polygons.ensures.value) c.put_polygons.ensures.types

pub put_lines-requires-clause-count : goal.put_lines-requires-clause-count
put_lines-requires-clause-count c = grind (arith, common_steps, geometries)

pub put_polygons-requires-clause-count : goal.put_polygons-requires-clause-count
put_polygons-requires-clause-count c = grind (arith, common_steps, geometries)

pub returns-in_ok-push-in-Points-clause-text : goal.returns-in_ok-push-in-Points-clause-text
returns-in_ok-push-in-Points-clause-text c = grind (arith, common_steps, geometries)

pub returns-in_ok-push-in-Lines-clause-text : goal.returns-in_ok-push-in-Lines-clause-text
returns-in_ok-push-in-Lines-clause-text c = grind (arith, common_steps, geometries)

pub returns-in_ok-push-in-Polygons-clause-text : goal.returns-in_ok-push-in-Polygons-clause-text
returns-in_ok-push-in-Polygons-clause-text c = grind (arith, common_steps, geometries)
