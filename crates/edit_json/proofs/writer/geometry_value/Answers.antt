use Rattle.std.proofs.lemmas.Result.{IfOk-weaker}
use Rattle.edit_json.specs.Json.{name_bytes}
use Rattle.edit_json.proofs.writer.geometry_value.Goals as goal

pub returns-in-Points : goal.returns-in-Points
unfolding name_bytes
returns-in-Points c = rw c.in-Points.is (IfOk-weaker c.object_of.result _ _ (λ v made. made _ c.points_value.ensures) c.object_of.ensures)

pub returns-in-Lines : goal.returns-in-Lines
unfolding name_bytes
returns-in-Lines c = rw c.in-Lines.is (IfOk-weaker c.object_of-in-Lines.result _ _ (λ v made. made _ c.lines_value.ensures) c.object_of-in-Lines.ensures)

pub returns-in-Polygons : goal.returns-in-Polygons
unfolding name_bytes
returns-in-Polygons c =
    rw c.in-Polygons.is (IfOk-weaker c.object_of-in-Polygons.result _ _ (λ v made. made _ c.polygons_value.ensures) c.object_of-in-Polygons.ensures)
