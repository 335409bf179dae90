-- Geometries of polygons are the same where the polygons are.
use Rattle.std.proofs.Common.{◌≡◌, Bool, List, ap}
use Rattle.std.specs.Prelude.{◌↔◌, IsTrue}
use Rattle.feature_model.specs.declared.feature.World.{World}
use Rattle.feature_model.specs.Data.{world_polygons}

pub polygons_same : (b : Bool) (left rest : List (List (List World))) → (IsTrue b ↔ (left ≡ rest)) → IsTrue b ↔ (world_polygons left ≡ world_polygons rest)
polygons_same b left rest same = (λ t. ap world_polygons (same.0 t), λ e. same.1 (cc))
