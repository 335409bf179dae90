-- A kind, and then what it is the kind of.
use Rattle.std.proofs.Common.{◌≡◌, ℕ, List, [], ◌∷◌, ◌++◌, ap, ◌∙◌, append_assoc}
use Rattle.feature_model.specs.declared.feature.World.{World}
use Rattle.feature_model.specs.Data.{world_points, world_lines, world_polygons}
use Rattle.feature_model.specs.Spelled.{spelled_list, spelled_line, spelled_geometry}

behind_kind : (front kind text before out : List ℕ) → before ≡ front ++ kind → out ≡ before ++ text → out ≡ front ++ (kind ++ text)
behind_kind front kind text before out b o = o ∙ ap (λ r. r ++ text) b ∙ append_assoc front kind text

pub points_put : (front before out : List ℕ) (points : List World) → before ≡ front ++ 1 ∷ [] → out ≡ before ++ spelled_line points
    → out ≡ front ++ spelled_geometry (world_points points)
unfolding spelled_geometry
points_put front before out points b o = behind_kind front (1 ∷ []) (spelled_line points) before out b o

pub lines_put : (front before out : List ℕ) (lines : List (List World)) → before ≡ front ++ 2 ∷ [] → out ≡ before ++ spelled_list spelled_line lines
    → out ≡ front ++ spelled_geometry (world_lines lines)
unfolding spelled_geometry
lines_put front before out lines b o = behind_kind front (2 ∷ []) (spelled_list spelled_line lines) before out b o

pub polygons_put : (front before out : List ℕ) (polygons : List (List (List World))) → before ≡ front ++ 3 ∷ []
    → out ≡ before ++ spelled_list (spelled_list spelled_line) polygons → out ≡ front ++ spelled_geometry (world_polygons polygons)
unfolding spelled_geometry
polygons_put front before out polygons b o = behind_kind front (3 ∷ []) (spelled_list (spelled_list spelled_line) polygons) before out b o

pub ruleset geometries = (points_put, lines_put, polygons_put)
