-- Laws of the spellings, for whoever reads the contracts.
use Rattle.std.proofs.Common.{◌≡◌, ℕ, Bool, true, false, List, [], ◌∷◌, refl, sym, ◌∙◌}
use Rattle.std.specs.List.{AllByRecursion}
use Rattle.reader.proofs.Steps.{same_value}
use Rattle.geometry_commands.specs.declared.point.Pt.{Pt}
use Rattle.geometry_commands.specs.declared.decoding.GeometryFault.{GeometryFault}
use Rattle.geometry_commands.specs.declared.kinds.ShapeKind.{ShapeKind}
use Rattle.geometry_commands.specs.Commands.{origin}
use Rattle.geometry_commands.specs.Ways.{FitsPt}
use Rattle.geometry_commands.specs.Shapes.{ShapeView, points, lines, rings, raw, IsLine, IsShape, kind_of, shape_spelled, last_of}
use Rattle.geometry_commands.specs.Encodable.{CanSpellLines, CanSpell, FitsShape}
use Rattle.geometry_commands.proofs.Shaped.{shape_again}

-- integers spell at most one shape of a kind
pub one_shape : (kind : ShapeKind) (ints : List ℕ) (s t : ShapeView) → IsShape kind ints s → IsShape kind ints t → s ≡ t
one_shape kind ints s t hs ht = same_value {Fault = GeometryFault} s t (sym (shape_again kind ints s hs) ∙ shape_again kind ints t ht)

lines_whole : (closed : Bool) (from : Pt) (ls : List (List Pt)) → CanSpellLines closed from ls → AllByRecursion (AllByRecursion FitsPt) ls
    → AllByRecursion (IsLine closed) ls
lines_whole closed from [] can fits = tt
lines_whole closed from (l ∷ ls) can fits = (record { long = can.0.long; fits = fits.0 }, lines_whole closed (last_of from l) ls can.1 fits.1)

-- what is written for a shape spells it
pub spelled_is : (s : ShapeView) → CanSpell s → FitsShape s → IsShape (kind_of s) (shape_spelled s) s
spelled_is (points ps) can fits = (refl, fits)
spelled_is (lines ls) can fits = (refl, lines_whole false origin ls can fits)
spelled_is (rings ls) can fits = (refl, lines_whole true origin ls can fits)
spelled_is (raw ns) can fits = refl
