-- What a pass over a list of points does at each.
use Rattle.std.specs.Prelude.{◌&&◌, not, Bool, true, false, Option, Some, None, List, [], ◌∷◌, ◌++◌, map, Vec, if◌then◌else◌}
use Rattle.std.specs.Ordering.{int_eq}
use Rattle.std.specs.declared.alloc.Global.{Global}
use Rattle.geometry_commands.specs.declared.point.Pt.{Pt}
use Rattle.geometry_commands.specs.Shapes.{last_of}
use Rattle.tile_cutter.specs.declared.rings.Role.{Role}
use Rattle.tile_cutter.specs.declared.rings.Role.TheVariants.{Outer, Inner}
use Rattle.tile_cutter.specs.Cut.{in_box, Segment, is_kept, meets_box, is_ring, outward, inward}

abbrev pub is_same_position : Pt → Pt → Bool
is_same_position p q = int_eq p.x q.x && int_eq p.y q.y

-- whether a point is the one before it again
abbrev pub repeats : Option Pt → Pt → Bool
repeats None p = false
repeats (Some q) p = is_same_position p q

-- whether a tile shows a point
abbrev pub is_shown : Option Pt → Pt → Bool
is_shown before p = not (repeats before p) && in_box p

-- the point before, where it is another one
abbrev pub other_than : Option Pt → Pt → Option Pt
other_than before p = if repeats before p then None else before

-- an open chain with a segment more
abbrev pub longer : List Pt → Segment → List Pt
longer [] s = s.0 ∷ s.1 ∷ []
longer (p ∷ ps) s = (p ∷ ps) ++ s.1 ∷ []

-- the open chain after a segment
abbrev pub chain_after : List Pt → Segment → List Pt
chain_after chain s = if is_kept s then longer chain s else []

-- a chain of points, where there are any
abbrev pub chain_of : List Pt → List (List Pt)
chain_of [] = []
chain_of (p ∷ ps) = (p ∷ ps) ∷ []

-- the chain that a segment ends
abbrev pub ended_by : List Pt → Segment → List (List Pt)
ended_by chain s = if is_kept s then [] else chain_of chain

-- whether the last point of a ring is the first again
abbrev pub returns_to_start : List Pt → Bool
returns_to_start [] = false
returns_to_start (p ∷ ps) = is_same_position p (last_of p ps)

-- a ring the way round that it has to go, where it has three points and an area
abbrev pub wound : Role → List Pt → Option (List Pt)
wound Outer ps = if is_ring ps then Some (outward ps) else None
wound Inner ps = if is_ring ps then Some (inward ps) else None

-- what a tile shows of a ring
abbrev pub shown_ring : Role → List Pt → Option (List Pt)
shown_ring Outer ps = if meets_box ps then wound Outer ps else None
shown_ring Inner ps = wound Inner ps

-- a ring, where it is shown
abbrev pub where_shown : Bool → List Pt → Option (List Pt)
where_shown true ps = Some ps
where_shown false ps = None

abbrev pub lists_of : {X : Type 0} → List (Vec X Global) → List (List X)
lists_of vs = map (λ v. v.items) vs
