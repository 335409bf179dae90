-- What is shown of lines can be written.
use Rattle.std.proofs.Common.{◌≡◌, ℕ, ◌+◌, ◌^◌, ◌<◌, ◌≤◌, suc, Bool, true, false, cond, not, List, [], ◌∷◌, map, length, arith}
use Rattle.std.specs.Prelude.{All, filter}
use Rattle.std.specs.List.{slice_split, onto_first}
use Rattle.std.proofs.lemmas.List.{length-map}
use Rattle.std.proofs.lemmas.List.Elements.{All-nil, All-cons, All-head, All-tail, All-map, All-filter, All-weaker, filter_passes}
use Rattle.feature_model.specs.declared.feature.World.{World}
use Rattle.geometry_commands.specs.declared.point.Pt.{Pt}
use Rattle.tile_cutter.specs.Cut.{Segment, segments, is_kept, way_along, is_some_segment, tile_points, line_cut, points_cut, in_box}
use Rattle.feature_model.specs.Types.{IsOfWorld}
use Rattle.feature_model.specs.declared.limits.TheConstants.{MAX_ZOOM}
use Rattle.tile_cutter.specs.Range.{IsOfTile, IsDrawable}
use Rattle.tile_cutter.proofs.Kept.{points_all, points_keep, length_points, stands_in_tile}
use Rattle.tile_cutter.proofs.Chains.{is_left_out}
use Rattle.tile_cutter.proofs.Passes.{stands_at}

-- both ends
abbrev pub Both : (Pt → Type 0) → Segment → Type 0
Both P s = P s.0 × P s.1

pub all_segments : (P : Pt → Type 0) (ps : List Pt) → All P ps → All (Both P) (segments ps)
all_segments P [] all = All-nil (Both P)
all_segments P (p ∷ []) all = All-nil (Both P)
all_segments P (p ∷ q ∷ qs) all =
    let rest = All-tail P p (q ∷ qs) all in
    All-cons (Both P) (p, q) (segments (q ∷ qs)) (All-head P p (q ∷ qs) all, All-head P q qs rest) (all_segments P (q ∷ qs) rest)

pub length_segments : (ps : List Pt) → length (segments ps) ≤ length ps
length_segments [] = omega arith
length_segments (p ∷ []) = omega arith
length_segments (p ∷ q ∷ qs) = let less = length_segments (q ∷ qs) in omega (arith, less)

-- a part of a list
abbrev IsPart : (Segment → Type 0) → ℕ → List Segment → Type 0
IsPart P n part = All P part × (length part ≤ n)

part_longer : (P : Segment → Type 0) (n : ℕ) (part : List Segment) → IsPart P n part → IsPart P (suc n) part
part_longer P n part is = (is.0, omega (arith, is.1))

all_onto_first : (P : Segment → Type 0) (n : ℕ) (s : Segment) (parts : List (List Segment)) → P s → All (IsPart P n) parts
    → All (IsPart P (suc n)) (onto_first s parts)
all_onto_first P n s [] here all = All-cons (IsPart P (suc n)) (s ∷ []) [] (All-cons P s [] here (All-nil P), omega arith) (All-nil (IsPart P (suc n)))
all_onto_first P n s (part ∷ parts) here all =
    let first = All-head (IsPart P n) part parts all in
    All-cons (IsPart P (suc n)) (s ∷ part) parts (All-cons P s part here first.0, omega (arith, first.1))
    (All-weaker (IsPart P n) (IsPart P (suc n)) (part_longer P n) parts (All-tail (IsPart P n) part parts all))

all_split : (P : Segment → Type 0) (ss : List Segment) → All P ss → All (IsPart P (length ss)) (slice_split is_left_out ss)
all_split P [] all = All-cons (IsPart P 0) [] [] (All-nil P, omega arith) (All-nil (IsPart P 0))
all_split P (s ∷ ss) all = go (is_kept s) (all_split P ss (All-tail P s ss all))
  where
    go : (b : Bool) → All (IsPart P (length ss)) (slice_split is_left_out ss)
        → All (IsPart P (suc (length ss))) (cond (not b) ([] ∷ slice_split is_left_out ss) (onto_first s (slice_split is_left_out ss)))
    go true rest = all_onto_first P (length ss) s (slice_split is_left_out ss) (All-head P s ss all) rest
    go false rest = All-cons (IsPart P (suc (length ss))) [] (slice_split is_left_out ss) (All-nil P, omega arith)
        (All-weaker (IsPart P (length ss)) (IsPart P (suc (length ss))) (part_longer P (length ss)) (slice_split is_left_out ss) rest)

way_drawable : (column row n : ℕ) (part : List Segment) → n + 1 < 2 ^ 29 → IsPart (Both (IsOfTile column row)) n part → is_some_segment part ≡ true
    → IsDrawable false column row (way_along part)
way_drawable column row n [] few is some = cc
way_drawable column row n (s ∷ ss) few is some =
    let P = IsOfTile column row in
    let long = length-map ss (λ (t : Segment). t.1) in
    let first = All-head (Both P) s ss is.0 in
    record {
      long = omega (arith, long);
      few = omega (arith, long, is.1);
      of_tile = All-cons P s.0 (map (λ t. t.1) (s ∷ ss)) first.0
          (All-map P (λ t. t.1) (s ∷ ss) (All-weaker (Both P) (λ t. P t.1) (λ t both. both.1) (s ∷ ss) is.0));
    }

pub line_drawable : (zoom column row : ℕ) (ps : List World) → length ps < 2 ^ 28 → All (λ p. IsOfTile column row (stands_at zoom column row p)) ps
    → All (IsDrawable false column row) (line_cut zoom column row ps)
unfolding line_cut
line_drawable zoom column row ps few stand =
    let P = IsOfTile column row in
    let tile = tile_points zoom column row ps in
    let n = length (segments tile) in
    let small : n + 1 < 2 ^ 29 = omega (arith, length_segments tile, length_points zoom column row ps) in
    let parts = slice_split is_left_out (segments tile) in
    let parts_all =
    All-filter is_some_segment (IsPart (Both P) n) parts
    (all_split (Both P) (segments tile) (all_segments P tile (points_all P zoom column row ps stand))) in
    let passes = filter_passes is_some_segment parts in
    All-map (IsDrawable false column row) way_along (filter is_some_segment parts)
    (λ k d lt. way_drawable column row n _ small (parts_all k d lt) (passes k d lt))

pub points_of_tile : (zoom column row : ℕ) (ps : List World) → zoom ≤ MAX_ZOOM → All IsOfWorld ps
    → All (IsOfTile column row) (points_cut zoom column row ps)
unfolding points_cut
points_of_tile zoom column row ps allowed inside =
    All-filter in_box (IsOfTile column row) (tile_points zoom column row ps)
    (points_keep (IsOfTile column row) zoom column row ps (stands_in_tile zoom column row allowed) inside)
