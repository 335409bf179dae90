-- Boxes of the world in a path: the left, the upper, the right and the lower edge, with commas between them.
use Rattle.std.specs.Prelude.{ℕ, ◌+◌, ◌==◌, ◌^◌, ◌&&◌, Bool, nat_le, nat_lt, List, take, drop, Option, Some, None, if◌then◌else◌}
use Rattle.std.specs.Borrow.{Bor}
use Rattle.std.specs.List.{position}
use Rattle.feature_model.specs.declared.feature.WorldBox.{WorldBox}
use Rattle.tile_routes.specs.Number.{number_of}

-- b','
abbrev pub is_comma : ℕ → Bool
is_comma byte = byte == 44

-- what a text has before its first comma, and behind it
abbrev pub cut_at : List ℕ → Option ℕ → Option (List ℕ × List ℕ)
cut_at text None = None
cut_at text (Some comma) = Some (take comma text, drop (comma + 1) text)

abbrev pub cut : List ℕ → Option (List ℕ × List ℕ)
cut text = cut_at text (position is_comma text)

-- the edges of a box of the world, whose coordinates have 32 bits: no edge comes before the one that it is opposite of
abbrev pub is_box : (x0 y0 x1 y1 : ℕ) → Bool
is_box x0 y0 x1 y1 = nat_le x0 x1 && (nat_lt x1 (2 ^ 32) && (nat_le y0 y1 && nat_lt y1 (2 ^ 32)))

abbrev pub box_with : (x0 y0 x1 y1 : Option ℕ) → Option WorldBox
box_with (Some x0) (Some y0) (Some x1) (Some y1) =
    if is_box x0 y0 x1 y1 then Some (record { x0 = x0; x1 = x1; y0 = y0; y1 = y1 }) else None
box_with (Some x0) (Some y0) (Some x1) None = None
box_with (Some x0) (Some y0) None y1 = None
box_with (Some x0) None x1 y1 = None
box_with None y0 x1 y1 = None

-- the box that a text writes
abbrev pub third_cut : (x0 y0 : List ℕ) → Option (List ℕ × List ℕ) → Option WorldBox
third_cut x0 y0 None = None
third_cut x0 y0 (Some parts) = box_with (number_of x0) (number_of y0) (number_of parts.0) (number_of parts.1)

abbrev pub second_cut : (x0 : List ℕ) → Option (List ℕ × List ℕ) → Option WorldBox
second_cut x0 None = None
second_cut x0 (Some parts) = third_cut x0 parts.0 (cut parts.1)

abbrev pub first_cut : Option (List ℕ × List ℕ) → Option WorldBox
first_cut None = None
first_cut (Some parts) = second_cut parts.0 (cut parts.1)

abbrev pub box_of : List ℕ → Option WorldBox
box_of text = first_cut (cut text)

-- two parts of a text without where they lie in memory
abbrev pub parts_view : Bor (List ℕ) × Bor (List ℕ) → List ℕ × List ℕ
parts_view parts = (parts.0.now, parts.1.now)
