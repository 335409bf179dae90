-- Lines and rings that are written one after the other.
use Rattle.std.proofs.Common.{◌≡◌, ℕ, ◌+◌, ◌^◌, ◌<◌, ◌≤◌, suc, Bool, true, false, cond, List, [], ◌∷◌, ◌++◌, Option, Some, None, length, refl, sym}
use Rattle.std.proofs.Common.{ap, subst, ◌∙◌, arith, append_assoc, not, ℤ, pos, to_z, of_z, FitsSigned}
use Rattle.std.specs.Int.{w128}
use Rattle.std.proofs.Math.Facts.{to_z-of_z}
use Rattle.std.specs.Prelude.{All, flat_map, option_to_list, is_some}
use Rattle.std.specs.Ordering.{int_eq}
use Rattle.std.proofs.lemmas.Bool.{false≢true}
use Rattle.std.proofs.lemmas.List.{append-nil, length-append}
use Rattle.std.proofs.lemmas.List.Elements.{All-nil, All-cons, All-append, All-push, All-head, All-tail}
use Rattle.pb_wire.specs.Varint.{varint}
use Rattle.pb_wire.proofs.Varints.{varint_some}
use Rattle.feature_model.specs.declared.feature.World.{World}
use Rattle.geometry_commands.specs.declared.packed.PackedShape.{PackedShape}
use Rattle.geometry_commands.specs.declared.point.Pt.{Pt}
use Rattle.geometry_commands.specs.Commands.{command, step, steps}
use Rattle.geometry_commands.specs.Encodable.{CanSpellLine, CanSpellLines}
use Rattle.geometry_commands.specs.Faulty.{end_of}
use Rattle.geometry_commands.specs.Packed.{Adds}
use Rattle.geometry_commands.specs.Shapes.{last_of, close_spelled, line_spelled, lines_spelled}
use Rattle.geometry_commands.proofs.Packing.{adds_none, adds_both, adds_line}
use Rattle.tile_cutter.specs.declared.rings.Role.TheVariants.{Outer, Inner}
use Rattle.tile_cutter.specs.declared.rings.Role.{Role}
use Rattle.tile_cutter.specs.Cut.{Segment, is_kept, is_ring, twice_area, line_cut, tile_ring, meets_box, inner_rings, polygon_cut}
use Rattle.tile_cutter.specs.Passes.{other_than, repeats, longer, chain_after, chain_of, ended_by, wound, shown_ring, where_shown}
use Rattle.tile_cutter.specs.Put.{IsClear}
use Rattle.tile_cutter.specs.Range.{IsOfTile, IsDrawable}
use Rattle.tile_cutter.proofs.Areas.{ring_by_area}
use Rattle.tile_cutter.proofs.Chains.{HasChains, chains_begin, chains_keep, chains_go_on, chains_end, chains_of_tile}
use Rattle.tile_cutter.proofs.Drawn.{line_drawable}
use Rattle.tile_cutter.proofs.Passes.{stands_at}
use Rattle.tile_cutter.proofs.Spelled.{last_of_tile, lines_spell}
use Rattle.tile_cutter.proofs.Turned.{polygon_shown, polygon_hidden, wound_drawable}

-- ---- the cursor

pub end_of_tile : (closed : Bool) (column row : ℕ) (from : Pt) (ls : List (List Pt)) → IsOfTile column row from → All (IsDrawable closed column row) ls
    → IsOfTile column row (end_of from ls)
end_of_tile closed column row from [] is all = is
end_of_tile closed column row from (l ∷ ls) is all =
    let here = All-head (IsDrawable closed column row) l ls all in
    end_of_tile closed column row (last_of from l) ls (last_of_tile column row from l is here.of_tile) (All-tail (IsDrawable closed column row) l ls all)

pub cursor_after : (closed : Bool) (column row : ℕ) (old new : PackedShape) (ls : List (List Pt)) → IsOfTile column row old.at → Adds closed old new ls
    → All (IsDrawable closed column row) ls → IsOfTile column row new.at
cursor_after closed column row old new ls is adds all = subst (IsOfTile column row) (sym adds.at) (end_of_tile closed column row old.at ls is all)

pub adds_nothing : (closed : Bool) (out : PackedShape) (ls : List (List Pt)) → ls ≡ [] → Adds closed out out ls
adds_nothing closed out ls e = subst (Adds closed out out) (sym e) (adds_none closed out)

-- ---- chains

pub chain_put : (old new : PackedShape) (chain : List Pt) → 0 < length chain
    → new.bytes.items ≡ old.bytes.items ++ flat_map varint (line_spelled false old.at chain) → new.at ≡ last_of old.at chain
    → Adds false old new (chain_of chain)
chain_put old new [] some bytes at = absurd (omega arith)
chain_put old new (p ∷ ps) some bytes at = adds_line false old new (p ∷ ps) bytes at

pub no_chain : (out : PackedShape) (chain : List Pt) → length chain ≡ 0 → Adds false out out (chain_of chain)
no_chain out [] none = adds_none false out
no_chain out (p ∷ ps) none = absurd (omega (arith, none))

pub none_ended : (out : PackedShape) (chain : List Pt) (s : Segment) → is_kept s ≡ true → Adds false out out (ended_by chain s)
none_ended out chain s kept = adds_nothing false out (ended_by chain s) (rw kept refl)

other_is : (P : Pt → Type 0) (before : Option Pt) (here last : Pt) → other_than before here ≡ Some last → All P (option_to_list before) → P last
other_is P None here last e all = absurd cc
other_is P (Some q) here last e all = go (repeats (Some q) here) e
  where
    go : (b : Bool) → cond b None (Some q) ≡ Some last → P last
    go true none = absurd cc
    go false some = let same : q ≡ last = cc in subst P same (All-head P q [] all)

module _ (column row : ℕ) where
  -- a chain after a segment
  open_after : (chain : List Pt) (s : Segment) (kept : Bool) (r n : ℕ) → n < 2 ^ 28 + 1 → All (IsDrawable false column row) (chain_of chain)
      → length chain + suc r ≤ suc n → suc r ≤ n → IsOfTile column row s.0 → IsOfTile column row s.1
      → All (IsDrawable false column row) (chain_of (cond kept (longer chain s) [])) × (length (cond kept (longer chain s) []) + r ≤ suc n)
  open_after chain s false r n few all short left from to = (All-nil (IsDrawable false column row), omega arith)
  open_after [] s true r n few all short left from to =
      let P = IsOfTile column row in (
        All-cons (IsDrawable false column row) (s.0 ∷ s.1 ∷ []) []
            (record { long = omega arith; few = omega arith; of_tile = All-cons P s.0 (s.1 ∷ []) from (All-cons P s.1 [] to (All-nil P)) })
            (All-nil (IsDrawable false column row)),
        omega arith,
      )
  open_after (p ∷ ps) s true r n few all short left from to =
      let P = IsOfTile column row in
      let here = All-head (IsDrawable false column row) (p ∷ ps) [] all in
      let long = length-append ps (s.1 ∷ []) in (
        All-cons (IsDrawable false column row) (p ∷ ps ++ s.1 ∷ []) []
            (record { long = omega (arith, long, here.long); few = omega (arith, long, short); of_tile = All-push P (p ∷ ps) s.1 here.of_tile to })
            (All-nil (IsDrawable false column row)),
        omega (arith, long, short),
      )

  ended_drawable : (chain : List Pt) (kept : Bool) → All (IsDrawable false column row) (chain_of chain)
      → All (IsDrawable false column row) (cond kept [] (chain_of chain))
  ended_drawable chain true all = All-nil (IsDrawable false column row)
  ended_drawable chain false all = all

-- the chains that are written and those of the points that are left are the line's, and the open chain can be written
pub record LineGoes (zoom column row : ℕ) (line left : List World) (old out : PackedShape) (chain : List Pt) (before : Option Pt) : Type 0 where
  pub done : List (List Pt)
  pub adds : Adds false old out done
  pub chains : HasChains zoom column row line left done (line_cut zoom column row line) chain before
  pub drawable : All (IsDrawable false column row) (chain_of chain)
  pub short : length chain + length left ≤ suc (length line)
  pub fewer : length left ≤ length line
  pub cursor : IsOfTile column row out.at
  pub of_tile : All (IsOfTile column row) (option_to_list before)

pub line_begins : (zoom column row : ℕ) (line : List World) (old : PackedShape) → IsOfTile column row old.at
    → LineGoes zoom column row line line old old [] None
line_begins zoom column row line old cursor = record {
  done = [];
  adds = adds_none false old;
  chains = chains_begin zoom column row line [];
  drawable = All-nil (IsDrawable false column row);
  short = omega arith;
  fewer = omega arith;
  cursor = cursor;
  of_tile = All-nil (IsOfTile column row);
}

module _ (zoom column row : ℕ) (line left rest : List World) (x : World) (here : Pt) (old out : PackedShape) (chain : List Pt) (before : Option Pt)
    (so_far : LineGoes zoom column row line left old out chain before) (first : left ≡ x ∷ rest) (at : here ≡ stands_at zoom column row x)
    (is_of_tile : IsOfTile column row here) where
  one_less : length left ≡ suc (length rest)
  one_less = ap length first

  pub line_keeps_chain : other_than before here ≡ None → LineGoes zoom column row line rest old out chain (Some here)
  line_keeps_chain none = record {
    done = so_far.done;
    adds = so_far.adds;
    chains = chains_keep zoom column row line left rest x here so_far.done (line_cut zoom column row line) chain before so_far.chains first at is_of_tile none;
    drawable = so_far.drawable;
    short = omega (arith, one_less, so_far.short);
    fewer = omega (arith, one_less, so_far.fewer);
    cursor = so_far.cursor;
    of_tile = All-cons (IsOfTile column row) here [] is_of_tile (All-nil (IsOfTile column row));
  }

  pub line_goes_further : (last : Pt) (out' : PackedShape) (chain' : List Pt) → length line ≤ 2 ^ 28 → other_than before here ≡ Some last
      → chain' ≡ chain_after chain (last, here) → Adds false out out' (ended_by chain (last, here))
      → LineGoes zoom column row line rest old out' chain' (Some here)
  line_goes_further last out' chain' few some chain_is ended =
      let ends = ended_by chain (last, here) in
      let last_is = other_is (IsOfTile column row) before here last some so_far.of_tile in
      let opened = open_after column row chain (last, here) (is_kept (last, here)) (length rest) (length line) (omega (arith, few)) so_far.drawable
      (omega (arith, one_less, so_far.short)) (omega (arith, one_less, so_far.fewer)) last_is is_of_tile in
      record {
        done = so_far.done ++ ends;
        adds = adds_both false old out out' so_far.done ends so_far.adds ended;
        chains = chains_go_on zoom column row line left rest x here so_far.done (line_cut zoom column row line) chain before so_far.chains first at is_of_tile
            last chain' (so_far.done ++ ends) some chain_is refl;
        drawable = subst (λ c. All (IsDrawable false column row) (chain_of c)) (sym chain_is) opened.0;
        short = subst (λ (c : List Pt). length c + length rest ≤ suc (length line)) (sym chain_is) opened.1;
        fewer = omega (arith, one_less, so_far.fewer);
        cursor = cursor_after false column row out out' ends so_far.cursor ended
            (ended_drawable column row chain (is_kept (last, here)) so_far.drawable);
        of_tile = All-cons (IsOfTile column row) here [] is_of_tile (All-nil (IsOfTile column row));
      }

pub line_ends_with : (zoom column row : ℕ) (line left : List World) (old out out' : PackedShape) (chain : List Pt) (before : Option Pt)
    → LineGoes zoom column row line left old out chain before → left ≡ [] → Adds false out out' (chain_of chain)
    → Adds false old out' (line_cut zoom column row line)
line_ends_with zoom column row line left old out out' chain before so_far none ended =
    subst (Adds false old out') (chains_end zoom column row line left so_far.done (line_cut zoom column row line) chain before so_far.chains none)
    (adds_both false old out out' so_far.done (chain_of chain) so_far.adds ended)

pub line_is_drawable : (zoom column row : ℕ) (line left : List World) (old out : PackedShape) (chain : List Pt) (before : Option Pt)
    → length line < 2 ^ 28 → LineGoes zoom column row line left old out chain before → left ≡ []
    → All (IsDrawable false column row) (line_cut zoom column row line)
line_is_drawable zoom column row line left old out chain before few so_far none =
    line_drawable zoom column row line few
    (chains_of_tile zoom column row line left so_far.done (line_cut zoom column row line) chain before so_far.chains none)

pub chain_can : (zoom column row : ℕ) (line left : List World) (old out : PackedShape) (chain : List Pt) (before : Option Pt)
    → LineGoes zoom column row line left old out chain before → CanSpellLines false out.at (chain_of chain)
chain_can zoom column row line left old out chain before so_far =
    lines_spell false column row out.at (chain_of chain) so_far.cursor so_far.drawable

-- ---- a loop that writes what each item gives

pub record ListsGo {X : Type 0} (closed : Bool) (column row : ℕ) (f : X
    → List (List Pt)) (left : List X) (whole : List (List Pt)) (old out : PackedShape) : Type 0 where
  pub done : List (List Pt)
  pub adds : Adds closed old out done
  pub joined : done ++ flat_map f left ≡ whole
  pub drawable : All (IsDrawable closed column row) done
  pub cursor : IsOfTile column row out.at

pub lists_begin : {X : Type 0} (closed : Bool) (column row : ℕ) (f : X → List (List Pt)) (xs : List X) (whole : List (List Pt)) (old : PackedShape)
    → flat_map f xs ≡ whole → IsOfTile column row old.at → ListsGo closed column row f xs whole old old
lists_begin closed column row f xs whole old is cursor =
    record { done = []; adds = adds_none closed old; joined = is; drawable = All-nil (IsDrawable closed column row); cursor = cursor }

pub lists_item : {X : Type 0} (closed : Bool) (column row : ℕ) (f : X → List (List Pt)) (left rest : List X) (x : X) (whole : List (List Pt))
    (old out out' : PackedShape)
    → ListsGo closed column row f left whole old out → left ≡ x ∷ rest → Adds closed out out' (f x) → All (IsDrawable closed column row) (f x)
    → ListsGo closed column row f rest whole old out'
lists_item closed column row f left rest x whole old out out' so_far first adds drawable = record {
  done = so_far.done ++ f x;
  adds = adds_both closed old out out' so_far.done (f x) so_far.adds adds;
  joined = append_assoc so_far.done (f x) (flat_map f rest) ∙ ap (λ xs. so_far.done ++ flat_map f xs) (sym first) ∙ so_far.joined;
  drawable = All-append (IsDrawable closed column row) so_far.done (f x) so_far.drawable drawable;
  cursor = cursor_after closed column row out out' (f x) so_far.cursor adds drawable;
}

pub lists_over : {X : Type 0} (closed : Bool) (column row : ℕ) (f : X → List (List Pt)) (left : List X) (whole : List (List Pt)) (old out : PackedShape)
    → ListsGo closed column row f left whole old out → left ≡ [] → Adds closed old out whole × All (IsDrawable closed column row) whole
lists_over closed column row f left whole old out so_far none =
    let same : so_far.done ≡ whole = sym (append-nil so_far.done) ∙ ap (λ xs. so_far.done ++ flat_map f xs) (sym none) ∙ so_far.joined in
    (subst (Adds closed old out) same so_far.adds, subst (All (IsDrawable closed column row)) same so_far.drawable)

-- ---- rings

pub ring_can : (column row : ℕ) (at : Pt) (shown : Bool) (ring : List Pt) (o : Option (List Pt)) → shown ≡ true → where_shown shown ring ≡ o
    → IsOfTile column row at → All (IsDrawable true column row) (option_to_list o) → CanSpellLine true at ring
ring_can column row at false ring o e is cursor all = absurd cc
ring_can column row at true ring o e is cursor all =
    (lines_spell true column row at (ring ∷ []) cursor (subst (λ s. All (IsDrawable true column row) (option_to_list s)) (sym is) all)).0

pub ring_put : (old new : PackedShape) (shown : Bool) (ring : List Pt) (o : Option (List Pt)) → shown ≡ true → where_shown shown ring ≡ o
    → new.bytes.items ≡ old.bytes.items ++ flat_map varint (line_spelled true old.at ring) → new.at ≡ last_of old.at ring → Adds true old new (option_to_list o)
ring_put old new false ring o e is bytes at = absurd cc
ring_put old new true ring o e is bytes at = subst (λ s. Adds true old new (option_to_list s)) is (adds_line true old new ring bytes at)

pub no_ring : (out : PackedShape) (shown : Bool) (ring : List Pt) (o : Option (List Pt)) → shown ≡ false → where_shown shown ring ≡ o
    → Adds true out out (option_to_list o)
no_ring out true ring o e is = absurd cc
no_ring out false ring o e is = subst (λ s. Adds true out out (option_to_list s)) is (adds_none true out)

pub shown_drawable : (column row : ℕ) (role : Role) (ps : List Pt) → length ps < 2 ^ 29 → All (IsOfTile column row) ps
    → All (IsDrawable true column row) (option_to_list (shown_ring role ps))
shown_drawable column row Outer ps few of_tile = go (meets_box ps)
  where
    go : (b : Bool) → All (IsDrawable true column row) (option_to_list (cond b (wound Outer ps) None))
    go true = wound_drawable column row Outer ps few of_tile
    go false = All-nil (IsDrawable true column row)
shown_drawable column row Inner ps few of_tile = wound_drawable column row Inner ps few of_tile

-- points without an area are no ring that is shown
pub flat_hidden : (role : Role) (ps : List Pt) (area : ℤ) → FitsSigned w128 area → area ≡ twice_area ps → of_z w128 area ≡ 0 → None ≡ shown_ring role ps
flat_hidden role ps area fits is zero =
    let none : area ≡ pos 0 = sym (to_z-of_z fits) ∙ ap (to_z w128) zero in
    go role (ring_by_area ps ∙ ap (λ a. not (int_eq a (pos 0))) (sym is ∙ none))
  where
    go : (r : Role) → is_ring ps ≡ false → None ≡ shown_ring r ps
    go Outer flat = by (meets_box ps)
      where
        by : (b : Bool) → None ≡ cond b (wound Outer ps) None
        by true = rw flat refl
        by false = refl
    go Inner flat = rw flat refl

pub none_drawable : (column row : ℕ) (o : Option (List Pt)) → None ≡ o → All (IsDrawable true column row) (option_to_list o)
none_drawable column row o none = subst (λ s. All (IsDrawable true column row) (option_to_list s)) none (All-nil (IsDrawable true column row))

-- the rings of a polygon by its outer ring
pub polygon_with : (zoom column row : ℕ) (polygon : List (List World)) (outer : List World) (inners : List (List World)) → polygon ≡ outer ∷ inners
    → is_some (shown_ring Outer (tile_ring zoom column row outer)) ≡ true
    → option_to_list (shown_ring Outer (tile_ring zoom column row outer)) ++ inner_rings zoom column row inners ≡ polygon_cut zoom column row polygon
polygon_with zoom column row polygon outer inners polygon_is some =
    go (shown_ring Outer (tile_ring zoom column row outer)) refl some ∙ ap (polygon_cut zoom column row) (sym polygon_is)
  where
    go : (o : Option (List Pt)) → shown_ring Outer (tile_ring zoom column row outer) ≡ o → is_some o ≡ true
        → option_to_list o ++ inner_rings zoom column row inners ≡ polygon_cut zoom column row (outer ∷ inners)
    go None is none = absurd (false≢true none)
    go (Some ring) is some_ring = sym (polygon_shown zoom column row outer inners ring is)

pub polygon_without : (zoom column row : ℕ) (polygon : List (List World)) (outer : List World) (inners : List (List World)) → polygon ≡ outer ∷ inners
    → is_some (shown_ring Outer (tile_ring zoom column row outer)) ≡ false
    → option_to_list (shown_ring Outer (tile_ring zoom column row outer)) ≡ polygon_cut zoom column row polygon
polygon_without zoom column row polygon outer inners polygon_is none =
    go (shown_ring Outer (tile_ring zoom column row outer)) refl none ∙ ap (polygon_cut zoom column row) (sym polygon_is)
  where
    go : (o : Option (List Pt)) → shown_ring Outer (tile_ring zoom column row outer) ≡ o → is_some o ≡ false
        → option_to_list o ≡ polygon_cut zoom column row (outer ∷ inners)
    go None is no_ring_is = sym (polygon_hidden zoom column row outer inners is)
    go (Some ring) is some = absurd (false≢true (sym some))

-- ---- the shape, where something is written

-- lines have bytes
first_bytes : (n : ℕ) (ns : List ℕ) → 0 < length (flat_map varint (n ∷ ns))
first_bytes n ns = omega (arith, varint_some n, length-append (varint n) (flat_map varint ns))

some_bytes : (closed : Bool) (from : Pt) (l : List Pt) (rest : List ℕ) → 0 < length l → 0 < length (flat_map varint (line_spelled closed from l ++ rest))
unfolding line_spelled
some_bytes closed from [] rest some = absurd (omega arith)
some_bytes closed from (p ∷ ps) rest some =
    first_bytes (command 1 1) ((step from p ++ (command 2 (length ps) ∷ (steps p ps ++ close_spelled closed))) ++ rest)

module _ (closed : Bool) (column row : ℕ) (old new : PackedShape) (clear : IsClear old) where
  all_bytes : (ls : List (List Pt)) → Adds closed old new ls → new.bytes.items ≡ flat_map varint (lines_spelled closed old.at ls)
  all_bytes ls adds = adds.bytes ∙ ap (λ (r : List ℕ). r ++ flat_map varint (lines_spelled closed old.at ls)) clear.bytes

  pub no_bytes : (ls : List (List Pt)) → Adds closed old new ls → All (IsDrawable closed column row) ls → length new.bytes.items ≡ 0 → ls ≡ []
  unfolding lines_spelled
  no_bytes [] adds all none = refl
  no_bytes (l ∷ ls) adds all none =
      let here = All-head (IsDrawable closed column row) l ls all in
      absurd (omega (
        arith,
        ap length (all_bytes (l ∷ ls) adds),
        none,
        some_bytes closed old.at l (lines_spelled closed (last_of old.at l) ls) (omega (arith, here.long)),
      ))

  pub some_lists : (ls : List (List Pt)) → Adds closed old new ls → 0 < length new.bytes.items → 0 < length ls
  unfolding lines_spelled
  some_lists [] adds some = absurd (omega (arith, ap length (all_bytes [] adds), some))
  some_lists (l ∷ ls) adds some = omega arith
