-- A line in one pass: the chain that is open, and the chains of what is left.
use Rattle.std.proofs.Common.{◌≡◌, ℕ, Bool, true, false, cond, not, List, [], ◌∷◌, ◌++◌, Option, Some, None, map, refl, sym, ap, subst, ◌∙◌, append_assoc}
use Rattle.std.specs.Prelude.{All, filter}
use Rattle.std.specs.List.{slice_split, onto_first}
use Rattle.std.specs.Ordering.{int_eq}
use Rattle.std.proofs.lemmas.List.{append-nil}
use Rattle.std.proofs.lemmas.Bool.Decides.{Decides-int_eq, Decides-and}
use Rattle.feature_model.specs.declared.feature.World.{World}
use Rattle.geometry_commands.specs.declared.point.Pt.{Pt}
use Rattle.tile_cutter.specs.Cut.{Segment, segments, is_kept, way_along, is_some_segment, line_cut}
use Rattle.tile_cutter.specs.Passes.{is_same_position, other_than, longer, chain_after, chain_of, ended_by}
use Rattle.tile_cutter.specs.Range.{IsOfTile}
use Rattle.tile_cutter.proofs.Each.{all_item, all_over}
use Rattle.tile_cutter.proofs.Passes.{left_after, stands_at, stands_item, stands_over, tile_points_are}

abbrev pub is_left_out : Segment → Bool
is_left_out s = not (is_kept s)

-- a chain, and then the way along segments that go on from it
abbrev pub extended : List Pt → List Segment → List Pt
extended [] part = way_along part
extended (p ∷ ps) part = (p ∷ ps) ++ map (λ s. s.1) part

-- the chains of parts, of which the first goes on from a chain
abbrev pub joined : List Pt → List (List Segment) → List (List Pt)
joined chain [] = chain_of chain
joined chain (part ∷ parts) = chain_of (extended chain part) ++ map way_along (filter is_some_segment parts)

joined_none : (parts : List (List Segment)) → joined [] parts ≡ map way_along (filter is_some_segment parts)
joined_none [] = refl
joined_none ([] ∷ parts) = refl
joined_none ((s ∷ ss) ∷ parts) = refl

joined_kept : (chain : List Pt) (s : Segment) (parts : List (List Segment)) → joined chain (onto_first s parts) ≡ joined (longer chain s) parts
joined_kept [] s [] = refl
joined_kept (p ∷ ps) s [] = refl
joined_kept [] s (part ∷ parts) = refl
joined_kept (p ∷ ps) s (part ∷ parts) =
    ap (λ (r : List Pt). chain_of (p ∷ r) ++ map way_along (filter is_some_segment parts)) (sym (append_assoc ps (s.1 ∷ []) (map (λ (t : Segment). t.1) part)))

joined_ended : (chain : List Pt) (parts : List (List Segment)) → joined chain ([] ∷ parts) ≡ chain_of chain ++ joined [] parts
joined_ended [] parts = sym (joined_none parts)
joined_ended (p ∷ ps) parts = ap (λ (r : List Pt). chain_of (p ∷ r) ++ map way_along (filter is_some_segment parts)) (append-nil ps)
    ∙ ap (λ r. chain_of (p ∷ ps) ++ r) (sym (joined_none parts))

joined_step : (chain : List Pt) (s : Segment) (ss : List Segment)
    → joined chain (slice_split is_left_out (s ∷ ss)) ≡ ended_by chain s ++ joined (chain_after chain s) (slice_split is_left_out ss)
joined_step chain s ss = go (is_kept s)
  where
    go : (b : Bool) → joined chain (cond (not b) ([] ∷ slice_split is_left_out ss) (onto_first s (slice_split is_left_out ss)))
        ≡ cond b [] (chain_of chain) ++ joined (cond b (longer chain s) []) (slice_split is_left_out ss)
    go true = joined_kept chain s (slice_split is_left_out ss)
    go false = joined_ended chain (slice_split is_left_out ss)

-- the segments after a point that is there or not
abbrev pub segments_behind : Option Pt → List Pt → List Segment
segments_behind None ps = segments ps
segments_behind (Some p) ps = segments (p ∷ ps)

-- the chains of a line from here on
unfoldable pub chains_left : List Pt → Option Pt → List Pt → List (List Pt)
chains_left chain before ps = joined chain (slice_split is_left_out (segments_behind before (left_after before ps)))

same_position : (p q : Pt) → is_same_position p q ≡ true → p ≡ q
same_position p q e =
    let both = (Decides-and (int_eq p.x q.x) (int_eq p.y q.y) (Decides-int_eq p.x q.x) (Decides-int_eq p.y q.y)).0 e in
    ap (λ a. let w : Pt = record { x = a; y = p.y } in w) both.0 ∙ ap (λ b. let w : Pt = record { x = q.x; y = b } in w) both.1

line_skip : (chain : List Pt) (before : Option Pt) (here : Pt) (rest : List Pt) → other_than before here ≡ None
    → chains_left chain before (here ∷ rest) ≡ chains_left chain (Some here) rest
unfolding chains_left left_after
line_skip chain None here rest e = refl
line_skip chain (Some q) here rest e = go (is_same_position here q) refl e
  where
    go : (b : Bool) → is_same_position here q ≡ b → cond b None (Some q) ≡ None
        → joined chain (slice_split is_left_out (segments (q ∷ cond b (left_after (Some here) rest) (here ∷ left_after (Some here) rest))))
        ≡ joined chain (slice_split is_left_out (segments (here ∷ left_after (Some here) rest)))
    go true same none = ap (λ p. joined chain (slice_split is_left_out (segments (p ∷ left_after (Some here) rest)))) (sym (same_position here q same))
    go false same none = cc

line_step : (chain : List Pt) (before : Option Pt) (here : Pt) (rest : List Pt) (last : Pt) → other_than before here ≡ Some last
    → chains_left chain before (here ∷ rest) ≡ ended_by chain (last, here) ++ chains_left (chain_after chain (last, here)) (Some here) rest
unfolding chains_left left_after
line_step chain None here rest last e = cc
line_step chain (Some q) here rest last e = go (is_same_position here q) e
  where
    go : (b : Bool) → cond b None (Some q) ≡ Some last
        → joined chain (slice_split is_left_out (segments (q ∷ cond b (left_after (Some here) rest) (here ∷ left_after (Some here) rest))))
        ≡ ended_by chain (last, here) ++ joined (chain_after chain (last, here)) (slice_split is_left_out (segments (here ∷ left_after (Some here) rest)))
    go true some = cc
    go false some =
        let same : q ≡ last = cc in
        rw (← same) (joined_step chain (q, here) (segments (here ∷ left_after (Some here) rest)))

-- ---- the pass

line_begin : (zoom column row : ℕ) (line : List World) → chains_left [] None (map (stands_at zoom column row) line) ≡ line_cut zoom column row line
unfolding chains_left line_cut
line_begin zoom column row line =
    joined_none (slice_split is_left_out (segments (left_after None (map (stands_at zoom column row) line))))
    ∙ ap (λ ps. map way_along (filter is_some_segment (slice_split is_left_out (segments ps)))) (tile_points_are zoom column row line)

line_keeps : (chain : List Pt) (before : Option Pt) (here : Pt) (rest : List Pt) (done whole : List (List Pt)) → other_than before here ≡ None
    → done ++ chains_left chain before (here ∷ rest) ≡ whole → done ++ chains_left chain (Some here) rest ≡ whole
line_keeps chain before here rest done whole none so_far = ap (λ r. done ++ r) (sym (line_skip chain before here rest none)) ∙ so_far

line_goes_on : (chain : List Pt) (before : Option Pt) (here : Pt) (rest : List Pt) (last : Pt) (chain' : List Pt) (done done' whole : List (List Pt))
    → other_than before here ≡ Some last
    → chain' ≡ chain_after chain (last, here) → done' ≡ done ++ ended_by chain (last, here)
    → done ++ chains_left chain before (here ∷ rest) ≡ whole → done' ++ chains_left chain' (Some here) rest ≡ whole
line_goes_on chain before here rest last chain' done done' whole some chain_is done_is so_far =
    rw (chain_is, done_is) (append_assoc done (ended_by chain (last, here)) (chains_left (chain_after chain (last, here)) (Some here) rest))
    ∙ ap (λ r. done ++ r) (sym (line_step chain before here rest last some)) ∙ so_far

line_ends : (chain : List Pt) (before : Option Pt) (done whole : List (List Pt)) → done ++ chains_left chain before [] ≡ whole
    → done ++ chain_of chain ≡ whole
unfolding chains_left left_after
line_ends chain None done whole so_far = ap (λ r. done ++ r) (sym (append-nil (chain_of chain)) ∙ sym (joined_ended chain [])) ∙ so_far
line_ends chain (Some p) done whole so_far = ap (λ r. done ++ r) (sym (append-nil (chain_of chain)) ∙ sym (joined_ended chain [])) ∙ so_far

-- whether each point of the world is one of the tile
abbrev pub AreOfTile : ℕ → ℕ → ℕ → List World → Type 0
AreOfTile zoom column row ps = All (λ p. IsOfTile column row (stands_at zoom column row p)) ps

-- the chains that are there and those of the points that are left are the whole, and all points of the line are of the tile if those are that are left
pub record HasChains (zoom column row : ℕ) (line left : List World) (done whole : List (List Pt)) (chain : List Pt) (before : Option Pt) : Type 0 where
  pub chains : done ++ chains_left chain before (map (stands_at zoom column row) left) ≡ whole
  pub of_tile : AreOfTile zoom column row left → AreOfTile zoom column row line

pub chains_begin : (zoom column row : ℕ) (line : List World) (done : List (List Pt))
    → HasChains zoom column row line line done (done ++ line_cut zoom column row line) [] None
chains_begin zoom column row line done = record { chains = ap (λ r. done ++ r) (line_begin zoom column row line); of_tile = λ all. all }

module _ (zoom column row : ℕ) (line left rest : List World) (x : World) (here : Pt) (done whole : List (List Pt)) (chain : List Pt) (before : Option Pt)
    (so_far : HasChains zoom column row line left done whole chain before) (first : left ≡ x ∷ rest) (at : here ≡ stands_at zoom column row x)
    (is_of_tile : IsOfTile column row here) where
  here_left : done ++ chains_left chain before (here ∷ map (stands_at zoom column row) rest) ≡ whole
  here_left = stands_item (λ (r : List Pt). done ++ chains_left chain before r) zoom column row left rest x here whole first at so_far.chains

  all_left : AreOfTile zoom column row rest → AreOfTile zoom column row line
  all_left = all_item (λ p. IsOfTile column row (stands_at zoom column row p)) (AreOfTile zoom column row line) left rest x first
      (subst (IsOfTile column row) at is_of_tile) so_far.of_tile

  -- a point that repeats the one before it, or is the first
  pub chains_keep : other_than before here ≡ None → HasChains zoom column row line rest done whole chain (Some here)
  chains_keep none = record {
    chains = line_keeps chain before here (map (stands_at zoom column row) rest) done whole none here_left;
    of_tile = all_left;
  }

  -- a segment more
  pub chains_go_on : (last : Pt) (chain' : List Pt) (done' : List (List Pt)) → other_than before here ≡ Some last → chain' ≡ chain_after chain (last, here)
      → done' ≡ done ++ ended_by chain (last, here) → HasChains zoom column row line rest done' whole chain' (Some here)
  chains_go_on last chain' done' some chain_is done_is = record {
    chains = line_goes_on chain before here (map (stands_at zoom column row) rest) last chain' done done' whole some chain_is done_is here_left;
    of_tile = all_left;
  }

pub chains_end : (zoom column row : ℕ) (line left : List World) (done whole : List (List Pt)) (chain : List Pt) (before : Option Pt)
    → HasChains zoom column row line left done whole chain before → left ≡ [] → done ++ chain_of chain ≡ whole
chains_end zoom column row line left done whole chain before so_far none =
    line_ends chain before done whole
    (stands_over (λ (r : List Pt). done ++ chains_left chain before r) zoom column row left whole none so_far.chains)

pub chains_of_tile : (zoom column row : ℕ) (line left : List World) (done whole : List (List Pt)) (chain : List Pt) (before : Option Pt)
    → HasChains zoom column row line left done whole chain before → left ≡ [] → AreOfTile zoom column row line
chains_of_tile zoom column row line left done whole chain before so_far none =
    all_over (λ p. IsOfTile column row (stands_at zoom column row p)) (AreOfTile zoom column row line) left none so_far.of_tile
