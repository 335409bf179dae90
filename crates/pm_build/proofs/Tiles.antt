-- The contents of runs, by the entries that name them.
use Rattle.std.proofs.Common.{◌≡◌, ℕ, zero, suc, ◌+◌, ◌*◌, ◌^◌, ◌<◌, ◌≤◌, ◌&&◌, Bool, true, false, cond, eqb, leb, ltb, List, [], ◌∷◌, ◌++◌, length, map}
use Rattle.std.proofs.Common.{slice_range, Some, ◌⊎◌, inl, inr, refl, sym, ap, ◌∙◌, arith}
use Rattle.std.specs.List.{AllByRecursion, concat, Contains}
use Rattle.std.proofs.lemmas.Bool.{cases_Bool, and_parts, and_cases, eqb-false, ne_eqb, leb-true, leb-false, ltb-true, ltb-false}
use Rattle.std.proofs.lemmas.List.{length-append, length-map}
use Rattle.std.proofs.lemmas.List.Elements.{All-contains, All-from_recursion}
use Rattle.std.proofs.lemmas.Map.Made.{distinct_count-le}
use Rattle.pm_header.specs.declared.header.Header.{Header}
use Rattle.pm_directory.specs.declared.entry.DirectoryEntry.{DirectoryEntry}
use Rattle.pm_directory.specs.Directory.{IsEntry, HasEnd}
use Rattle.pm_directory.specs.Counts.{addressed_by, span_of, same_span}
use Rattle.pm_archive.specs.Sections.{section_bytes}
use Rattle.pm_archive.specs.Entries.{entry_bytes, LiesIn, entry_of}
use Rattle.pm_archive.specs.Archive.{content_of_entry, content_of}
use Rattle.pm_build.specs.Tiles.{Tile}
use Rattle.pm_build.specs.Runs.{TileRun, repeated, tiles_in}
use Rattle.pm_build.specs.Placed.{EachNames, ArePlaced}
use Rattle.pm_build.specs.Built.{tile_content}
use Rattle.pm_build.proofs.Pieces.{part_of_part}

abbrev HasTiles : TileRun → Type 0
HasTiles r = (0 < r.count) × (r.count < 2 ^ 32)

abbrev pub IsShort : List ℕ → Type 0
IsShort c = length c < 2 ^ 32

-- ---- what each entry has

pub have_tiles : (bytes : List ℕ) (rs : List TileRun) (es : List DirectoryEntry) → EachNames bytes rs es → AllByRecursion HasTiles rs
    → AllByRecursion (λ e. 0 < e.run) es
have_tiles bytes [] [] named some = tt
have_tiles bytes [] (e ∷ es) named some = absurd named
have_tiles bytes (r ∷ rs) [] named some = absurd named
have_tiles bytes (r ∷ rs) (e ∷ es) named some =
    let same = named.0.run_is in
    let count = some.0.0 in
    (omega arith, have_tiles bytes rs es named.1 some.1)

pub lie_in : (bytes : List ℕ) (h : Header) (rs : List TileRun) (es : List DirectoryEntry) → h.tiles.length ≡ length bytes → EachNames bytes rs es
    → AllByRecursion (LiesIn h.tiles) es
lie_in bytes h [] [] size named = tt
lie_in bytes h [] (e ∷ es) size named = absurd named
lie_in bytes h (r ∷ rs) [] size named = absurd named
lie_in bytes h (r ∷ rs) (e ∷ es) size named =
    let inside = named.0.inside in
    (omega arith, lie_in bytes h rs es size named.1)

pub have_ends : (bytes : List ℕ) (rs : List TileRun) (es : List DirectoryEntry) → length bytes < 2 ^ 64 → EachNames bytes rs es → AllByRecursion IsEntry es
    → AllByRecursion HasEnd es
have_ends bytes [] [] fits named each = tt
have_ends bytes [] (e ∷ es) fits named each = absurd named
have_ends bytes (r ∷ rs) [] fits named each = absurd named
have_ends bytes (r ∷ rs) (e ∷ es) fits named each =
    let inside = named.0.inside in
    ((each.0.some, omega arith), have_ends bytes rs es fits named.1 each.1)

-- ---- how many bytes the contents have

short_contents : (bytes : List ℕ) (rs : List TileRun) (es : List DirectoryEntry) → EachNames bytes rs es → AllByRecursion IsEntry es
    → AllByRecursion IsShort (map (λ r. r.content) rs)
short_contents bytes [] [] named each = tt
short_contents bytes [] (e ∷ es) named each = absurd named
short_contents bytes (r ∷ rs) [] named each = absurd named
short_contents bytes (r ∷ rs) (e ∷ es) named each =
    let same = named.0.length_is in
    let fits = each.0.length_fits in
    (omega arith, short_contents bytes rs es named.1 each.1)

pub short_used : (all cs : List (List ℕ)) → AllByRecursion IsShort all → AllByRecursion (λ c. Contains all c) cs → length (concat cs) ≤ 2 ^ 32 * length cs
short_used all [] short used = omega arith
short_used all (c ∷ cs) short used =
    let this : length c < 2 ^ 32 = All-contains IsShort all c (All-from_recursion IsShort all short) used.0 in
    let others = short_used all cs short used.1 in
    omega (arith, length-append c (concat cs))

pub contents_fit : (tiles : List Tile) (es : List DirectoryEntry) (cs : List (List ℕ)) → ArePlaced tiles es cs → length es ≤ 131072
    → length (concat cs) ≤ 2 ^ 49
contents_fit tiles es cs placed few =
    let different = distinct_count-le same_span (map span_of es) in
    let counted = placed.counted in
    let short = short_used (map (λ r. r.content) placed.runs) cs (short_contents (concat cs) placed.runs es placed.named placed.each) placed.used in
    omega (arith, length-map es span_of)

-- ---- counts

pub length-repeated : (id count : ℕ) (content : List ℕ) → length (repeated id count content) ≡ count
length-repeated id zero content = refl
length-repeated id (suc more) content = ap (λ (n : ℕ). suc n) (length-repeated (suc id) more content)

pub addressed_all : (bytes : List ℕ) (rs : List TileRun) (es : List DirectoryEntry) → EachNames bytes rs es → length (tiles_in rs) ≡ addressed_by es
addressed_all bytes [] [] named = refl
addressed_all bytes [] (e ∷ es) named = absurd named
addressed_all bytes (r ∷ rs) [] named = absurd named
addressed_all bytes (r ∷ rs) (e ∷ es) named =
    let same = named.0.run_is in
    omega (
      arith,
      length-append (repeated r.first r.count r.content) (tiles_in rs),
      length-repeated r.first r.count r.content,
      addressed_all bytes rs es named.1,
    )

-- ---- the content of an id

inside_run : (id first count : ℕ) (content : List ℕ) (behind : List Tile) → first ≤ id → id < first + count
    → tile_content (repeated first count content ++ behind) id ≡ Some content
inside_run id first zero content behind low high = absurd (omega arith)
inside_run id first (suc more) content behind low high =
    chosen (eqb first id) refl (λ later. inside_run id (suc first) more content behind later (omega arith))
  where
    chosen : (b : Bool) → eqb first id ≡ b → (suc first ≤ id → tile_content (repeated (suc first) more content ++ behind) id ≡ Some content)
        → cond b (Some content) (tile_content (repeated (suc first) more content ++ behind) id) ≡ Some content
    chosen true e next = refl
    chosen false e next = let other = eqb-false first id e in next (omega arith)

outside_run : (id first count : ℕ) (content : List ℕ) (behind : List Tile) → (id < first) ⊎ (first + count ≤ id)
    → tile_content (repeated first count content ++ behind) id ≡ tile_content behind id
outside_run id first zero content behind out = refl
outside_run id first (suc more) content behind (inl low) =
    rw (ne_eqb first id (λ same. omega arith)) (outside_run id (suc first) more content behind (inl (omega arith)))
outside_run id first (suc more) content behind (inr high) =
    rw (ne_eqb first id (λ same. omega arith)) (outside_run id (suc first) more content behind (inr (omega arith)))

pub content_named : (bytes contents : List ℕ) (h : Header) (rs : List TileRun) (es : List DirectoryEntry) (id : ℕ) → section_bytes h.tiles bytes ≡ contents
    → h.tiles.length ≡ length contents → EachNames contents rs es → tile_content (tiles_in rs) id ≡ content_of bytes h es id
content_named bytes contents h [] [] id at size named = refl
content_named bytes contents h [] (e ∷ es) id at size named = absurd named
content_named bytes contents h (r ∷ rs) [] id at size named = absurd named
content_named bytes contents h (r ∷ rs) (e ∷ es) id at size named =
    let first = named.0.id_is in
    let count = named.0.run_is in
    let within = named.0.inside in
    let low = leb e.id id in
    let high = ltb id (e.id + e.run) in
    let looked = λ (b : Bool). content_of_entry bytes h (cond b (Some e) (entry_of es id)) in
    let section : slice_range (section_bytes h.tiles bytes) e.offset (e.offset + e.length)
    ≡ slice_range bytes (h.tiles.offset + e.offset) (h.tiles.offset + (e.offset + e.length)) = part_of_part bytes h.tiles.offset
    (h.tiles.offset + h.tiles.length) e.offset (e.offset + e.length) (omega arith) in
    let sums : h.tiles.offset + (e.offset + e.length) ≡ h.tiles.offset + e.offset + e.length = omega arith in
    let there : r.content ≡ entry_bytes h.tiles e bytes =
    sym named.0.content_is ∙ ap (λ (xs : List ℕ). slice_range xs e.offset (e.offset + e.length)) (sym at) ∙ section
    ∙ ap (λ (j : ℕ). slice_range bytes (h.tiles.offset + e.offset) j) sums in
    elim (cases_Bool (low && high)) [
      | inl hit ↦
          let tests = and_parts low high hit in
          inside_run id r.first r.count r.content (tiles_in rs) (omega (arith, leb-true e.id id tests.0)) (omega (arith, ltb-true id (e.id + e.run) tests.1))
          ∙ ap (λ (c : List ℕ). Some c) there ∙ ap looked (sym hit)
      | inr miss ↦
          outside_run id r.first r.count r.content (tiles_in rs) (elim (and_cases low high miss) [
            | inl before ↦ inl (omega (arith, leb-false e.id id before))
            | inr behind ↦ inr (omega (arith, ltb-false id (e.id + e.run) behind))
          ])
          ∙ content_named bytes contents h rs es id at size named.1 ∙ ap looked (sym miss)
    ]
