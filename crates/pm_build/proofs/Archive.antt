-- The sections one after the other are an archive.
use Rattle.std.proofs.Common.{◌≡◌, ℕ, suc, ◌+◌, ◌≤◌, List, [], ◌∷◌, ◌++◌, length, Vec, Global, Result, inr, refl, sym, ap, subst, ◌∙◌, append_assoc, arith}
use Rattle.std.specs.List.{concat}
use Rattle.std.specs.Result.{IfOk}
use Rattle.std.proofs.lemmas.List.{length-append, append-nil}
use Rattle.std.proofs.lemmas.Result.{IfOk-weaker}
use Rattle.pm_header.specs.declared.section_span.SectionSpan.{SectionSpan}
use Rattle.pm_header.specs.declared.header.Header.{Header}
use Rattle.pm_header.specs.declared.header.TheConstants.{VECTOR_TILES}
use Rattle.pm_header.specs.declared.compression.TheConstants.{NOT_COMPRESSED}
use Rattle.pm_header.specs.Layout.{IsHeader}
use Rattle.pm_directory.specs.declared.entry.DirectoryEntry.{DirectoryEntry}
use Rattle.pm_archive.specs.Sections.{section_bytes, HasSections}
use Rattle.pm_metadata.specs.Archive.{IsMetadata, HasCounts, IsArchive}
use Rattle.pm_build.specs.Tiles.{Tile, IdsAscend}
use Rattle.pm_build.specs.Runs.{TileRun}
use Rattle.pm_build.specs.Placed.{ArePlaced, EachNames}
use Rattle.pm_build.specs.declared.header.Counts.{Counts}
use Rattle.pm_build.specs.Built.{tile_content}
use Rattle.pm_build.specs.Leaves.{AreDirectories}
use Rattle.pm_build.specs.Laid.{AreJoined, IsFront, AreLaidOut, AreZooms, counts_of, header_for, lengths_of}
use Rattle.pm_build.specs.Vector.{IsVectorArchive}
use Rattle.pm_build.proofs.Tiles.{have_tiles, lie_in, addressed_all, content_named}
use Rattle.pm_build.proofs.Headers.{header_there}
use Rattle.pm_build.proofs.Listed.{has_entries}
use Rattle.pm_build.proofs.Pieces.{part_middle}
use Rattle.pm_build.proofs.Zooms.{zooms_of_contents}

-- the header has these lengths, counts and zooms, places the sections one after the other, and says that nothing is compressed
record IsLaid (h : Header) (root : List ℕ) (metadata : List ℕ) (leaves : List ℕ) (contents : List ℕ) (n : Counts) (low high : ℕ) : Type 0 where
  root_at : h.root.offset ≡ 127
  root_is : h.root.length ≡ length root
  metadata_at : h.metadata.offset ≡ 127 + length root
  metadata_is : h.metadata.length ≡ length metadata
  leaves_at : h.leaves.offset ≡ 127 + length root + length metadata
  leaves_is : h.leaves.length ≡ length leaves
  tiles_at : h.tiles.offset ≡ 127 + length root + length metadata + length leaves
  tiles_is : h.tiles.length ≡ length contents
  plain : h.internal ≡ NOT_COMPRESSED
  addressed_is : h.addressed ≡ n.addressed
  entries_is : h.entries ≡ n.entries
  contents_is : h.contents ≡ n.contents
  kind : h.kind ≡ VECTOR_TILES
  compression : h.compression ≡ NOT_COMPRESSED
  low_is : h.min_zoom ≡ low
  high_is : h.max_zoom ≡ high

laid : (root metadata leaves contents : List ℕ) (n : Counts) (low high : ℕ)
    → IsLaid (header_for (lengths_of root metadata leaves contents) n low high) root metadata leaves contents n low high
unfolding header_for
laid root metadata leaves contents n low high = record {
  root_at = refl;
  root_is = refl;
  metadata_at = refl;
  metadata_is = refl;
  leaves_at = refl;
  leaves_is = refl;
  tiles_at = refl;
  tiles_is = refl;
  plain = refl;
  addressed_is = refl;
  entries_is = refl;
  contents_is = refl;
  kind = refl;
  compression = refl;
  low_is = refl;
  high_is = refl;
}

section_at : (p : SectionSpan) (before part behind : List ℕ) → p.offset ≡ length before → p.length ≡ length part
    → section_bytes p (before ++ (part ++ behind)) ≡ part
section_at p before part behind at size = part_middle before part behind p.offset (p.offset + p.length) (sym at) (ap (λ (n : ℕ). p.offset + n) (sym size))

-- each section is where the header says
record HasParts (bytes : List ℕ) (h : Header) (root : List ℕ) (metadata : List ℕ) (leaves : List ℕ) (contents : List ℕ) : Type 0 where
  size : length bytes ≡ 127 + length root + length metadata + length leaves + length contents
  header_there : IsHeader bytes h
  root_there : section_bytes h.root bytes ≡ root
  metadata_there : section_bytes h.metadata bytes ≡ metadata
  leaves_there : section_bytes h.leaves bytes ≡ leaves
  tiles_there : section_bytes h.tiles bytes ≡ contents

parts_there : (bytes root metadata leaves contents : List ℕ) (h : Header) (n : Counts) (low high : ℕ) → IsLaid h root metadata leaves contents n low high
    → AreJoined bytes h root metadata leaves contents → HasParts bytes h root metadata leaves contents
parts_there bytes root metadata leaves contents h n low high is (front, header, whole, parts) =
    let behind = root ++ (metadata ++ (leaves ++ contents)) in
    let second = front ++ root in
    let third = second ++ metadata in
    let fourth = third ++ leaves in
    let at_second : bytes ≡ second ++ (metadata ++ (leaves ++ contents)) = parts ∙ sym (append_assoc front root (metadata ++ (leaves ++ contents))) in
    let at_third : bytes ≡ third ++ (leaves ++ contents) = at_second ∙ sym (append_assoc second metadata (leaves ++ contents)) in
    let at_fourth : bytes ≡ fourth ++ contents = at_third ∙ sym (append_assoc third leaves contents) in
    let to_end : fourth ++ contents ≡ fourth ++ (contents ++ []) = ap (λ (bs : List ℕ). fourth ++ bs) (sym (append-nil contents)) in
    let size_2 = length-append front root in
    let size_3 = length-append second metadata in
    let size_4 = length-append third leaves in
    let size_5 = length-append fourth contents in
    record {
      size = ap (λ (bs : List ℕ). length bs) at_fourth ∙ omega arith;
      header_there = subst (λ (bs : List ℕ). IsHeader bs h) (sym parts) (header_there front behind whole h header);
      root_there =
          ap (λ (bs : List ℕ). section_bytes h.root bs) parts
          ∙ section_at h.root front root (metadata ++ (leaves ++ contents)) (is.root_at ∙ sym whole) is.root_is;
      metadata_there =
          ap (λ (bs : List ℕ). section_bytes h.metadata bs) at_second
          ∙ section_at h.metadata second metadata (leaves ++ contents) (is.metadata_at ∙ omega arith) is.metadata_is;
      leaves_there =
          ap (λ (bs : List ℕ). section_bytes h.leaves bs) at_third ∙ section_at h.leaves third leaves contents (is.leaves_at ∙ omega arith) is.leaves_is;
      tiles_there =
          ap (λ (bs : List ℕ). section_bytes h.tiles bs) (at_fourth ∙ to_end) ∙ section_at h.tiles fourth contents [] (is.tiles_at ∙ omega arith) is.tiles_is;
    }

sections_there : (bytes root metadata leaves contents : List ℕ) (h : Header) (n : Counts) (low high : ℕ)
    → IsLaid h root metadata leaves contents n low high → HasParts bytes h root metadata leaves contents → length root ≤ 14850 → HasSections bytes h
sections_there bytes root metadata leaves contents h n low high is has early =
    let size = has.size in
    let root_at = is.root_at in let root_is = is.root_is in
    let metadata_at = is.metadata_at in let metadata_is = is.metadata_is in
    let leaves_at = is.leaves_at in let leaves_is = is.leaves_is in
    let tiles_at = is.tiles_at in let tiles_is = is.tiles_is in
    record {
      header = has.header_there;
      root_inside = omega arith;
      root_early = omega arith;
      metadata_inside = omega arith;
      leaves_inside = omega arith;
      tiles_inside = omega arith;
      plain = inr is.plain;
    }

-- the counts of these tiles, entries and contents
abbrev counted : List Tile → List DirectoryEntry → List (List ℕ) → Counts
counted tiles es cs = record { addressed = length tiles; entries = length es; contents = length cs }

counts_there : (h : Header) (tiles : List Tile) (es : List DirectoryEntry) (cs : List (List ℕ)) (root metadata leaves : List ℕ) (low high : ℕ)
    → IsLaid h root metadata leaves (concat cs) (counted tiles es cs) low high → ArePlaced tiles es cs → HasCounts h es
counts_there h tiles es cs root metadata leaves low high is placed =
    let all = addressed_all (concat cs) placed.runs es placed.named in
    let together = ap (λ (ts : List Tile). length ts) placed.longest.together in
    record {
      addressed = inr (is.addressed_is ∙ sym together ∙ all);
      entries = inr is.entries_is;
      contents = inr (is.contents_is ∙ sym placed.counted);
    }

is_laid_archive : (bytes root metadata leaves : List ℕ) (tiles : List Tile) (es : List DirectoryEntry) (cs : List (List ℕ)) (h : Header) (low high : ℕ)
    → IsLaid h root metadata leaves (concat cs) (counted tiles es cs) low high → AreZooms tiles low high → IdsAscend 0 tiles
    → AreJoined bytes h root metadata leaves (concat cs) → ArePlaced tiles es cs → AreDirectories root leaves es → length root ≤ 14850 → IsMetadata metadata
    → IsVectorArchive bytes metadata (tile_content tiles)
is_laid_archive bytes root metadata leaves tiles es cs h low high is zooms ascend joined placed directories early meta =
    let has = parts_there bytes root metadata leaves (concat cs) h (counted tiles es cs) low high is joined in
    let some = have_tiles (concat cs) placed.runs es placed.named placed.longest.each in
    let archive : IsArchive bytes h es = record {
      sections = sections_there bytes root metadata leaves (concat cs) h (counted tiles es cs) low high is has early;
      entries = has_entries bytes root leaves h es has.root_there has.leaves_there is.leaves_is directories placed.ascending placed.each some
          (lie_in (concat cs) h placed.runs es is.tiles_is placed.named);
      counts = counts_there h tiles es cs root metadata leaves low high is placed;
      metadata = subst (λ (bs : List ℕ). IsMetadata bs) (sym has.metadata_there) meta;
    } in
    record {
      header = h;
      entries = es;
      is_archive = archive;
      contents = λ id. ap (λ (ts : List Tile). tile_content ts id) (sym placed.longest.together)
          ∙ content_named bytes (concat cs) h placed.runs es id has.tiles_there is.tiles_is placed.named;
      metadata_is = has.metadata_there;
      kind = is.kind;
      compression = is.compression;
      zooms = rw (is.low_is, is.high_is) (zooms_of_contents tiles low high ascend zooms);
    }

is_archive : (bytes root metadata leaves : List ℕ) (tiles : List Tile) (es : List DirectoryEntry) (cs : List (List ℕ)) (h : Header) (low high : ℕ)
    → h ≡ header_for (lengths_of root metadata leaves (concat cs)) (counted tiles es cs) low high → AreZooms tiles low high → IdsAscend 0 tiles
    → AreJoined bytes h root metadata leaves (concat cs) → ArePlaced tiles es cs → AreDirectories root leaves es → length root ≤ 14850 → IsMetadata metadata
    → IsVectorArchive bytes metadata (tile_content tiles)
is_archive bytes root metadata leaves tiles es cs h low high e zooms ascend joined placed directories early meta =
    let is : IsLaid h root metadata leaves (concat cs) (counted tiles es cs) low high =
    subst (λ (g : Header). IsLaid g root metadata leaves (concat cs) (counted tiles es cs) low high) (sym e)
    (laid root metadata leaves (concat cs) (counted tiles es cs) low high) in
    is_laid_archive bytes root metadata leaves tiles es cs h low high is zooms ascend joined placed directories early meta

-- what is stored before the contents, with the contents after it
front_joined : (front root metadata leaves contents : List ℕ) (h : Header) → IsFront front h root metadata leaves
    → AreJoined (front ++ contents) h root metadata leaves contents
front_joined front root metadata leaves contents h (head, header, whole, parts) = (
  head,
  header,
  whole,
  ap (λ (bs : List ℕ). bs ++ contents) parts ∙ append_assoc head (root ++ (metadata ++ leaves)) contents
      ∙ ap (λ (bs : List ℕ). head ++ bs)
      (append_assoc root (metadata ++ leaves) contents ∙ ap (λ (bs : List ℕ). root ++ bs) (append_assoc metadata leaves contents)),
)

pub archive_joined : {E : Type 0} (r : Result (Vec ℕ Global) E) (root metadata leaves : List ℕ) (tiles : List Tile) (es : List DirectoryEntry)
    (cs : List (List ℕ)) (h : Header) (low high : ℕ) → h ≡ header_for (lengths_of root metadata leaves (concat cs)) (counted tiles es cs) low high
    → AreZooms tiles low high → IdsAscend 0 tiles → ArePlaced tiles es cs → AreDirectories root leaves es → length root ≤ 14850 → IsMetadata metadata
    → IfOk r (λ v. IsFront v.items h root metadata leaves) → IfOk r (λ v. IsVectorArchive (v.items ++ concat cs) metadata (tile_content tiles))
archive_joined r root metadata leaves tiles es cs h low high e zooms ascend placed directories early meta =
    IfOk-weaker r (λ v. IsFront v.items h root metadata leaves) (λ v. IsVectorArchive (v.items ++ concat cs) metadata (tile_content tiles))
    (λ v front. is_archive (v.items ++ concat cs) root metadata leaves tiles es cs h low high e zooms ascend
    (front_joined v.items root metadata leaves (concat cs) h front) placed directories early meta)

front_size : (front root metadata leaves : List ℕ) (h : Header) (n : ℕ) → length root + length leaves ≤ n → IsFront front h root metadata leaves
    → length front ≤ 127 + length metadata + n
front_size front root metadata leaves h n size (head, header, whole, parts) =
    omega (
      arith,
      ap (λ (bs : List ℕ). length bs) parts,
      length-append head (root ++ (metadata ++ leaves)),
      length-append root (metadata ++ leaves),
      length-append metadata leaves,
    )

pub size_joined : {E : Type 0} (r : Result (Vec ℕ Global) E) (root metadata leaves : List ℕ) (h : Header) (n : ℕ) → length root + length leaves ≤ n
    → IfOk r (λ v. IsFront v.items h root metadata leaves) → IfOk r (λ v. length v.items ≤ 127 + length metadata + n)
size_joined r root metadata leaves h n size =
    IfOk-weaker r (λ v. IsFront v.items h root metadata leaves) (λ v. length v.items ≤ 127 + length metadata + n)
    (λ v front. front_size v.items root metadata leaves h n size front)

front_long : (front root metadata leaves : List ℕ) (h : Header) → IsFront front h root metadata leaves → 127 + length metadata ≤ length front
front_long front root metadata leaves h (head, header, whole, parts) =
    omega (
      arith,
      whole,
      ap (λ (bs : List ℕ). length bs) parts,
      length-append head (root ++ (metadata ++ leaves)),
      length-append root (metadata ++ leaves),
      length-append metadata leaves,
    )

pub long_joined : {E : Type 0} (r : Result (Vec ℕ Global) E) (root metadata leaves : List ℕ) (h : Header)
    → IfOk r (λ v. IsFront v.items h root metadata leaves) → IfOk r (λ v. 127 + length metadata ≤ length v.items)
long_joined r root metadata leaves h =
    IfOk-weaker r (λ v. IsFront v.items h root metadata leaves) (λ v. 127 + length metadata ≤ length v.items)
    (λ v front. front_long v.items root metadata leaves h front)

-- as many entries as runs
named_count : (bytes : List ℕ) (rs : List TileRun) (es : List DirectoryEntry) → EachNames bytes rs es → length es ≡ length rs
named_count bytes [] [] h = refl
named_count bytes [] (e ∷ es) h = absurd h
named_count bytes (r ∷ rs) [] h = absurd h
named_count bytes (r ∷ rs) (e ∷ es) h = ap suc (named_count bytes rs es h.1)

are_laid_out : (bytes root metadata leaves : List ℕ) (tiles : List Tile) (es : List DirectoryEntry) (cs : List (List ℕ)) (h : Header) (low high : ℕ)
    → h ≡ header_for (lengths_of root metadata leaves (concat cs)) (counted tiles es cs) low high → AreZooms tiles low high → ArePlaced tiles es cs
    → AreJoined bytes h root metadata leaves (concat cs) → AreLaidOut bytes tiles metadata
are_laid_out bytes root metadata leaves tiles es cs h low high e zooms placed joined =
    let by_runs : h ≡ header_for (lengths_of root metadata leaves (concat cs)) (counts_of tiles placed.runs cs) low high =
    e ∙ ap (λ (n : ℕ). header_for (lengths_of root metadata leaves (concat cs)) record { addressed = length tiles; entries = n; contents = length cs } low high)
    (named_count (concat cs) placed.runs es placed.named) in
    record {
      runs = placed.runs;
      longest = placed.longest;
      contents = cs;
      different = placed.different;
      used = placed.used;
      stored = placed.stored;
      min_zoom = low;
      max_zoom = high;
      zooms = zooms;
      root = root;
      leaves = leaves;
      joined = subst (λ (g : Header). AreJoined bytes g root metadata leaves (concat cs)) by_runs joined;
    }

pub laid_out_joined : {E : Type 0} (r : Result (Vec ℕ Global) E) (root metadata leaves : List ℕ) (tiles : List Tile) (es : List DirectoryEntry)
    (cs : List (List ℕ)) (h : Header) (low high : ℕ) → h ≡ header_for (lengths_of root metadata leaves (concat cs)) (counted tiles es cs) low high
    → AreZooms tiles low high → ArePlaced tiles es cs
    → IfOk r (λ v. IsFront v.items h root metadata leaves) → IfOk r (λ v. AreLaidOut (v.items ++ concat cs) tiles metadata)
laid_out_joined r root metadata leaves tiles es cs h low high e zooms placed =
    IfOk-weaker r (λ v. IsFront v.items h root metadata leaves) (λ v. AreLaidOut (v.items ++ concat cs) tiles metadata)
    (λ v front. are_laid_out (v.items ++ concat cs) root metadata leaves tiles es cs h low high e zooms placed
    (front_joined v.items root metadata leaves (concat cs) h front))
