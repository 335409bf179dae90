-- The archive on a disk, and its cached look-up.
use Rattle.std.proofs.Common.{
  ◌≡◌,
  ◌∙◌,
  ℕ,
  ◌<◌,
  List,
  length,
  Option,
  Some,
  None,
  option_map,
  Result,
  Ok,
  Err,
  MatchResult,
  Vec,
  Global,
  inl,
  inr,
  sym,
  ap,
  subst,
  arith,
}
use Rattle.area_content.specs.Tiles.{AreTilesOf, IsArchiveOfMap}
use Rattle.feature_store.specs.Content.{IsTileContent}
use Rattle.feature_store.specs.Layers.{layers}
use Rattle.feature_store.specs.Store.{FeatureMap}
use Rattle.pm_archive.specs.Answers.{IsOutside}
use Rattle.pm_archive.specs.Archive.{HasContents}
use Rattle.pm_archive.specs.declared.fault.ArchiveFault.{ArchiveFault}
use Rattle.pm_metadata.proofs.ArchiveLaws.{has_contents}
use Rattle.pm_build.proofs.Vector.{archive_of_contents}
use Rattle.sector_disk.specs.Disk.{History, seen}
use Rattle.sector_bytes.specs.Bytes.{StandsIn}
use Rattle.sector_bytes.specs.Source.{SourceView, AreItsBytes}
use Rattle.published_tiles.specs.Opened.{OpenedView, IsOpenedOf, IsOpenedUpTo}
use Rattle.published_tiles.specs.Reading.{ReadingView, IsReadingOf, IsReadingUpTo, StaysOrNone}
use Rattle.published_tiles.specs.Published.{PublishedView, ArePublished}
use Rattle.published_tiles.specs.declared.place.ArchivePlace.{ArchivePlace}

-- the source that was made has the bytes stored on the disk
pub made : {D : Type 0} (history : D → History) (source : SourceView D) (disk : D) (first len : ℕ) (bytes : List ℕ) → source.disk.now ≡ disk
    → source.first ≡ first → source.len ≡ len → AreItsBytes first len bytes (seen (history disk))
    → AreItsBytes source.first source.len bytes (seen (history source.disk.now))
made {D} history source disk first len bytes disk_is first_is len_is are = record {
  length_is = are.length_is ∙ sym len_is;
  stands = subst (λ (d : D). StandsIn source.first bytes (seen (history d))) (sym disk_is)
      (subst (λ (f : ℕ). StandsIn f bytes (seen (history disk))) (sym first_is) are.stands);
}

-- bytes that are an archive of a map have the contents of its tiles
pub contents_of_map : (m : FeatureMap) (metadata bytes : List ℕ) (len : ℕ) → length bytes ≡ len → 0 < len → IsArchiveOfMap m metadata bytes
    → (content : ℕ → Option (List ℕ)) × AreTilesOf m content × HasContents bytes content
contents_of_map m metadata bytes len long some (inl none) = let nothing = ap length none.1 in absurd (omega (arith, nothing, long, some))
contents_of_map m metadata bytes len long some (inr has) =
    (has.1.0, has.1.1, has_contents bytes has.1.0 (archive_of_contents bytes metadata has.1.0 has.1.2))

-- the content of a tile's id is that of the tile
pub tile_told : (m : FeatureMap) (z x y : ℕ) (content : Option (List ℕ)) (r : Result (Option (Vec ℕ Global)) ArchiveFault)
    → MatchResult r (λ found. option_map (λ v. v.items) found ≡ content) IsOutside → IsTileContent (layers m z x y) content
    → MatchResult r (λ found. IsTileContent (layers m z x y) (option_map (λ v. v.items) found)) IsOutside
tile_told m z x y content (Ok found) is tile = subst (IsTileContent (layers m z x y)) (sym is) tile
tile_told m z x y content (Err fault) is tile = is

-- the cached look-up belongs to no generation after this one
opened_next : (o : Option OpenedView) (place next : ArchivePlace) (bytes : List ℕ) → IsOpenedUpTo place.generation o → place.generation < next.generation
    → IsOpenedOf next bytes o
opened_next None place next bytes le later = tt
opened_next (Some o) place next bytes le later = λ same. let is = ap (λ (p : ArchivePlace). p.generation) same in absurd (omega (arith, le, later, is))

opened_up_to : (o : Option OpenedView) (place next : ArchivePlace) → IsOpenedUpTo place.generation o → place.generation < next.generation
    → IsOpenedUpTo next.generation o
opened_up_to None place next le later = tt
opened_up_to (Some o) place next le later = omega (arith, le, later)

-- nor do the first bytes of a content

reading_next : (o : Option ReadingView) (place next : ArchivePlace) (bytes : List ℕ) → IsReadingUpTo place.generation o
    → place.generation < next.generation → IsReadingOf next bytes o
reading_next None place next bytes le later = tt
reading_next (Some o) place next bytes le later = λ same.
    let is = ap (λ (p : ArchivePlace). p.generation) same in absurd (omega (arith, le, later, is))

reading_up_to : (o : Option ReadingView) (place next : ArchivePlace) → IsReadingUpTo place.generation o → place.generation < next.generation
    → IsReadingUpTo next.generation o
reading_up_to None place next le later = tt
reading_up_to (Some o) place next le later = omega (arith, le, later)

-- what stays, or isn't kept, is still of the archive

pub reading_stays : (old new : Option ReadingView) (place : ArchivePlace) (bytes : List ℕ) → StaysOrNone old new → IsReadingOf place bytes old
    → IsReadingOf place bytes new
reading_stays old new place bytes (inl same) is = subst (λ (o : Option ReadingView). IsReadingOf place bytes o) (sym same) is
reading_stays old new place bytes (inr none) is = subst (λ (o : Option ReadingView). IsReadingOf place bytes o) (sym none) tt

pub reading_stays_up_to : (old new : Option ReadingView) (generation : ℕ) → StaysOrNone old new → IsReadingUpTo generation old
    → IsReadingUpTo generation new
reading_stays_up_to old new generation (inl same) is = subst (λ (o : Option ReadingView). IsReadingUpTo generation o) (sym same) is
reading_stays_up_to old new generation (inr none) is = subst (λ (o : Option ReadingView). IsReadingUpTo generation o) (sym none) tt

-- So what is cached is valid for any later archive: it doesn't belong to it.
pub published_next : (t : PublishedView) (place next : ArchivePlace) (bytes last : List ℕ) → ArePublished t place bytes
    → place.generation < next.generation → ArePublished t next last
published_next t place next bytes last are later = record {
  opened = opened_next t.opened place next last are.up_to later;
  up_to = opened_up_to t.opened place next are.up_to later;
  reading = reading_next t.reading place next last are.reading_up_to later;
  reading_up_to = reading_up_to t.reading place next are.reading_up_to later;
}
