-- What is looked up below the root directory of an archive is the content of the id.
use Rattle.std.proofs.Common.{◌≡◌, ◌∙◌, ℕ, List, [], Ok, Option, sym, ap, subst}
use Rattle.std.proofs.lemmas.List.Elements.{All-nil}
use Rattle.reader.proofs.Steps.{then_is}
use Rattle.hilbert_id.specs.declared.number.TheConstants.{TILE_IDS}
use Rattle.pm_header.specs.declared.header.Header.{Header}
use Rattle.pm_directory.specs.declared.entry.DirectoryEntry.{DirectoryEntry}
use Rattle.pm_directory.specs.Directory.{IsDirectory}
use Rattle.pm_archive.specs.declared.limits.TheConstants.{MAX_LEAF_LEVELS}
use Rattle.pm_archive.specs.Sections.{HasSections, section_bytes}
use Rattle.pm_archive.specs.Entries.{HasEntries, entry_of}
use Rattle.pm_archive.specs.Archive.{HasContents, content_of}
use Rattle.pm_archive.specs.Looked.{leading_of, reached_at, content_at, looked_at}
use Rattle.pm_archive.specs.Lookup.{LeafView, IsLeafOf, AreCachedOf}
use Rattle.pm_archive.proofs.ListedClauses.{has_each}
use Rattle.pm_archive.proofs.LookedLaws.{reaches, content_found}
use Rattle.pm_archive.proofs.OpenedLaws.{one_header}

pub looked_below : (bytes : List ℕ) (h : Header) (root tiles : List DirectoryEntry) (id : ℕ) → IsDirectory (section_bytes h.root bytes) root
    → HasEntries bytes h tiles → looked_at bytes h root id ≡ Ok (content_of bytes h tiles id)
unfolding looked_at
looked_below bytes h root tiles id dir has =
    let lists = has_each bytes h root tiles dir has in
    then_is (reached_at bytes h id MAX_LEAF_LEVELS (leading_of id root)) (content_at bytes h) (entry_of tiles id) (Ok (content_of bytes h tiles id))
    (reaches bytes h id MAX_LEAF_LEVELS 0 TILE_IDS root tiles dir.ascending lists) (content_found bytes h id MAX_LEAF_LEVELS TILE_IDS root tiles lists)

pub looked_content : (bytes : List ℕ) (h : Header) (root : List DirectoryEntry) (content : ℕ → Option (List ℕ)) (id : ℕ) → HasSections bytes h
    → IsDirectory (section_bytes h.root bytes) root → HasContents bytes content → looked_at bytes h root id ≡ Ok (content id)
looked_content bytes h root content id has dir archive =
    let same = one_header bytes archive.0 h archive.2.header has.header in
    let entries = subst (λ (g : Header). HasEntries bytes g archive.1) same archive.3 in
    let told : content_of bytes h archive.1 id ≡ content id = ap (λ (g : Header). content_of bytes g archive.1 id) (sym same) ∙ sym (archive.4 id) in
    looked_below bytes h root archive.1 id dir entries ∙ ap (λ (c : Option (List ℕ)). Ok c) told

-- if no leaf directory is cached, each cached one is the one that its entry names
pub none_cached : (bytes : List ℕ) (h : Header) (leaves : List LeafView) → leaves ≡ [] → AreCachedOf bytes h leaves
none_cached bytes h leaves none = subst (λ (ls : List LeafView). AreCachedOf bytes h ls) (sym none) (All-nil (IsLeafOf bytes h))
