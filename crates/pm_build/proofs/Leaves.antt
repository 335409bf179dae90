-- Leaf directories one after the other.
use Rattle.std.proofs.Common.{◌≡◌, ℕ, zero, suc, ◌+◌, ◌*◌, ◌^◌, ◌<◌, ◌≤◌, List, [], ◌∷◌, ◌++◌, length, take, drop, get_or, slice_range, refl, sym, ap, subst}
use Rattle.std.proofs.Common.{◌∙◌, append_assoc, arith}
use Rattle.std.specs.List.{AllByRecursion}
use Rattle.std.proofs.lemmas.List.{length-append, append-nil}
use Rattle.hilbert_id.specs.declared.number.TheConstants.{TILE_IDS}
use Rattle.pm_directory.specs.declared.entry.DirectoryEntry.{DirectoryEntry}
use Rattle.pm_directory.specs.Directory.{ids_behind, AscendFrom, IsEntry, HasEnd, IsDirectory}
use Rattle.pm_build.specs.Leaves.{StartWith, NamesLeaf, NameLeaves, AreLeaves}
use Rattle.pm_build.proofs.Pieces.{part_front, part_middle, all_push}

-- ---- entries that ascend

pub ascend_lower : (low from : ℕ) (es : List DirectoryEntry) → low ≤ from → AscendFrom from es → AscendFrom low es
ascend_lower low from [] le h = tt
ascend_lower low from (e ∷ es) le h = let at = h.0 in (omega arith, h.1)

pub ascend_front : (from : ℕ) (es fs : List DirectoryEntry) → AscendFrom from (es ++ fs) → AscendFrom from es
ascend_front from [] fs h = tt
ascend_front from (e ∷ es) fs h = (h.0, ascend_front (ids_behind e) es fs h.1)

pub ascend_back : (from : ℕ) (es fs : List DirectoryEntry) → AscendFrom from (es ++ fs) → AscendFrom from fs
ascend_back from [] fs h = h
ascend_back from (e ∷ es) fs h =
    let at = h.0 in
    ascend_lower from (ids_behind e) fs (omega arith) (ascend_back (ids_behind e) es fs h.1)

pub ascend_take : (n from : ℕ) (es : List DirectoryEntry) → AscendFrom from es → AscendFrom from (take n es)
ascend_take zero from es h = tt
ascend_take (suc n) from [] h = tt
ascend_take (suc n) from (e ∷ es) h = (h.0, ascend_take n (ids_behind e) es h.1)

pub ascend_drop : (n from : ℕ) (es : List DirectoryEntry) → AscendFrom from es → AscendFrom from (drop n es)
ascend_drop zero from es h = h
ascend_drop (suc n) from [] h = tt
ascend_drop (suc n) from (e ∷ es) h =
    let at = h.0 in
    ascend_lower from (ids_behind e) (drop n es) (omega arith) (ascend_drop n (ids_behind e) es h.1)

pub starts : (es : List DirectoryEntry) (d : DirectoryEntry) → 0 < length es → StartWith (get_or es 0 d).id es
starts [] d some = absurd (omega arith)
starts (e ∷ es) d some = refl

-- names ascend as what they name
pub names_ascend : (from : ℕ) (bytes : List ℕ) (names es : List DirectoryEntry) → NameLeaves bytes names es → AscendFrom from es → AscendFrom from names
names_ascend from bytes [] es named h = tt
names_ascend from bytes (n ∷ ns) es (front, rest, parts, leaf, named) h =
    split front leaf.first (subst (λ (xs : List DirectoryEntry). AscendFrom from xs) parts h) (names_ascend (ids_behind n) bytes ns rest named)
  where
    split : (front : List DirectoryEntry) → StartWith n.id front → AscendFrom from (front ++ rest)
        → (AscendFrom (ids_behind n) rest → AscendFrom (ids_behind n) ns) → AscendFrom from (n ∷ ns)
    split [] first h next = absurd first
    split (f ∷ fs) first h next =
        let at = h.0 in
        let none = leaf.leaf in
        let same : f.id ≡ n.id = first in
        let low : ids_behind n ≤ ids_behind f = omega arith in
        (omega arith, next (ascend_lower (ids_behind n) (ids_behind f) rest low (ascend_back (ids_behind f) fs rest h.1)))

-- ---- one more leaf directory

leaf_longer : (bytes more : List ℕ) (n : DirectoryEntry) (es : List DirectoryEntry) → NamesLeaf bytes n es → NamesLeaf (bytes ++ more) n es
leaf_longer bytes more n es h =
    let inside = h.inside in
    record {
      leaf = h.leaf;
      first = h.first;
      inside = omega (arith, length-append bytes more);
      directory = subst (λ (xs : List ℕ). IsDirectory xs es) (sym (part_front bytes more n.offset (n.offset + n.length) inside)) h.directory;
    }

named_more : (bytes more : List ℕ) (names es : List DirectoryEntry) (name : DirectoryEntry) (leaf : List DirectoryEntry) → NameLeaves bytes names es
    → NamesLeaf (bytes ++ more) name leaf → NameLeaves (bytes ++ more) (names ++ name ∷ []) (es ++ leaf)
named_more bytes more [] es name leaf none h = (leaf, [], ap (λ (xs : List DirectoryEntry). xs ++ leaf) none ∙ sym (append-nil leaf), h, refl)
named_more bytes more (n ∷ ns) es name leaf (front, rest, parts, first, named) h = (
  front,
  rest ++ leaf,
  ap (λ (xs : List DirectoryEntry). xs ++ leaf) parts ∙ append_assoc front rest leaf,
  leaf_longer bytes more n front first,
  named_more bytes more ns rest name leaf named h,
)

-- a name of a leaf directory that is stored after these bytes
pub record IsNameOf (bytes piece : List ℕ) (leaf : List DirectoryEntry) (name : DirectoryEntry) : Type 0 where
  pub first : StartWith name.id leaf
  pub run_is : name.run ≡ 0
  pub length_is : name.length ≡ length piece
  pub offset_is : name.offset ≡ length bytes

first_id : (id : ℕ) (leaf : List DirectoryEntry) → StartWith id leaf → AllByRecursion IsEntry leaf → id ≤ TILE_IDS
first_id id [] first each = absurd first
first_id id (e ∷ es) first each = let fits = each.0.ids_fit in omega (arith, first)

pub leaf_pushed : (bytes piece : List ℕ) (names es leaf : List DirectoryEntry) (name : DirectoryEntry) → AreLeaves bytes names es
    → IsNameOf bytes piece leaf name → IsDirectory piece leaf → AllByRecursion IsEntry leaf
    → 0 < length piece → length piece ≤ 2 + 29 * length leaf → length leaf ≤ 512 → length (bytes ++ piece) < 2 ^ 64
    → AreLeaves (bytes ++ piece) (names ++ name ∷ []) (es ++ leaf)
leaf_pushed bytes piece names es leaf name h is directory each some short few fits =
    let long = length-append bytes piece in
    let e_len = is.length_is in
    let e_off = is.offset_is in
    let e_run = is.run_is in
    let id_fits = first_id name.id leaf is.first each in
    let section : slice_range (bytes ++ (piece ++ [])) name.offset (name.offset + name.length) ≡ piece =
    part_middle bytes piece [] name.offset (name.offset + name.length) (sym e_off) (ap (λ (n : ℕ). name.offset + n) (sym e_len)) in
    let there : slice_range (bytes ++ piece) name.offset (name.offset + name.length) ≡ piece =
    ap (λ (xs : List ℕ). slice_range (bytes ++ xs) name.offset (name.offset + name.length)) (sym (append-nil piece)) ∙ section in
    let names_leaf : NamesLeaf (bytes ++ piece) name leaf = record {
      leaf = is.run_is;
      first = is.first;
      inside = omega arith;
      directory = subst (λ (xs : List ℕ). IsDirectory xs leaf) (sym there) directory;
    } in
    let is_entry : IsEntry name = record {
      some = omega arith;
      length_fits = omega arith;
      run_fits = omega arith;
      ids_fit = omega arith;
      offset_fits = omega arith;
    } in
    let before = h.short in
    record {
      named = named_more bytes piece names es name leaf h.named names_leaf;
      each = all_push IsEntry names name h.each is_entry;
      ends = all_push HasEnd names name h.ends (omega arith, omega arith);
      short = omega (arith, length-append names (name ∷ []), length-append es leaf);
    }
