-- Laws of what a disk has, for the crates above.
use Rattle.std.proofs.Common.{◌≡◌, ◌⊎◌, inl, inr, ⊎_elim, ℕ, ◌≤◌, ◌<◌, ◌+◌, ◌^◌, ◌%◌, ◌==◌, if◌then◌else◌, List, take, Option, Some, None, true, false}
use Rattle.std.proofs.Common.{refl, sym, ◌∙◌, ap, subst, arith, lit<, lit≤}
use Rattle.std.proofs.lemmas.Bool.{cases_eq, cases_lt, cases_Bool, both_ways}
use Rattle.std.proofs.lemmas.Bool.Decides.{nat_tests}
use Rattle.std.proofs.lemmas.Slice.Eq.{bytes_eq-Decides}
use Rattle.std.specs.Str.{bytes_eq}
use Rattle.sector_disk.specs.Disk.{Image}
use Rattle.generations.specs.Areas.{IsSize, journal_sectors, area_sectors, sectors_of}
use Rattle.generations.specs.Disks.{HasNoMark, HasRoot, IsSound, LiveRoot, IsFaultOf, IsFresh, first_root}
use Rattle.generations.specs.Sectors.{disk_mark, IsVersion, version_from, format_sector, zeros, HasMark}
use Rattle.generations.specs.Sectors.{root_sector, root_from, number_from, AreNumbers, CanStand}
use Rattle.generations.specs.Sectors.{IsFormat, IsRootOf, IsRootSector, IsNoRoot, IsBad, IsSlot, IsNewest}
use Rattle.generations.specs.declared.sizes.TheConstants.{MIN_SECTORS, MAX_SECTORS, LAST_VERSION}
use Rattle.generations.specs.declared.root.Root.{Root}
use Rattle.generations.specs.declared.fault.StoreFault.{StoreFault}
use Rattle.generations.specs.declared.fault.StoreFault.TheVariants.{NotFormatted, TooSmall, Damaged, Device, Memory}
use Rattle.generations.specs.declared.fault.What.TheVariants.{Size, RootSector, Snapshot, Journal, Text}
use Rattle.generations.proofs.Formats.{marked}
use Rattle.generations.proofs.Live.{zeros_no_root, newest_lives, none_lives, bad_even, bad_odd}
use Rattle.generations.proofs.Formats as formats
use Rattle.generations.proofs.Roots as roots

-- ---- at most one

-- a sector is that of a format with one count
pub one_format : (count other : ℕ) (sector : List ℕ) (n m : ℕ) → IsFormat count sector n → IsFormat other sector m → n ≡ m
one_format count other sector n m is too =
    formats.is_read sector n (is.stands, omega (arith, is.size.1)) ∙ sym (formats.is_read sector m (too.stands, omega (arith, too.size.1)))

-- a sector has one root
pub one_root : (sector : List ℕ) (a b : Root) → IsRootSector sector a → IsRootSector sector b → a ≡ b
one_root sector a b is too = roots.is_read sector a is ∙ sym (roots.is_read sector b too)

same_generation : (n : ℕ) (image : Image) (a b : Root) → HasRoot n image a → HasRoot n image b → a.generation ≡ b.generation → a ≡ b
same_generation n image a b (inl is) (inl too) same = one_root (image 1) a b is.stands too.stands
same_generation n image a b (inl is) (inr too) same = absurd (omega (arith, is.parity_is, too.parity_is, same))
same_generation n image a b (inr is) (inl too) same = absurd (omega (arith, is.parity_is, too.parity_is, same))
same_generation n image a b (inr is) (inr too) same = one_root (image 2) a b is.stands too.stands

-- a disk has at most one live root, with one count of sectors
pub one_live : (count : ℕ) (image : Image) (n m : ℕ) (root other : Root) → LiveRoot count image n root → LiveRoot count image m other → (n ≡ m) × (root ≡ other)
one_live count image n m root other is too =
    let same : n ≡ m = one_format count count (image 0) n m is.format too.format in
    let there : HasRoot n image other = subst (λ (k : ℕ). HasRoot k image other) (sym same) too.stands in
    let here : HasRoot m image root = subst (λ (k : ℕ). HasRoot k image root) same is.stands in
    (same, same_generation n image root other is.stands there (omega (arith, is.greatest other there, too.greatest root here)))

-- a disk with a format has the mark
format_marked : (count : ℕ) (image : Image) (n : ℕ) → IsFormat count (image 0) n → ((count ≡ 0) ⊎ HasNoMark image) → ⊥
format_marked count image n is (inl none) = omega (arith, is.size.0, is.within, none)
format_marked count image n is (inr none) = none (marked (image 0) (version_from (image 0)) n is.stands.1)

-- a disk has at most one fault
pub one_fault : (count : ℕ) (image : Image) (a b : StoreFault) → IsFaultOf count image a → IsFaultOf count image b → a ≡ b
one_fault count image NotFormatted NotFormatted is too = refl
one_fault count image NotFormatted (Damaged Size) (inl none) too = absurd (omega (arith, none, too.0))
one_fault count image NotFormatted (Damaged Size) (inr none) too = absurd (none too.1)
one_fault count image NotFormatted (Damaged RootSector) is too = absurd (format_marked count image too.0 too.1 is)
one_fault count image NotFormatted (Damaged Snapshot) is too = absurd too
one_fault count image NotFormatted (Damaged Journal) is too = absurd too
one_fault count image NotFormatted (Damaged Text) is too = absurd too
one_fault count image NotFormatted TooSmall is too = absurd too
one_fault count image NotFormatted Device is too = absurd too
one_fault count image NotFormatted Memory is too = absurd too
one_fault count image (Damaged Size) NotFormatted is (inl none) = absurd (omega (arith, none, is.0))
one_fault count image (Damaged Size) NotFormatted is (inr none) = absurd (none is.1)
one_fault count image (Damaged Size) (Damaged Size) is too = refl
one_fault count image (Damaged Size) (Damaged RootSector) is too = absurd (is.2 too.0 too.1)
one_fault count image (Damaged Size) (Damaged Snapshot) is too = absurd too
one_fault count image (Damaged Size) (Damaged Journal) is too = absurd too
one_fault count image (Damaged Size) (Damaged Text) is too = absurd too
one_fault count image (Damaged Size) TooSmall is too = absurd too
one_fault count image (Damaged Size) Device is too = absurd too
one_fault count image (Damaged Size) Memory is too = absurd too
one_fault count image (Damaged RootSector) NotFormatted is too = absurd (format_marked count image is.0 is.1 too)
one_fault count image (Damaged RootSector) (Damaged Size) is too = absurd (too.2 is.0 is.1)
one_fault count image (Damaged RootSector) (Damaged RootSector) is too = refl
one_fault count image (Damaged RootSector) (Damaged Snapshot) is too = absurd too
one_fault count image (Damaged RootSector) (Damaged Journal) is too = absurd too
one_fault count image (Damaged RootSector) (Damaged Text) is too = absurd too
one_fault count image (Damaged RootSector) TooSmall is too = absurd too
one_fault count image (Damaged RootSector) Device is too = absurd too
one_fault count image (Damaged RootSector) Memory is too = absurd too
one_fault count image (Damaged Snapshot) b is too = absurd is
one_fault count image (Damaged Journal) b is too = absurd is
one_fault count image (Damaged Text) b is too = absurd is
one_fault count image TooSmall b is too = absurd is
one_fault count image Device b is too = absurd is
one_fault count image Memory b is too = absurd is

-- ---- one or the other

sound_no_bad : (n parity : ℕ) (image : Image) (at : ℕ) → IsSound n parity image at → IsBad n parity (image at) → ⊥
sound_no_bad n parity image at (inl none) bad = bad.0 none
sound_no_bad n parity image at (inr is) bad = bad.1 is.0 is.1

root_there : (n : ℕ) (image : Image) (root : Root) → HasRoot n image root → IsNoRoot (image 1) × IsNoRoot (image 2) → ⊥
root_there n image root (inl is) none = zeros_no_root root (sym none.0 ∙ is.stands.bytes)
root_there n image root (inr is) none = zeros_no_root root (sym none.1 ∙ is.stands.bytes)

-- a disk with a live root has no fault
pub live_no_fault : (count : ℕ) (image : Image) (n : ℕ) (root : Root) (fault : StoreFault) → LiveRoot count image n root → IsFaultOf count image fault → ⊥
live_no_fault count image n root NotFormatted live is = format_marked count image n live.format is
live_no_fault count image n root (Damaged Size) live is = is.2 n live.format
live_no_fault count image n root (Damaged RootSector) live is =
    let same : is.0 ≡ n = one_format count count (image 0) is.0 n is.1 live.format in
    ⊎_elim
    (λ (bad : IsBad is.0 0 (image 1)). sound_no_bad n 0 image 1 live.even (subst (λ (k : ℕ). IsBad k 0 (image 1)) same bad))
    (λ (rest : IsBad is.0 1 (image 2) ⊎ (IsNoRoot (image 1) × IsNoRoot (image 2))). ⊎_elim
    (λ (bad : IsBad is.0 1 (image 2)). sound_no_bad n 1 image 2 live.odd (subst (λ (k : ℕ). IsBad k 1 (image 2)) same bad))
    (λ (none : IsNoRoot (image 1) × IsNoRoot (image 2)). root_there n image root live.stands none)
    rest)
    is.2
live_no_fault count image n root (Damaged Snapshot) live is = is
live_no_fault count image n root (Damaged Journal) live is = is
live_no_fault count image n root (Damaged Text) live is = is
live_no_fault count image n root TooSmall live is = is
live_no_fault count image n root Device live is = is
live_no_fault count image n root Memory live is = is

-- ---- a fresh disk, and one without the mark

first_numbers : AreNumbers first_root
first_numbers = record { generation = lit< tt; edits = lit< tt; journal_at = lit< tt; snapshot_len = lit< tt; archive_len = lit< tt }

first_stands : (n : ℕ) (sector : List ℕ) → IsSize n → sector ≡ root_sector first_root → IsRootOf n 0 sector first_root
first_stands n sector size is = record {
  stands = record { bytes = is; numbers = first_numbers };
  parity_is = refl;
  can = record { journal = omega (arith, size.0); area = omega arith };
}

-- the format of a version names it
pub format_has_version : (version n : ℕ) → IsVersion version → version_from (format_sector version n) ≡ version
format_has_version version n is = formats.has_version version n is

-- on a disk that was just formatted the first root counts
pub fresh_live : (count version n : ℕ) (image : Image) → IsVersion version → IsSize n → n ≤ count → IsFresh version n image → LiveRoot count image n first_root
fresh_live count version n image is_version size within fresh =
    let there : version_from (image 0) ≡ version = ap version_from fresh.format ∙ formats.has_version version n is_version in
    let none : image 2 ≡ zeros = fresh.empty 2 (omega arith) (omega arith) in
    let first : IsRootOf n 0 (image 1) first_root = first_stands n (image 1) size fresh.root in
    record {
      format = record {
        stands = (subst IsVersion (sym there) is_version, fresh.format ∙ ap (λ v. format_sector v n) (sym there));
        size = size;
        within = within;
      };
      even = inr (first_root, first);
      odd = inl none;
      stands = inl first;
      greatest = λ other has. ⊎_elim
          (λ (is : IsRootOf n 0 (image 1) other). let same : other ≡ first_root = one_root (image 1) other first_root is.stands first.stands in
          omega (arith, ap (λ (r : Root). r.generation) same))
          (λ (is : IsRootOf n 1 (image 2) other). absurd (zeros_no_root other (sym none ∙ is.stands.bytes)))
          has;
    }

-- a disk without the mark isn't formatted
pub unmarked_fault : (count : ℕ) (image : Image) → HasNoMark image → IsFaultOf count image NotFormatted
unmarked_fault count image none = inr none

-- ---- at least one

abbrev Decided : Type 0 → Type 0
Decided P = P ⊎ (P → ⊥)

both : {P Q : Type 0} → Decided P → Decided Q → Decided (P × Q)
both (inl p) (inl q) = inl (p, q)
both (inl p) (inr isnt) = inr (λ w. isnt w.1)
both (inr isnt) q = inr (λ w. isnt w.0)

moved : {P Q : Type 0} → (P → Q) → (Q → P) → Decided P → Decided Q
moved there back (inl p) = inl (there p)
moved there back (inr isnt) = inr (λ q. isnt (back q))

either : {P Q : Type 0} → Decided P → Decided Q → Decided (P ⊎ Q)
either (inl p) q = inl (inl p)
either (inr isnt) (inl q) = inl (inr q)
either (inr isnt) (inr is_none) = inr (λ w. ⊎_elim isnt is_none w)

same_list : (xs ys : List ℕ) → Decided (xs ≡ ys)
same_list xs ys = ⊎_elim (λ (yes : bytes_eq xs ys ≡ true). inl ((bytes_eq-Decides xs ys).0 yes))
    (λ (no : bytes_eq xs ys ≡ false). inr (λ is. both_ways (bytes_eq xs ys) no ((bytes_eq-Decides xs ys).1 is)))
    (cases_Bool (bytes_eq xs ys))

below : (a b : ℕ) → Decided (a < b)
below a b = ⊎_elim (λ (lt : a < b). inl lt) (λ (ge : b ≤ a). inr (λ lt. omega (arith, lt, ge))) (cases_lt a b)

at_most : (a b : ℕ) → Decided (a ≤ b)
at_most a b = ⊎_elim (λ (lt : b < a). inr (λ le. omega (arith, lt, le))) (λ (le : a ≤ b). inl le) (cases_lt b a)

format_decided : (count n : ℕ) (sector : List ℕ) → Decided (IsFormat count sector n)
format_decided count n sector =
    moved (λ (w : ((IsVersion (version_from sector)) × (sector ≡ format_sector (version_from sector) n)) × (IsSize n × (n ≤ count))).
    record { stands = w.0; size = w.1.0; within = w.1.1 })
    (λ is. (is.stands, (is.size, is.within)))
    (both (both (either (cases_eq (version_from sector) 1) (cases_eq (version_from sector) 2))
    (same_list sector (format_sector (version_from sector) n)))
    (both (both (at_most MIN_SECTORS n) (at_most n MAX_SECTORS)) (at_most n count)))

-- the five numbers of a root, taken by two
abbrev TwoAndThree : Root → Type 0
TwoAndThree root = ((root.generation < 2 ^ 64) × (root.edits < 2 ^ 64))
    × ((root.journal_at < 2 ^ 64) × ((root.snapshot_len < 2 ^ 64) × (root.archive_len < 2 ^ 64)))

numbers_decided : (root : Root) → Decided (AreNumbers root)
numbers_decided root =
    moved (λ (w : TwoAndThree root). record { generation = w.0.0; edits = w.0.1; journal_at = w.1.0; snapshot_len = w.1.1.0; archive_len = w.1.1.1 })
    (λ are. ((are.generation, are.edits), (are.journal_at, (are.snapshot_len, are.archive_len))))
    (both (both (below root.generation (2 ^ 64)) (below root.edits (2 ^ 64)))
    (both (below root.journal_at (2 ^ 64)) (both (below root.snapshot_len (2 ^ 64)) (below root.archive_len (2 ^ 64)))))

can_decided : (n : ℕ) (root : Root) → Decided (CanStand n root)
can_decided n root =
    moved (λ (w : (root.journal_at < journal_sectors n) × (sectors_of root.snapshot_len + sectors_of root.archive_len ≤ area_sectors n)).
    record { journal = w.0; area = w.1 })
    (λ can. (can.journal, can.area))
    (both (below root.journal_at (journal_sectors n)) (at_most (sectors_of root.snapshot_len + sectors_of root.archive_len) (area_sectors n)))

root_decided : (n parity : ℕ) (sector : List ℕ) (root : Root) → Decided (IsRootOf n parity sector root)
root_decided n parity sector root =
    moved (λ (w : ((sector ≡ root_sector root) × AreNumbers root) × ((root.generation % 2 ≡ parity) × CanStand n root)).
    record { stands = record { bytes = w.0.0; numbers = w.0.1 }; parity_is = w.1.0; can = w.1.1 })
    (λ is. ((is.stands.bytes, is.stands.numbers), (is.parity_is, is.can)))
    (both (both (same_list sector (root_sector root)) (numbers_decided root)) (both (cases_eq (root.generation % 2) parity) (can_decided n root)))

-- what a sector of a root has: zeros or a root, or it is bad
slot_or_bad : (n parity : ℕ) (sector : List ℕ) → ((slot : Option Root) × IsSlot n parity sector slot) ⊎ IsBad n parity sector
slot_or_bad n parity sector = ⊎_elim
    (λ (none : sector ≡ zeros). inl (None, none))
    (λ (some : sector ≡ zeros → ⊥). ⊎_elim
    (λ (is : IsRootOf n parity sector (root_from sector)). inl (Some (root_from sector), is))
    (λ (no : IsRootOf n parity sector (root_from sector) → ⊥). inr (
      some,
      λ root is.
          no (subst (λ (r : Root). IsRootOf n parity sector r) (roots.is_read sector root is.stands) is),
    ))
    (root_decided n parity sector (root_from sector)))
    (same_list sector zeros)

some_same : (a b : Root) → Some a ≡ Some b → b.generation ≤ a.generation
some_same a b is = let same : a ≡ b = cc in omega (arith, ap (λ (r : Root). r.generation) same)

none_some : (a : Root) → None ≡ Some a → ⊥
none_some a is = cc

-- of two slots there is a newest root, or none
newest_or_none : (even odd : Option Root) → ((root : Root) × IsNewest even odd (Some root)) ⊎ ((even ≡ None) × (odd ≡ None))
newest_or_none None None = inr (refl, refl)
newest_or_none (Some a) None = inl (
  a,
  (
    inl refl,
    λ other has. ⊎_elim
        (λ (is : Some a ≡ Some other). some_same a other is) (λ (is : None ≡ Some other). absurd (none_some other is)) has,
  ),
)
newest_or_none None (Some b) = inl (
  b,
  (
    inr refl,
    λ other has. ⊎_elim
        (λ (is : None ≡ Some other). absurd (none_some other is)) (λ (is : Some b ≡ Some other). some_same b other is) has,
  ),
)
newest_or_none (Some a) (Some b) = ⊎_elim
    (λ (lt : a.generation < b.generation). inl (
      b,
      (
        inr refl,
        λ other has. ⊎_elim
            (λ (is : Some a ≡ Some other). omega (arith, lt, some_same a other is)) (λ (is : Some b ≡ Some other). some_same b other is) has,
      ),
    ))
    (λ (ge : b.generation ≤ a.generation). inl (
      a,
      (
        inl refl,
        λ other has. ⊎_elim
            (λ (is : Some a ≡ Some other). some_same a other is) (λ (is : Some b ≡ Some other). omega (arith, ge, some_same b other is)) has,
      ),
    ))
    (cases_lt a.generation b.generation)

-- a disk has a live root
abbrev pub HasLive : ℕ → Image → Type 0
HasLive count image = (n : ℕ) × (root : Root) × LiveRoot count image n root

-- or it has a fault
abbrev pub HasFault : ℕ → Image → Type 0
HasFault count image = (fault : StoreFault) × IsFaultOf count image fault

formatted : (count : ℕ) (image : Image) (n : ℕ) → IsFormat count (image 0) n → HasLive count image ⊎ HasFault count image
formatted count image n format = ⊎_elim
    (λ (even : (slot : Option Root) × IsSlot n 0 (image 1) slot). ⊎_elim
    (λ (odd : (slot : Option Root) × IsSlot n 1 (image 2) slot). ⊎_elim
    (λ (live : (root : Root) × IsNewest even.0 odd.0 (Some root)). inl (n, live.0, newest_lives count image n format even.0 odd.0 even.1 odd.1 live.0 live.1))
    (λ (none : (even.0 ≡ None) × (odd.0 ≡ None)). inr (Damaged RootSector, none_lives count image n format even.0 odd.0 even.1 odd.1 none))
    (newest_or_none even.0 odd.0))
    (λ (bad : IsBad n 1 (image 2)). inr (Damaged RootSector, bad_odd count image n format bad))
    (slot_or_bad n 1 (image 2)))
    (λ (bad : IsBad n 0 (image 1)). inr (Damaged RootSector, bad_even count image n format bad))
    (slot_or_bad n 0 (image 1))

marked_or_not : (count : ℕ) (image : Image) → 0 < count → HasMark (image 0) → HasLive count image ⊎ HasFault count image
marked_or_not count image pos mark = ⊎_elim
    (λ (is : IsFormat count (image 0) (number_from 12 (image 0))). formatted count image (number_from 12 (image 0)) is)
    (λ (no : IsFormat count (image 0) (number_from 12 (image 0)) → ⊥). inr (
      Damaged Size,
      (
        pos,
        mark,
        λ n is.
            no (subst (λ (k : ℕ). IsFormat count (image 0) k) (formats.is_read (image 0) n (is.stands, omega (arith, is.size.1))) is),
      ),
    ))
    (format_decided count (number_from 12 (image 0)) (image 0))

-- a disk has a live root or a fault
pub live_or_fault : (count : ℕ) (image : Image) → HasLive count image ⊎ HasFault count image
live_or_fault count image = ⊎_elim
    (λ (none : count ≡ 0). inr (NotFormatted, inl none))
    (λ (some : count ≡ 0 → ⊥). ⊎_elim
    (λ (mark : take 8 (image 0) ≡ disk_mark). marked_or_not count image (omega arith) mark)
    (λ (no : take 8 (image 0) ≡ disk_mark → ⊥). inr (NotFormatted, inr no))
    (same_list (take 8 (image 0)) disk_mark))
    (cases_eq count 0)

-- ---- the definitions aren't empty

-- a disk that was just formatted with n sectors
abbrev pub fresh_image : ℕ → Image
fresh_image n at = if at == 0 then format_sector LAST_VERSION n else if at == 1 then root_sector first_root else zeros

pub some_fresh : (n : ℕ) → IsFresh LAST_VERSION n (fresh_image n)
some_fresh n = record { format = refl; root = refl; empty = λ at le lt. grind (arith, nat_tests) }

pub some_live : LiveRoot 64 (fresh_image 64) 64 first_root
some_live = fresh_live 64 LAST_VERSION 64 (fresh_image 64) (inr refl) (lit≤ tt, lit≤ tt) (lit≤ tt) (some_fresh 64)

pub some_parts : (journal_sectors 64 ≡ 16) × (area_sectors 64 ≡ 22)
some_parts = (refl, refl)
