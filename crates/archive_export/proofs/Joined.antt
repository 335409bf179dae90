-- Bytes copied one after the other.
use Rattle.std.proofs.Common.{◌≡◌, ℕ, ◌<◌, ◌≤◌, ◌+◌, ◌-◌, List, [], ◌++◌, length, Option, take, drop, slice_range}
use Rattle.std.proofs.Common.{refl, sym, ap, ◌∙◌, subst, arith, length-append}
use Rattle.std.proofs.lemmas.List.{take_all, take_at, take-take}
use Rattle.std.proofs.Math.Seq.{take-add}
use Rattle.std.proofs.KnownBytes.{Appends-trans}
use Rattle.sector_disk.specs.Disk.{History, Image, seen}
use Rattle.sector_bytes.specs.Bytes.{bytes_from}
use Rattle.sector_bytes.specs.Source.{AreItsBytes}
use Rattle.sector_bytes.proofs.Laws.{stands_read}
use Rattle.generations.specs.Areas.{sectors_of}
use Rattle.published_tiles.specs.declared.place.ArchivePlace.{ArchivePlace}
use Rattle.whole_write.specs.Writes.{AppendsPart}
use Rattle.whole_write.proofs.Written.{nothing_written}
use Rattle.archive_export.specs.Copies.{CopiesBytes, CopiesArchive, CopiesFewer}

-- what is read of an archive, from one of its bytes on
pub piece_read : (image : Image) (first len at n : ℕ) (archive into : List ℕ) → AreItsBytes first len archive image → at + n ≤ len
    → into ≡ slice_range (bytes_from image first (sectors_of (at + n))) at (at + n) → into ≡ take n (drop at archive)
piece_read image first len at n archive into are within read =
    let size : at + n - at ≡ n = omega arith in
    read ∙ stands_read image first at n archive are.stands (omega (arith, within, are.length_is)) ∙ ap (λ (k : ℕ). take k (drop at archive)) size

-- the first bytes of what is read of it
front_read : (at n : ℕ) (archive piece front rest : List ℕ) → length piece ≡ n → piece ≡ front ++ rest → piece ≡ take n (drop at archive)
    → front ≡ take (length front) (drop at archive)
front_read at n archive piece front rest size split read =
    let within : length front ≤ n = omega (arith, sym size ∙ ap length split ∙ length-append front rest) in
    sym (take_at front rest (length front) refl) ∙ ap (take (length front)) (sym split ∙ read) ∙ take-take (length front) n (drop at archive) within

module _ {D : Type 0} (honest : D → Type 0) (history : D → History) (place : ArchivePlace) where
  -- nothing of it
  pub copies_none : (old new : D) (held : Option (List ℕ)) (at count : ℕ) → 0 < count → CopiesFewer honest history place old at count new held held
  copies_none old new held at count some = ([], some, nothing_written held, λ xs are honest_now. refl)

  -- the first bytes of a piece
  pub copies_front : (old new : D) (held holds : Option (List ℕ)) (at n : ℕ) (piece : List ℕ) → length piece ≡ n → AppendsPart held holds piece
      → ((archive : List ℕ) → AreItsBytes place.first place.len archive (seen (history old)) → honest new → piece ≡ take n (drop at archive))
      → CopiesFewer honest history place old at n new held holds
  copies_front old new held holds at n piece size part read = (
    part.0,
    omega (arith, sym size ∙ ap length part.2 ∙ length-append part.0 part.1, part.3),
    part.4,
    λ xs are honest_now. front_read at n xs piece part.0 part.1 size part.2 (read xs are honest_now),
  )

  -- some more after the first ones, but not all of a piece
  pub copies_fewer : (old middle new : D) (held between holds : Option (List ℕ)) (at count : ℕ) → at + count ≤ place.len
      → (honest new → honest middle) → (honest middle → history middle ≡ history old)
      → CopiesBytes honest history place old 0 at middle held between → CopiesFewer honest history place middle at count new between holds
      → CopiesFewer honest history place old 0 place.len new held holds
  copies_fewer old middle new held between holds at count within stays unwritten first more = (
    first.0 ++ more.0,
    omega (arith, length-append first.0 more.0, first.1, more.1, within),
    Appends-trans held between holds first.0 more.0 first.2 more.2,
    λ xs are honest_now.
        ap (λ (t : List ℕ). t ++ more.0) (first.3 xs are (stays honest_now))
        ∙ ap (λ (t : List ℕ). take at xs ++ t)
        (more.3 xs (subst (λ (h : History). AreItsBytes place.first place.len xs (seen h)) (sym (unwritten (stays honest_now))) are) honest_now)
        ∙ sym (take-add at (length more.0) xs)
        ∙ ap (λ (n : ℕ). take n xs) (sym (length-append first.0 more.0 ∙ ap (λ (n : ℕ). n + length more.0) first.1)),
  )

  -- some more after the first ones
  pub copies_more : (old middle new : D) (held between holds : Option (List ℕ)) (at count long : ℕ) → long ≡ count
      → (honest new → honest middle) → (honest middle → history middle ≡ history old)
      → CopiesBytes honest history place old 0 at middle held between → CopiesBytes honest history place middle at long new between holds
      → CopiesBytes honest history place old 0 (at + count) new held holds
  copies_more old middle new held between holds at count long size stays unwritten first more = (
    first.0 ++ more.0,
    length-append first.0 more.0 ∙ omega (arith, first.1, more.1, size),
    Appends-trans held between holds first.0 more.0 first.2 more.2,
    λ xs are honest_now.
        ap (λ (t : List ℕ). t ++ more.0) (first.3 xs are (stays honest_now))
        ∙ ap (λ (t : List ℕ). take at xs ++ t)
        (more.3 xs (subst (λ (h : History). AreItsBytes place.first place.len xs (seen h)) (sym (unwritten (stays honest_now))) are) honest_now)
        ∙ ap (λ (n : ℕ). take at xs ++ take n (drop at xs)) size
        ∙ sym (take-add at count xs),
  )

  -- all of it
  pub copies_all : (old new : D) (held holds : Option (List ℕ)) (at : ℕ) → at ≡ place.len
      → CopiesBytes honest history place old 0 at new held holds → CopiesArchive honest history place old new held holds
  copies_all old new held holds at all copied = (
    copied.0,
    copied.1 ∙ all,
    copied.2,
    λ xs are honest_now. copied.3 xs are honest_now ∙ take_all at xs (omega (arith, all, are.length_is)),
  )
