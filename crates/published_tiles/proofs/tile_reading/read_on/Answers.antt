use Rattle.std.proofs.Common.{ℕ, List, length, take, drop, replicate, ◌++◌, ◌≡◌, ◌+◌, ◌-◌, arith, sym, subst, rules, slice_range}
use Rattle.published_tiles.specs.Reading.{AreFrom}
use Rattle.published_tiles.proofs.PartLaws.{read_more, written_after, filled_front}
use Rattle.published_tiles.proofs.tile_reading.read_on.Goals as goal

pub returns-in-Ok-read_at-clause-bytes : goal.returns-in-Ok-read_at-clause-bytes
returns-in-Ok-read_at-clause-bytes g c bytes holds first =
    let xs : List ℕ = c.deref_mut.result.now in
    let n : ℕ = c.len-begun.result in
    let more : List ℕ = c.read_at.new.into in
    let front : List ℕ = c.args.into.now.items in
    let count : ℕ = c.args.count in
    let long : length front ≡ n = search rules in
    let filled : xs ≡ take count front ++ replicate (count - n) 0 = search rules in
    let whole : length xs ≡ count = search rules in
    let len : c.resize.new.self.len ≡ count = search rules in
    let size : length more ≡ count - n = search rules in
    let gives : more ≡ slice_range bytes (c.args.offset + n) (c.args.offset + n + length more) =
    search (rules, c.in-Ok-read_at.ensures.gives bytes holds) in
    let written : List ℕ = take n xs ++ (more ++ drop (length xs - n) (drop n xs)) in
    let is = written_after xs front more (drop (length written) c.resize.new.self.items) n (length xs - n) c.resize.new.self.len
    (filled_front front xs n count long (omega (arith, long, c.requires.fits)) filled) (omega (arith, whole, long, c.requires.fits))
    (omega (arith, size, whole)) (omega (arith, whole, long, c.requires.fits)) (omega (arith, whole, len)) in
    subst (λ (l : List ℕ). AreFrom bytes c.args.offset l) (sym is) (read_more bytes front more c.args.offset n long first gives)
