use Rattle.std.proofs.Common.{ℕ, ◌++◌, drop, sym, subst, ◌∙◌}
use Rattle.pm_build.specs.Hashing.{IsHashed}
use Rattle.pm_build.proofs.AheadBytes.{hashed_more, hashed_part}
use Rattle.pm_build.proofs.contents.Contents.put_ahead.Goals as goal

pub hash_words-self-inside-requires : goal.hash_words-self-inside-requires
hash_words-self-inside-requires c =
    let inside = c.self.inside in
    let bytes = inside.bytes.items ++ c.args.part.now in
    let words = inside.hashed.words in
    let hash = inside.hashed.hash in
    let more = hashed_more inside.index.contents inside.bytes.items c.self.invariant.stored c.args.part.now words hash c.self.invariant.hashed in
    hashed_part c.total.result bytes c.deref.result.now words hash (c.deref.ensures.value ∙ c.in_ok-extend_from_slice.ensures.items)
    (subst (λ (n : ℕ). IsHashed (drop n bytes) words hash) (sym c.total.ensures) more)
