use Rattle.std.proofs.Common.{◌≡◌, ◌-◌, ◌*◌, ℕ, List, length, take, drop, refl, ap, ◌∙◌, arith}
use Rattle.area_content.specs.Content.{padded}
use Rattle.area_content.proofs.Pieces.{sector_joined}
use Rattle.area_content.proofs.content.archive_sector.Goals as goal

pub returns : goal.returns
returns c =
    let a = c.args.archive.now in
    let start = 512 * c.args.index in
    let behind : c.saturating_sub-behind.result ≡ start - length a.front.items = omega (arith, c.saturating_sub-behind.ensures, c.len.ensures, a.front.ok) in
    c.padded_parts.ensures
    ∙ ap (λ (bs : List ℕ). padded bs)
    (sector_joined a.front.items a.contents.items c.part-front.result.now c.part-contents.result.now start c.saturating_sub-behind.result
    (512 - length c.part-front.result.now)
    (c.part-front.ensures.part ∙ ap (λ (bs : List ℕ). take 512 (drop start bs)) c.deref.ensures.value)
    (c.part-contents.ensures.part
    ∙ ap (λ (bs : List ℕ). take (512 - length c.part-front.result.now) (drop c.saturating_sub-behind.result bs)) c.deref-2.ensures.value)
    refl behind)
