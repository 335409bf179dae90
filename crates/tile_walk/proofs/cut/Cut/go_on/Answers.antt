use Rattle.std.proofs.Common.{◌≡◌, ◌-◌, ◌+◌, ◌++◌, ℕ, take, drop, refl, sym, ap, subst, ◌∙◌, arith}
use Rattle.tile_walk.specs.Cut.{AreInQuarters}
use Rattle.tile_walk.proofs.Placed.{more_cut}
use Rattle.tile_walk.proofs.cut.Cut.go_on.Goals as goal

pub returns-clause-cut : goal.returns-clause-cut
returns-clause-cut c =
    let s = c.args.square.now in
    let cut = c.args.self in
    let boxes = c.deref.result.now in
    let start = cut.placed in
    let count = c.min-count.result in
    let half = c.half_side-half.result in
    let part = take (start + count - start) (drop start boxes) in
    let front = take start s.boxes.items in
    let size : start + count - start ≡ count = omega arith in
    let before = c.requires.within in
    let p = subst (λ (h : ℕ). AreInQuarters h (front ++ part) c.place_each.new.cut) c.half_side-half.ensures.half
    (c.in_ok-place_each.ensures.quarters front (subst (λ (h : ℕ). AreInQuarters h front cut) (sym c.half_side-half.ensures.half) c.requires.quarters)) in
    more_cut s boxes part cut _ start count c.len-most.result refl refl c.deref.ensures.value (c.len-most.ensures ∙ s.boxes.ok.0) (omega (arith, c.min-count.ensures))
    (ap (λ (n : ℕ). take n (drop start boxes)) size) c.requires (omega (arith, before, c.min-count.ensures, c.len-most.ensures, c.len-most.type_inv))
    (record { first = p.first; second = p.second; third = p.third; fourth = p.fourth })
