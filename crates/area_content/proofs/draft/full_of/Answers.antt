use Rattle.std.proofs.Common.{ℕ, List, length, inr, ap, subst, arith}
use Rattle.pm_build.specs.Bounded.{IsSize}
use Rattle.generations.specs.Areas.{sectors_of}
use Rattle.area_content.proofs.Written.{built_for, full_of_counted}
use Rattle.area_content.proofs.draft.full_of.Goals as goal

pub returns-in-Ok : goal.returns-in-Ok
returns-in-Ok c m is_map text all short beyond =
    let ts = c.args.counter.now in
    let metadata = c.args.metadata.now in
    let (archive, long, vector, laid) = c.in-Ok.ensures.archive in
    let bounded = subst (λ (n : ℕ). IsSize ts metadata n) long c.in-Ok.ensures.size in
    let built = built_for m metadata ts archive is_map all short (inr (laid, vector)) bounded in
    full_of_counted m metadata c.args.area ts archive _ built beyond (omega (arith, long, c.in-Ok.ensures.least))
    (omega (
      arith,
      c.sectors_for.ensures.taken,
      c.sectors_for-in-Ok.ensures.taken,
      ap (λ (bs : List ℕ). sectors_of (length bs)) text,
      ap (λ (n : ℕ). sectors_of n) long,
    ))
