use Rattle.std.proofs.Common.{◌≡◌, ◌⊎◌, inl, ℕ, subst, ◌∙◌, refl}
use Rattle.sector_disk.specs.Disk.{Image, seen, MayLeave}
use Rattle.sector_disk.specs.Moments.{LeavesOnly}
use Rattle.sector_disk.proofs.History.{started, seen_may}
use Rattle.generations.specs.Disks.{HasNoMark, IsFresh}
use Rattle.generations.specs.Areas.{IsSize}
use Rattle.generations.proofs.formatting.format_version.Goals as goal

pub returns-then-sectors-lt-MIN_SECTORS-clause-any_moment : goal.returns-then-sectors-lt-MIN_SECTORS-clause-any_moment
returns-then-sectors-lt-MIN_SECTORS-clause-any_moment g c honest = started _ _ (λ image may. inl may)

pub returns-in_default-clause-any_moment : goal.returns-in_default-clause-any_moment
returns-in_default-clause-any_moment g c honest = started _ _ (λ image may. inl may)

pub returns-in-Ok-clause-any_moment : goal.returns-in-Ok-clause-any_moment
returns-in-Ok-clause-any_moment g c honest =
    let same : c.in-Some.layout.sectors ≡ g.D.Sectors.sectors c.args.disk.now = c.in-Some.ensures.size ∙ c.count-sectors.ensures in
    subst (λ (n : ℕ). LeavesOnly (g.D.Sectors.history c.args.disk.now) (g.D.Sectors.history c.write_parts.new.disk)
    (λ image. MayLeave (g.D.Sectors.history c.args.disk.now) image ⊎ HasNoMark image ⊎ IsFresh c.args.version n image)) same
    (c.write_parts.ensures.any_moment honest)

pub returns-in-Err-clause-any_moment : goal.returns-in-Err-clause-any_moment
returns-in-Err-clause-any_moment g c honest =
    let same : c.in-Some.layout.sectors ≡ g.D.Sectors.sectors c.args.disk.now = c.in-Some.ensures.size ∙ c.count-sectors.ensures in
    subst (λ (n : ℕ). LeavesOnly (g.D.Sectors.history c.args.disk.now) (g.D.Sectors.history c.write_parts.new.disk)
    (λ image. MayLeave (g.D.Sectors.history c.args.disk.now) image ⊎ HasNoMark image ⊎ IsFresh c.args.version n image)) same
    (c.write_parts.ensures.any_moment honest)

pub returns-in-Ok-clause-seen : goal.returns-in-Ok-clause-seen
returns-in-Ok-clause-seen g c honest =
    let same : c.in-Some.layout.sectors ≡ g.D.Sectors.sectors c.args.disk.now = c.in-Some.ensures.size ∙ c.count-sectors.ensures in
    subst (λ (n : ℕ). IsFresh c.args.version n (seen (g.D.Sectors.history c.write_parts.new.disk))) same
    (c.in-Ok.ensures.fresh honest (seen (g.D.Sectors.history c.write_parts.new.disk)) (seen_may (g.D.Sectors.history c.write_parts.new.disk)))

pub returns-in-Ok-clause-disk : goal.returns-in-Ok-clause-disk
returns-in-Ok-clause-disk g c = c.write_parts.ensures.disk

pub returns-in-Err-clause-disk : goal.returns-in-Err-clause-disk
returns-in-Err-clause-disk g c = c.write_parts.ensures.disk

pub returns-in-Ok-clause-failed : goal.returns-in-Ok-clause-failed
returns-in-Ok-clause-failed g c = c.in-Ok.ensures.failed

pub returns-in-Err-clause-failed : goal.returns-in-Err-clause-failed
returns-in-Err-clause-failed g c = c.in-Err.ensures.failed

pub returns-in-Ok-clause-fresh : goal.returns-in-Ok-clause-fresh
returns-in-Ok-clause-fresh g c honest =
    let same : c.in-Some.layout.sectors ≡ g.D.Sectors.sectors c.args.disk.now = c.in-Some.ensures.size ∙ c.count-sectors.ensures in
    subst (λ (n : ℕ). (image : Image) → MayLeave (g.D.Sectors.history c.write_parts.new.disk) image → IsFresh c.args.version n image) same
    (c.in-Ok.ensures.fresh honest)

pub returns-then-sectors-lt-MIN_SECTORS-clause-disk : goal.returns-then-sectors-lt-MIN_SECTORS-clause-disk
returns-then-sectors-lt-MIN_SECTORS-clause-disk g c = record { same_count = refl; was_honest = λ honest. honest }

pub returns-then-sectors-lt-MIN_SECTORS-clause-failed : goal.returns-then-sectors-lt-MIN_SECTORS-clause-failed
returns-then-sectors-lt-MIN_SECTORS-clause-failed g c = refl

pub returns-in_default-clause-disk : goal.returns-in_default-clause-disk
returns-in_default-clause-disk g c = record { same_count = refl; was_honest = λ honest. honest }

pub returns-in_default-clause-failed : goal.returns-in_default-clause-failed
returns-in_default-clause-failed g c = refl

pub returns-then-sectors-lt-MIN_SECTORS-clause-untouched : goal.returns-then-sectors-lt-MIN_SECTORS-clause-untouched
returns-then-sectors-lt-MIN_SECTORS-clause-untouched g c unfit = refl

pub returns-in_default-clause-untouched : goal.returns-in_default-clause-untouched
returns-in_default-clause-untouched g c unfit = refl

pub returns-in-Ok-clause-untouched : goal.returns-in-Ok-clause-untouched
returns-in-Ok-clause-untouched g c unfit =
    absurd (unfit (subst (λ (n : ℕ). IsSize n) (c.in-Some.ensures.size ∙ c.count-sectors.ensures) c.in-Some.layout.size))

pub returns-in-Err-clause-untouched : goal.returns-in-Err-clause-untouched
returns-in-Err-clause-untouched g c unfit =
    absurd (unfit (subst (λ (n : ℕ). IsSize n) (c.in-Some.ensures.size ∙ c.count-sectors.ensures) c.in-Some.layout.size))
