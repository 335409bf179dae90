use Rattle.std.proofs.Common.{◌≡◌, inr, ℕ, ◌≤◌, ◌+◌, ◌-◌, ◌∙◌, take, sym, ap, subst, arith}
use Rattle.sector_disk.specs.Disk.{History}
use Rattle.edit_journal.specs.Lists.{HasRecords}
use Rattle.edit_journal.specs.Records.{number_from}
use Rattle.edit_journal.specs.Ring.{Ring, places_of}
use Rattle.edit_journal.proofs.Kept.{back_left, full_left, older_drop, places_behind, record_at}
use Rattle.edit_journal.proofs.journal.Journal.with_room.Goals as goal
use Rattle.edit_journal.proofs.journal.Journal.with_room.Goals.{else-short-offset-via-then-short-offset+else-offset-behind, else-short-offset-via-else-short-offset}

pub returns-then-offset-behind-clause-back : goal.returns-then-offset-behind-clause-back
returns-then-offset-behind-clause-back g c =
    let left = c.without_first.ensures in
    back_left c.args.self.now c.without_first.result c.args.rest.now c.in_ok-offset.offset c.requires.back left.same.0 left.same.1 left.start.0 left.used
    (omega (arith, c.if-offset-behind.true, c.requires.back.used))
    (omega (arith, left.start.1, c.min-number.ensures))

pub returns-then-offset-behind-clause-has : goal.returns-then-offset-behind-clause-has
returns-then-offset-behind-clause-has g c records honest has =
    let old = c.args.self.now in
    let left = c.without_first.ensures in
    let number : ℕ = c.min-number.result in
    let count : ℕ = number + 1 - (old.edits + 1) in
    let between = c.in_ok-offset.ensures.disk.was_honest honest in
    let offset_is : c.in_ok-offset.offset ≡ places_of (take count records) = c.in_ok-offset.ensures.is records honest
    (subst (λ (h : History). HasRecords records old h) (sym (c.in_ok-sector.ensures.disk.same_history between)) has.all) in
    let number_is : number ≡ old.edits + count = omega (arith, c.max-2.ensures, c.min-number.ensures, c.requires.back.edits) in
    older_drop records count old c.without_first.result c.args.rest.now (g.D.Sectors.history c.args.disk.now) has
    (omega (arith, left.start.1, number_is))
    (omega (arith, left.start.1, c.min-number.ensures))
    (left.has records count (g.D.Sectors.history c.args.disk.now) has.all
    (omega (arith, has.all.counts, number_is, c.min-number.ensures, c.requires.back.last, c.args.rest.now.counts)) number_is offset_is)

pub returns-else-short-offset-clause-back : goal.returns-else-short-offset-clause-back
returns-else-short-offset-clause-back g c =
    let left = c.without_first-else-short-offset.ensures in
    back_left c.args.self.now c.without_first-else-short-offset.result c.args.rest.now (c.args.self.now.used - c.args.rest.now.used) c.requires.back
    left.same.0 left.same.1 left.start.0 left.used (omega (arith, c.requires.back.used)) (omega (arith, left.start.1))

pub returns-else-short-offset-clause-has : goal.returns-else-short-offset-clause-has
returns-else-short-offset-clause-has g c records honest has =
    let old = c.args.self.now in
    let rest = c.args.rest.now in
    let left = c.without_first-else-short-offset.ensures in
    let count : ℕ = rest.edits - old.edits in
    let number_is : rest.edits ≡ old.edits + count = omega (arith, c.requires.back.edits) in
    older_drop records count old c.without_first-else-short-offset.result rest (g.D.Sectors.history c.args.disk.now) has
    (omega (arith, left.start.1, number_is)) (omega (arith, left.start.1))
    (left.has records count (g.D.Sectors.history c.args.disk.now) has.all
    (omega (arith, has.all.counts, number_is, c.requires.back.last, rest.counts)) number_is
    (omega (arith, places_behind records old rest (g.D.Sectors.history c.args.disk.now) has)))

pub returns-then-offset-behind-clause-full : goal.returns-then-offset-behind-clause-full
returns-then-offset-behind-clause-full g c records honest has =
    let old = c.args.self.now in
    let rest = c.args.rest.now in
    let history : History = g.D.Sectors.history c.args.disk.now in
    let freed : ℕ = c.min-freed.result in
    let found : ℕ = c.number_in.result in
    let between = c.in_ok-offset.ensures.disk.was_honest honest in
    let some : 1 ≤ freed = omega (
      arith,
      c.if-need-free.false,
      c.free-free.ensures,
      c.max.ensures,
      c.min-freed.ensures,
      c.requires.need,
      c.requires.back.used,
      ap (λ (r : Ring). r.places) c.requires.back.ring,
    ) in
    let at = record_at records old rest history (freed - 1) found has c.requires.back
    (omega (arith, some, c.min-freed.ensures))
    (c.number_in.ensures ∙ ap number_from (c.in_ok-sector.ensures.gives between)) in
    let index : c.min-number.result + 1 - (old.edits + 1) ≡ found - old.edits =
    omega (arith, at.0, at.1, c.max-2.ensures, c.min-number.ensures) in
    let offset_is : c.in_ok-offset.offset ≡ places_of (take (found - old.edits) records) = c.in_ok-offset.ensures.is records honest
    (subst (λ (h : History). HasRecords records old h) (sym (c.in_ok-sector.ensures.disk.same_history between)) has.all)
    ∙ ap (λ (n : ℕ). places_of (take n records)) index in
    let left = c.without_first.ensures in
    inr (full_left old c.without_first.result c.args.need c.free-free.result (c.max.result) freed c.in_ok-offset.offset left.same.0 left.used
    c.free-free.ensures (omega (arith, c.if-need-free.false)) c.max.ensures (omega (arith, c.min-freed.ensures)) (omega (arith, offset_is, at.3, some)))

pub returns-else-short-offset-clause-full : goal.returns-else-short-offset-clause-full
returns-else-short-offset-clause-full g c records honest has =
    let old = c.args.self.now in
    let rest = c.args.rest.now in
    let history : History = g.D.Sectors.history c.args.disk.now in
    let freed : ℕ = c.min-freed.result in
    let found : ℕ = c.number_in.result in
    let between = c.in_ok-offset.ensures.disk.was_honest honest in
    let some : 1 ≤ freed = omega (
      arith,
      c.if-need-free.false,
      c.free-free.ensures,
      c.max.ensures,
      c.min-freed.ensures,
      c.requires.need,
      c.requires.back.used,
      ap (λ (r : Ring). r.places) c.requires.back.ring,
    ) in
    let at = record_at records old rest history (freed - 1) found has c.requires.back
    (omega (arith, some, c.min-freed.ensures))
    (c.number_in.ensures ∙ ap number_from (c.in_ok-sector.ensures.gives between)) in
    let index : c.min-number.result + 1 - (old.edits + 1) ≡ found - old.edits =
    omega (arith, at.0, at.1, c.max-2.ensures, c.min-number.ensures) in
    let offset_is : c.in_ok-offset.offset ≡ places_of (take (found - old.edits) records) = c.in_ok-offset.ensures.is records honest
    (subst (λ (h : History). HasRecords records old h) (sym (c.in_ok-sector.ensures.disk.same_history between)) has.all)
    ∙ ap (λ (n : ℕ). places_of (take n records)) index in
    absurd (elim c.else-short-offset.branch [
      | else-short-offset-via-then-short-offset+else-offset-behind w ↦ omega (arith, w.if-offset-behind, offset_is, at.4)
      | else-short-offset-via-else-short-offset w ↦ omega (
        arith,
        w.if-short-offset,
        offset_is,
        at.2,
        some,
        c.if-need-free.false,
        c.free-free.ensures,
        c.max.ensures,
        c.min-freed.ensures,
        c.requires.need,
        c.requires.back.used,
        ap (λ (r : Ring). r.places) c.requires.back.ring,
      )
    ])
