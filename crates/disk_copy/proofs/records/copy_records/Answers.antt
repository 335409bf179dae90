use Rattle.std.proofs.Common.{◌≡◌, ◌<◌, ◌≤◌, ◌+◌, ◌^◌, ◌∙◌, subst, sym, arith}
use Rattle.sector_disk.specs.Disk.{History, seen}
use Rattle.sector_disk.proofs.AskedLaws.{reads_on, writes_on}
use Rattle.disk_copy.specs.Copies.{Copies, IsUsed, ring_in, IsJournalOf}
use Rattle.disk_copy.proofs.Steps.{goes_on, used_then}
use Rattle.disk_copy.proofs.Stretch.{found_one, some_has, found_none, walked_later, copies_later, copies_next, copies_ended}
use Rattle.disk_copy.proofs.records.copy_records.Goals as goal

pub loop-parts-preserved : goal.loop-parts-preserved
loop-parts-preserved g c =
    let inv = c.loop-parts.invariant in
    let next = c.in_ok-parts.ensures in
    let ok = c.in_ok-copy_places.ensures in
    let found = c.args.found in
    let root = found.root in
    let n = found.layout.sectors in
    let version = found.version in
    let used = c.loop-parts.used in
    let last = c.loop-parts.last in
    let parts = c.in-Some.parts in
    let h = g.D.Sectors.history c.args.disk.now in
    let images = g.D.SharedSectors.images in
    let from = g.D.SharedSectors.now c.args.disk.now in
    let before = g.D.SharedSectors.now c.loop-parts.disk in
    let read = g.D.SharedSectors.now c.find_record.new.disk in
    let now = g.D.SharedSectors.now c.copy_places.new.disk in
    let old = seen (g.E.Sectors.history c.args.into.now) in
    let middle = seen (g.E.Sectors.history c.loop-parts.into) in
    let new = seen (g.E.Sectors.history c.copy_places.new.into) in
    record {
      fits = (some_has (λ p. (0 < p) × (used + p ≤ found.layout.journal) × (last + 1 < 2 ^ 64)) c.in_ok-parts.field-0 parts c.in-Some.is next.room).1;
      disk = reads_on (reads_on inv.disk next.disk) ok.disk;
      into = writes_on inv.into ok.into;
      faults = ok.failed.0 ∙ next.failed.0 ∙ inv.faults;
      other_faults = ok.failed.1 ∙ inv.other_faults;
      later = goes_on (goes_on inv.later next.later) ok.later;
      walked = λ records honest journal.
          let asked = ok.disk.was_honest honest in
          let was = next.disk.was_honest asked in
          found_one root records used last c.in_ok-parts.field-0 parts c.in-Some.is
          (next.found records asked (subst (λ (x : History). IsJournalOf n version root records (seen x))
          (sym (inv.disk.same_history was)) journal) (inv.walked records was journal));
      copied = λ honest into_honest.
          let asked = ok.disk.was_honest honest in
          let was = next.disk.was_honest asked in
          used_then (λ at bytes. bytes ≡ seen h at) (ring_in n) root.journal_at used parts old middle new
          (inv.copied was (ok.into.was_honest into_honest))
          (subst (λ (x : History). Copies (IsUsed (ring_in n) (root.journal_at + used) parts) (seen x) middle new)
          (next.disk.same_history asked ∙ inv.disk.same_history was) (ok.copied honest into_honest));
      shared = λ records to shared until stretch.
          let asked = ok.later.was_shared shared in
          let was = next.later.was_shared asked in
          let seen_at = next.shared asked in
          let early : before ≤ to = omega (arith, until, next.later.later, ok.later.later) in
          let at = seen_at.0 in
          let within : at ≤ to = omega (arith, until, seen_at.2, ok.later.later) in
          let walked = walked_later n version root records images from to stretch before at inv.later.later seen_at.1 within used last
          (inv.shared records to was early stretch) in
          let one = found_one root (records at) used last c.in_ok-parts.field-0 parts c.in-Some.is
          (seen_at.3 (records at) (stretch.journal at (omega (arith, inv.later.later, seen_at.1)) within) walked) in
          walked_later n version root records images from to stretch at now (omega (arith, inv.later.later, seen_at.1))
          (omega (arith, seen_at.2, ok.later.later)) until (used + parts) (last + 1) one;
      of_now = λ records to shared into_honest until stretch.
          let asked = ok.later.was_shared shared in
          let was = next.later.was_shared asked in
          let seen_at = next.shared asked in
          let early : before ≤ to = omega (arith, until, next.later.later, ok.later.later) in
          let at = seen_at.0 in
          let within : at ≤ to = omega (arith, until, seen_at.2, ok.later.later) in
          let had = inv.shared records to was early stretch in
          let walked = walked_later n version root records images from to stretch before at inv.later.later seen_at.1 within used last had in
          let one = found_one root (records at) used last c.in_ok-parts.field-0 parts c.in-Some.is
          (seen_at.3 (records at) (stretch.journal at (omega (arith, inv.later.later, seen_at.1)) within) walked) in
          copies_next n version root records images from to stretch at read now (omega (arith, inv.later.later, seen_at.1)) seen_at.2 ok.later.later until
          used parts (last + 1) one old middle new
          (copies_later n version root records images from to stretch before now inv.later.later (omega (arith, next.later.later, ok.later.later)) until
          used last had old middle (inv.of_now records to was (ok.into.was_honest into_honest) early stretch))
          (ok.shared shared into_honest);
    }

pub returns-clause-shared : goal.returns-clause-shared
returns-clause-shared g c records to shared into_honest until stretch =
    let inv = c.loop-parts.invariant in
    let next = c.in_ok-parts.ensures in
    let found = c.args.found in
    let root = found.root in
    let n = found.layout.sectors in
    let version = found.version in
    let used = c.loop-parts.used in
    let last = c.loop-parts.last in
    let images = g.D.SharedSectors.images in
    let from = g.D.SharedSectors.now c.args.disk.now in
    let before = g.D.SharedSectors.now c.loop-parts.disk in
    let now = g.D.SharedSectors.now c.find_record.new.disk in
    let old = seen (g.E.Sectors.history c.args.into.now) in
    let middle = seen (g.E.Sectors.history c.loop-parts.into) in
    let was = next.later.was_shared shared in
    let seen_at = next.shared shared in
    let at = seen_at.0 in
    let early : before ≤ to = omega (arith, until, next.later.later) in
    let within : at ≤ to = omega (arith, until, seen_at.2) in
    let had = inv.shared records to was early stretch in
    let walked = walked_later n version root records images from to stretch before at inv.later.later seen_at.1 within used last had in
    let all = found_none root (records at) used last c.in_ok-parts.field-0 c.in_default.not-Some
    (seen_at.3 (records at) (stretch.journal at (omega (arith, inv.later.later, seen_at.1)) within) walked) in
    copies_ended n version root records images from to stretch before at now inv.later.later seen_at.1 seen_at.2 until used last had all.0 all.1 old middle
    (inv.of_now records to was into_honest early stretch)
