use Rattle.std.proofs.lemmas.Grind.{common_steps}
use Rattle.std.proofs.Common.{◌≡◌, ◌<◌, ◌≤◌, ◌+◌, ◌-◌, ◌*◌, ◌/◌, ◌%◌, ◌∙◌, ap, sym, arith, ℕ, length, take, drop, slice_range, length-take, length-drop}
use Rattle.generations.specs.Areas.{sectors_of}
use Rattle.sector_disk.specs.Disk.{History, seen}
use Rattle.sector_disk.specs.declared.disk.TheConstants.{SECTOR_BYTES}
use Rattle.sector_bytes.proofs.Pieces.{put_length, next_whole, next_put}
use Rattle.sector_bytes.specs.Source.{untouched_on}
use Rattle.sector_bytes.proofs.source.SectorBytes.read_parts.Goals as goal

pub loop-done-preserved : goal.loop-done-preserved
loop-done-preserved g c =
    let inv = c.loop-done.invariant in
    let ok = c.in_ok-read_part.ensures in
    let at = c.args.at in
    let done = c.loop-done.done in
    let part = c.min-part.result in
    let first = c.args.self.now.first in
    let image = seen (g.D.Sectors.history c.args.self.now.disk.now) in
    let index = (at + done) / SECTOR_BYTES in
    let offset = (at + done) % SECTOR_BYTES in
    let there : SECTOR_BYTES * index + offset ≡ at + done = omega arith in
    let fits : offset + part ≤ SECTOR_BYTES = omega (arith, c.min-part.ensures) in
    let within : done + part ≤ length c.args.into.now = omega (arith, c.min-part.ensures, c.loop-done-test.true, inv.length_is) in
    let lt : index < sectors_of (at + length c.args.into.now) = omega (arith, c.loop-done-test.true, inv.length_is) in
    let within_now : done + part ≤ length c.loop-done.into = omega (arith, within, inv.length_is) in
    let room = take (done + part - done) (drop done c.loop-done.into) in
    let size = length room in
    let size_is : size ≡ part =
    omega (arith, length-take (done + part - done) (drop done c.loop-done.into), length-drop done c.loop-done.into, within_now) in
    let long : length c.read_part.new.into ≡ part = ok.length ∙ size_is in
    let sector_whole : g.D.Sectors.honest c.read_part.new.self.disk.now → length (image (first + index)) ≡ SECTOR_BYTES =
    λ honest. ap (λ (h : History). length (seen h (first + index))) (sym (inv.untouched.same_history (ok.untouched.was_honest honest)))
    ∙ ap (λ (n : ℕ). length (seen (g.D.Sectors.history c.loop-done.self.disk.now) (n + index))) (sym inv.untouched.same_first) ∙ ok.whole honest in
    record {
      untouched = untouched_on inv.untouched ok.untouched;
      faults = ok.failed ∙ inv.faults;
      len = ok.len ∙ inv.len;
      length_is = put_length done part _ c.loop-done.into c.read_part.new.into within_now (omega arith) long ∙ inv.length_is;
      done = within;
      whole = λ honest. next_whole image first at done part index offset there fits (sector_whole honest) (inv.whole (ok.untouched.was_honest honest));
      read = λ honest.
          let was = inv.untouched.same_history (ok.untouched.was_honest honest) in
          next_put image first at done part index offset there fits (sector_whole honest)
          (sectors_of (at + length c.args.into.now)) size _ c.loop-done.into c.read_part.new.into lt size_is (omega (arith, within_now)) long
          (ok.read honest
          ∙ ap (λ (n : ℕ). slice_range (seen (g.D.Sectors.history c.loop-done.self.disk.now) (n + index)) offset (offset + size)) inv.untouched.same_first
          ∙ ap (λ (h : History). slice_range (seen h (first + index)) offset (offset + size)) was)
          (inv.read (ok.untouched.was_honest honest));
    }

pub returns-in_err-read_part-clause-untouched : goal.returns-in_err-read_part-clause-untouched
returns-in_err-read_part-clause-untouched g c = untouched_on c.loop-done.invariant.untouched c.in_err-read_part.ensures.untouched

pub returns-clause-read : goal.returns-clause-read
returns-clause-read g c = grind (arith, common_steps)
