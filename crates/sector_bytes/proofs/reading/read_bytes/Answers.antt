use Rattle.std.proofs.Common.{◌≡◌, ◌+◌, ◌*◌, ◌/◌, ◌%◌, ◌∙◌, ℕ, length, slice_range, rules, arith, ap, subst}
use Rattle.generations.specs.Areas.{sectors_of}
use Rattle.sector_disk.specs.Disk.{seen}
use Rattle.sector_disk.specs.declared.disk.TheConstants.{SECTOR_BYTES}
use Rattle.sector_bytes.specs.Bytes.{bytes_from, AreWhole}
use Rattle.sector_bytes.proofs.Pieces.{shifted_read, shifted_whole}
use Rattle.sector_bytes.proofs.reading.read_bytes.Goals as goal

pub returns-in-Ok-clause-whole : goal.returns-in-Ok-clause-whole
returns-in-Ok-clause-whole g c honest =
    let at = c.args.at in
    let n = length c.args.into.now in
    let image = seen (g.D.Sectors.history c.args.disk.now) in
    let source = c.new-source.result in
    let truthful : g.D.Sectors.honest c.read_parts-outcome.new.self.disk.now = search (rules, honest) in
    let split : at ≡ SECTOR_BYTES * (at / SECTOR_BYTES) + at % SECTOR_BYTES = omega arith in
    shifted_whole image c.args.first (at / SECTOR_BYTES) at (at % SECTOR_BYTES) n split
    (subst (λ (first : ℕ). AreWhole first (at % SECTOR_BYTES) n image) c.new-source.ensures.first
    (subst (λ (d : _). AreWhole source.first (at % SECTOR_BYTES) n (seen (g.D.Sectors.history d))) c.new-source.ensures.disk
    (c.in-Ok.ensures.whole truthful)))

pub returns-in-Ok-clause-read : goal.returns-in-Ok-clause-read
returns-in-Ok-clause-read g c honest =
    let at = c.args.at in
    let n = length c.args.into.now in
    let image = seen (g.D.Sectors.history c.args.disk.now) in
    let source = c.new-source.result in
    let from = at % SECTOR_BYTES in
    let truthful : g.D.Sectors.honest c.read_parts-outcome.new.self.disk.now = search (rules, honest) in
    let split : at ≡ SECTOR_BYTES * (at / SECTOR_BYTES) + at % SECTOR_BYTES = omega arith in
    c.in-Ok.ensures.read truthful
    ∙ ap (λ (d : _). slice_range (bytes_from (seen (g.D.Sectors.history d)) source.first (sectors_of (from + n))) from (from + n)) c.new-source.ensures.disk
    ∙ ap (λ (first : ℕ). slice_range (bytes_from image first (sectors_of (from + n))) from (from + n)) c.new-source.ensures.first
    ∙ shifted_read image c.args.first (at / SECTOR_BYTES) at from n split
