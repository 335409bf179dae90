use Rattle.std.proofs.Common.{ℕ, rules, sym, subst}
use Rattle.sector_bytes.specs.Counts.{HasReached, HasRisen}
use Rattle.sector_bytes.proofs.Laws.{still_there}
use Rattle.published_tiles.proofs.PublishedLaws.{made}
use Rattle.published_tiles.proofs.reading.read_tile_part.Goals as goal

pub returns-clause-reading : goal.returns-clause-reading
returns-clause-reading g c bytes honest are reading =
    let source = c.new-source.result in
    let last = c.part_in-parts_left.new.source in
    let keeps = c.part_in-parts_left.ensures.source in
    let truthful : g.D.Sectors.honest last.disk.now = search (rules, honest) in
    let had = made g.D.Sectors.history source c.args.disk.now c.args.archive.first c.args.archive.len bytes c.new-source.ensures.disk
    c.new-source.ensures.first c.new-source.ensures.len are in
    let has = still_there g.D.Sectors.sectors g.D.Sectors.honest g.D.Sectors.history g.D.Sectors.faults source last bytes
    keeps.same_behind keeps.same_count truthful had in
    c.part_in-parts_left.ensures.reading bytes (truthful, has) reading

pub returns-clause-never_falls : goal.returns-clause-never_falls
returns-clause-never_falls g c n is =
    let last = c.part_in-parts_left.new.source in
    let before : HasReached n (g.D.Sectors.faults c.new-source.result.disk.now) =
    subst (λ (d : _). HasReached n (g.D.Sectors.faults d)) (sym c.new-source.ensures.disk) is in
    let after : HasReached n (g.D.Sectors.faults last.disk.now) = c.part_in-parts_left.ensures.source.same_behind.never_falls n before in
    subst (λ (k : ℕ). HasReached n k) (search rules) after

pub returns-clause-read : goal.returns-clause-read
returns-clause-read g c e =
    let last = c.part_in-parts_left.new.source in
    let risen : HasRisen (g.D.Sectors.faults c.args.disk.now) (g.D.Sectors.faults last.disk.now) =
    subst (λ (d : _). HasRisen (g.D.Sectors.faults d) (g.D.Sectors.faults last.disk.now)) c.new-source.ensures.disk (c.part_in-parts_left.ensures.read e) in
    subst (λ (k : ℕ). HasRisen (g.D.Sectors.faults c.args.disk.now) k) (search rules) risen
