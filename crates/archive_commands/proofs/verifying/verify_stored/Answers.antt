use Rattle.std.proofs.Common.{ℕ, rules, sym, subst}
use Rattle.sector_bytes.specs.Counts.{HasReached, HasRisen}
use Rattle.archive_commands.proofs.Stored.{has_stored}
use Rattle.archive_commands.proofs.verifying.verify_stored.Goals as goal

pub returns-clause-found : goal.returns-clause-found
returns-clause-found g c bytes honest are =
    let last = c.verify_source-source.result.0 in
    let keeps = c.verify_source-source.ensures.source in
    let truthful : g.D.Sectors.honest last.disk.now = search (rules, honest) in
    c.verify_source-source.ensures.found bytes (
      truthful,
      has_stored g.D.Sectors.sectors g.D.Sectors.honest g.D.Sectors.history g.D.Sectors.faults c.new.result last
          c.args.disk.now c.args.len bytes c.new.ensures.disk c.new.ensures.first c.new.ensures.len keeps.same_behind keeps.same_count truthful are,
    )

pub returns-clause-only : goal.returns-clause-only
returns-clause-only g c bytes report honest are =
    let last = c.verify_source-source.result.0 in
    let keeps = c.verify_source-source.ensures.source in
    let truthful : g.D.Sectors.honest last.disk.now = search (rules, honest) in
    c.verify_source-source.ensures.only bytes report (
      truthful,
      has_stored g.D.Sectors.sectors g.D.Sectors.honest g.D.Sectors.history g.D.Sectors.faults c.new.result
          last c.args.disk.now c.args.len bytes c.new.ensures.disk c.new.ensures.first c.new.ensures.len keeps.same_behind keeps.same_count truthful are,
    )

pub returns-clause-fault : goal.returns-clause-fault
returns-clause-fault g c bytes honest are =
    let last = c.verify_source-source.result.0 in
    let keeps = c.verify_source-source.ensures.source in
    let truthful : g.D.Sectors.honest last.disk.now = search (rules, honest) in
    c.verify_source-source.ensures.fault bytes (
      truthful,
      has_stored g.D.Sectors.sectors g.D.Sectors.honest g.D.Sectors.history g.D.Sectors.faults c.new.result last
          c.args.disk.now c.args.len bytes c.new.ensures.disk c.new.ensures.first c.new.ensures.len keeps.same_behind keeps.same_count truthful are,
    )

pub returns-clause-memory : goal.returns-clause-memory
returns-clause-memory g c bytes honest are =
    let last = c.verify_source-source.result.0 in
    let keeps = c.verify_source-source.ensures.source in
    let truthful : g.D.Sectors.honest last.disk.now = search (rules, honest) in
    c.verify_source-source.ensures.memory bytes (
      truthful,
      has_stored g.D.Sectors.sectors g.D.Sectors.honest g.D.Sectors.history g.D.Sectors.faults c.new.result last
          c.args.disk.now c.args.len bytes c.new.ensures.disk c.new.ensures.first c.new.ensures.len keeps.same_behind keeps.same_count truthful are,
    )

pub returns-clause-never_falls : goal.returns-clause-never_falls
returns-clause-never_falls g c n is =
    let last = c.verify_source-source.result.0 in
    let before : HasReached n (g.D.Sectors.faults c.new.result.disk.now) =
    subst (λ (d : _). HasReached n (g.D.Sectors.faults d)) (sym c.new.ensures.disk) is in
    let after : HasReached n (g.D.Sectors.faults last.disk.now) = c.verify_source-source.ensures.source.same_behind.never_falls n before in
    subst (λ (k : ℕ). HasReached n k) (search rules) after

pub returns-clause-read : goal.returns-clause-read
returns-clause-read g c e =
    let last = c.verify_source-source.result.0 in
    let risen : HasRisen (g.D.Sectors.faults c.args.disk.now) (g.D.Sectors.faults last.disk.now) =
    subst (λ (d : _). HasRisen (g.D.Sectors.faults d) (g.D.Sectors.faults last.disk.now)) c.new.ensures.disk (c.verify_source-source.ensures.read e) in
    subst (λ (k : ℕ). HasRisen (g.D.Sectors.faults c.args.disk.now) k) (search rules) risen
