use Rattle.pm_verify.proofs.VerifiedClauses.{verified_found, verified_only}
use Rattle.pm_verify.proofs.verifying.verify.Goals as goal

pub returns-clause-found : goal.returns-clause-found
returns-clause-found g c bytes holds =
    let at = c.header-header.ensures.found bytes (c.verdict.ensures.source.no_others bytes holds) in
    verified_found bytes c.args.archive.now.header c.args.archive.now.root at.0 at.1 c.verdict.result (c.verdict.ensures.found bytes holds)

pub returns-clause-only : goal.returns-clause-only
returns-clause-only g c bytes report holds sound =
    let at = c.header-header.ensures.found bytes (c.verdict.ensures.source.no_others bytes holds) in
    verified_only bytes c.args.archive.now.header c.args.archive.now.root at.0 at.1 c.verdict.result (c.verdict.ensures.found bytes holds)
    (c.verdict.ensures.fault bytes holds) report sound
