use Rattle.published_tiles.proofs.opened.Opened.open.Goals as goal

pub returns-in-Err-clause-fault : goal.returns-in-Err-clause-fault
returns-in-Err-clause-fault g c bytes content holds archive =
    c.in-Err.ensures.only bytes archive.0 archive.3.0 archive.2 archive.3.1 holds
