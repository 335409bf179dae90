use Rattle.http_listen.proofs.HoldLemmas.{lets_both, lets_same}
use Rattle.http_listen.proofs.StandLemmas.{all_stand_both}
use Rattle.http_listen.proofs.pool.Pool.wake.Goals as goal

pub returns-clause-stands : goal.returns-clause-stands
returns-clause-stands g c = all_stand_both _ _ _ c.wake_marked.ensures.stands c.release.ensures.stands

pub returns-clause-lets_go : goal.returns-clause-lets_go
returns-clause-lets_go g c = lets_both c.args.confirmed _ _ _ (lets_same c.args.confirmed _ _ c.wake_marked.ensures.holds) c.release.ensures.lets_go
