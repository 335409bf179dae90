use Rattle.std.proofs.Common.{refl}
use Rattle.http_listen.proofs.HoldLemmas.{keeps_same, lets_both, lets_same}
use Rattle.http_listen.proofs.StandLemmas.{all_stand_both, all_stand_same}
use Rattle.http_listen.proofs.places.Places.release.Goals as goal

pub releases-init : goal.releases-init
releases-init g c = (all_stand_same _ _ (λ key. refl), lets_same c.args.confirmed _ _ (keeps_same _ _ (λ key. refl)))

pub releases-preserved : goal.releases-preserved
releases-preserved g c = (
  all_stand_both _ _ _ c.releases.invariant.0 c.confirm.ensures.stands,
  lets_both c.args.confirmed _ _ _ c.releases.invariant.1 c.confirm.ensures.lets_go,
)
