use Rattle.std.proofs.Common.{refl}
use Rattle.http_listen.proofs.HoldLemmas.{keeps_both, keeps_same}
use Rattle.http_listen.proofs.StandLemmas.{all_stand_both, all_stand_same}
use Rattle.http_listen.proofs.places.Places.wake_resting.Goals as goal

pub wakes-init : goal.wakes-init
wakes-init g c = (all_stand_same _ _ (λ key. refl), keeps_same _ _ (λ key. refl))

pub wakes-preserved : goal.wakes-preserved
wakes-preserved g c = (
  all_stand_both _ _ _ c.wakes.invariant.0 c.wake.ensures.stands,
  keeps_both _ _ _ c.wakes.invariant.1 c.wake.ensures.holds,
)
