use Rattle.std.specs.Prelude.{None, option_map}
use Rattle.tile_service.proofs.Publications.Steps.{up_with, none_there}
use Rattle.std.proofs.Common.{refl, ap, ◌∙◌, not}
use Rattle.tile_service.specs.Service.{going_of}
use Rattle.tile_service.proofs.service.Service.publish_cancel.Goals as goal

pub returns-clause-up : goal.returns-clause-up
returns-clause-up g c = rw (← c.self.view_is) (λ stored up. up_with _ _ stored _ up None tt)

pub same-self : goal.same-self
same-self g c = refl

pub returns-then-self-clause-machine : goal.returns-then-self-clause-machine
returns-then-self-clause-machine g c = rw (← c.self.view_is) (λ known. (c.if-self.true, refl))

pub returns-then-self-clause-same : goal.returns-then-self-clause-same
returns-then-self-clause-same g c = refl

pub returns-then-self-clause-refused : goal.returns-then-self-clause-refused
returns-then-self-clause-refused g c = refl

pub returns-then-self-clause-up : goal.returns-then-self-clause-up
returns-then-self-clause-up g c = λ stored up. up

pub same-self-then-is_none : goal.same-self-then-is_none
same-self-then-is_none g c = refl

pub returns-then-is_none-clause-machine : goal.returns-then-is_none-clause-machine
returns-then-is_none-clause-machine g c = rw (← c.self.view_is) (λ known. (
  c.if-self.false,
  ap (option_map (going_of known.publishing)) (none_there c.self.inside.publication (c.is_none.ensures ∙ ap not c.if-is_none.true)),
  refl,
))

pub returns-then-is_none-clause-same : goal.returns-then-is_none-clause-same
returns-then-is_none-clause-same g c = refl

pub returns-then-is_none-clause-refused : goal.returns-then-is_none-clause-refused
returns-then-is_none-clause-refused g c = refl

pub returns-then-is_none-clause-up : goal.returns-then-is_none-clause-up
returns-then-is_none-clause-up g c = λ stored up. up

pub returns-clause-same : goal.returns-clause-same
returns-clause-same g c = rw (← c.self.view_is) refl
