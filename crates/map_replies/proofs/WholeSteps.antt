-- The steps of a whole publication that are made between other replies.
use Rattle.std.proofs.Common.{◌≡◌, ◌<◌, ◌+◌, ℕ, [], Option, Some, None, Result, Ok, Err, inl, inr, refl, sym, ap, subst, ◌∙◌, arith}
use Rattle.std.specs.Prelude.{IfOk}
use Rattle.std.proofs.lemmas.Bool.{false≢true}
use Rattle.std.specs.Option.{is_some, option_map}
use Rattle.feature_store.specs.Store.{FeatureMap}
use Rattle.tile_service.specs.Machine.{AnswersStep, GoesOn, Publication, ServiceState, step}
use Rattle.tile_service.specs.Service.{PublicationView, ServiceView, Known, going_of, known_after, left_of, state_of}
use Rattle.tile_service.specs.declared.fault.ServiceFault.{ServiceFault}
use Rattle.tile_service.specs.declared.publishing.TheConstants.{STEP_SECTORS}
use Rattle.map_replies.specs.Preparing.{HasMoreSteps}

-- how much is left, of one at least that is there
abbrev left_or : Option ℕ → ℕ → ℕ
left_or None other = other
left_or (Some left) other = left

abbrev left_in : Option Publication → ℕ
left_in None = 0
left_in (Some p) = p.left

abbrev nothing_known : Known
nothing_known = record { archive = record { bytes = []; features = [] }; publishing = [] }

-- what is left of it in the state
left_going : (m : FeatureMap) (o : Option PublicationView) (p : PublicationView) (q : Publication) → o ≡ Some p
    → option_map (going_of m) o ≡ Some q → left_of p ≡ q.left
left_going m o p q is going = ap left_in (sym (ap (option_map (going_of m)) is) ∙ going)

going_left : (old new : ServiceState) (p : Publication) (left : ℕ) → STEP_SECTORS + 1 < p.left → GoesOn old p left new → 0 < left
going_left old new p left more (inl goes) = omega (arith, goes.0, goes.1)
going_left old new p left more (inr ends) = absurd (omega (arith, ends.0, more))

module _ {D : Type 0} where
  -- by what the service tells of itself
  more_of : (service : ServiceView D) (publication : Option PublicationView) (left : ℕ) → service.publication ≡ publication
      → option_map left_of publication ≡ Some left → STEP_SECTORS + 1 < left → HasMoreSteps service
  more_of service None left is told more = absurd (false≢true (ap is_some told))
  more_of service (Some p) left is told more = record {
    publication = p;
    is = is;
    more = subst (λ (n : ℕ). STEP_SECTORS + 1 < n) (sym (ap (λ (o : Option ℕ). left_or o left) told)) more;
  }

  pub has_more : (service : ServiceView D) (left : ℕ) → Some left ≡ option_map left_of service.publication → STEP_SECTORS + 1 < left
      → HasMoreSteps service
  has_more service left told more = more_of service service.publication left refl (sym told) more

  -- such a step leaves something
  pub leaves_something : (old new : ServiceView D) (outcome : Result ℕ ServiceFault) → HasMoreSteps old
      → ((known : Known) → AnswersStep (state_of known old) outcome (state_of (known_after known old (step outcome)) new))
      → IfOk outcome (λ left. 0 < left)
  leaves_something old new (Ok left) has machine =
      let at = machine nothing_known in
      let here : left_of has.publication ≡ at.0.publication.left = left_going [] old.publication has.publication at.0.publication has.is at.0.is in
      going_left (state_of nothing_known old) (state_of (known_after nothing_known old (step (Ok left))) new) at.0.publication left
      (subst (λ (n : ℕ). STEP_SECTORS + 1 < n) here has.more) at.1
  leaves_something old new (Err fault) has machine = tt
