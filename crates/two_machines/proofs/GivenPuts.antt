-- What a numbered feature gives a standby.
use Rattle.std.proofs.Common.{◌≡◌, inl, inr, ◌⊎◌, ◌+◌, ℕ, List, [], ◌∷◌, ◌++◌, length, sym, ap, subst, arith}
use Rattle.feature_model.specs.Data.{EditData, FeatureData, put}
use Rattle.serde_json.specs.Data.{Data}
use Rattle.edit_json.specs.Faults.{IsFeature}
use Rattle.edit_json.proofs.FaultLaws.{feature-one}
use Rattle.tile_service.specs.Machine.{Happening, edit, single, recorded_change}
use Rattle.tile_service.specs.Runs.{acknowledged}
use Rattle.tile_service.specs.declared.status.Status.{Status}
use Rattle.map_replies.specs.Bodies.{SaysFeature}
use Rattle.two_machines.specs.Standby.{IsEditOf}
use Rattle.map_replies.proofs.NumberedPuts.{IsPut}
use Rattle.map_replies.proofs.Quiet.{AreQuiet}
use Rattle.two_machines.specs.Couriers.{SaysPutOf}
use Rattle.two_machines.specs.Machines.{AreGiven}
use Rattle.two_machines.proofs.Given.{one_value}
use Rattle.two_machines.proofs.Lists.{given_on}
use Rattle.two_machines.proofs.Quieter.{none_acknowledged, quiet_given}

one_put : (body : List ℕ) (f g : FeatureData) → SaysFeature body f → SaysFeature body g → f ≡ g
one_put body f g is too =
    feature-one is.value f g is.feature
    (subst (λ (d : Data). IsFeature d g) (one_value body is.value too.value is.json too.json) too.feature)

module _ (first : ℕ) (edits : List EditData) (old : Status) (id number : ℕ) (body : List ℕ) (happenings : List Happening) where
  put_given : SaysPutOf first edits id number body → IsPut old id number body happenings → AreGiven first edits old.edits happenings
  put_given said is =
      let last_is : old.edits + length (acknowledged is.before) ≡ old.edits =
      omega (arith, ap length (none_acknowledged is.before is.quiet)) in
      let now : IsEditOf first edits (old.edits + 1) (put id is.feature ∷ []) =
      subst (λ (n : ℕ). IsEditOf first edits n (put id is.feature ∷ [])) is.next
      (subst (λ (g : FeatureData). IsEditOf first edits number (put id g ∷ [])) (one_put body said.0 is.feature said.1 is.says) said.2) in
      let this : AreGiven first edits old.edits (edit single (recorded_change old.version (put id is.feature)) is.outcome ∷ []) = (now, tt) in
      subst (AreGiven first edits old.edits) (sym is.are)
      (given_on [] first edits old.edits is.before (edit single (recorded_change old.version (put id is.feature)) is.outcome ∷ [])
      (quiet_given first edits old.edits is.before is.quiet)
      (subst (λ (n : ℕ). AreGiven first edits n (edit single (recorded_change old.version (put id is.feature)) is.outcome ∷ [])) (sym last_is) this))

  -- whatever it asks for
  pub asks_given : SaysPutOf first edits id number body → AreQuiet happenings ⊎ IsPut old id number body happenings
      → AreGiven first edits old.edits happenings
  asks_given said (inl quiet) = quiet_given first edits old.edits happenings quiet
  asks_given said (inr is) = put_given said is
