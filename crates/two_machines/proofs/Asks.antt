-- What a courier's request gives a standby.
use Rattle.std.proofs.Common.{◌≡◌, inl, inr, ◌⊎◌, ℕ, List, Bool, true, false, Result, Ok, Err, subst}
use Rattle.feature_model.specs.Data.{EditData}
use Rattle.http_serve.specs.Reply.{ReplyView}
use Rattle.tile_routes.specs.declared.fault.RouteFault.{RouteFault}
use Rattle.tile_routes.specs.declared.fault.RouteFault.TheVariants as routes
use Rattle.tile_routes.specs.declared.method.Method.{Method}
use Rattle.tile_routes.specs.Methods.{method_on}
use Rattle.tile_routes.specs.Paths.{Asked, asked_numbered, asked_numbered_feature}
use Rattle.tile_service.specs.Machine.{Happening}
use Rattle.tile_service.specs.Service.{StatusView}
use Rattle.tile_service.specs.declared.status.Status.{Status}
use Rattle.map_replies.specs.Conditions.{AskView, needed, refuses}
use Rattle.map_replies.specs.Confirming.{asks_to_edit}
use Rattle.map_replies.specs.Meanings.{MeansMethod, MeansNumberedBatch, MeansNumberedPut, UnlessRefused}
use Rattle.two_machines.specs.Standby.{SaysEditOf}
use Rattle.map_replies.proofs.NumberedPuts.{put_asks}
use Rattle.map_replies.proofs.Quiet.{means_quiet}
use Rattle.two_machines.specs.Couriers.{SaysPutOf}
use Rattle.two_machines.specs.Machines.{AreGiven}
use Rattle.two_machines.proofs.Given.{given, none_given}
use Rattle.two_machines.proofs.GivenPuts.{asks_given}
use Rattle.two_machines.proofs.Quieter.{quiet_given}

module _ (first : ℕ) (edits : List EditData) where
  -- it asks for no edit, or for one under a number, and the body says the leader's edit of that number: its changes, or the feature that it sets
  abbrev pub AsksOf : Asked → Result Method RouteFault → List ℕ → Type 0
  AsksOf asked method body = (asks_to_edit asked method ≡ false)
      ⊎ (((number : ℕ) × (asked ≡ asked_numbered number) × SaysEditOf first edits number body)
      ⊎ ((id : ℕ) × (number : ℕ) × (asked ≡ asked_numbered_feature id number) × SaysPutOf first edits id number body))

  unless_given : (failed : Type 0) (old : Status) (query : List ℕ) (number : ℕ) (body : List ℕ) (refused : Bool) (reply : ReplyView) (happenings : List Happening)
      → SaysEditOf first edits number body → UnlessRefused refused (MeansNumberedBatch failed old query number body) reply happenings
      → AreGiven first edits old.edits happenings
  unless_given failed old query number body true reply happenings said is = none_given first edits old.edits happenings is.1
  unless_given failed old query number body false reply happenings said is = given failed first edits old query number body reply happenings said is

  numbered_given : (failed : Type 0) (old : Status) (new : StatusView) (number : ℕ) (method : Result Method RouteFault) (ask : AskView) (body : List ℕ)
      (reply : ReplyView) (happenings : List Happening) → SaysEditOf first edits number body
      → MeansMethod failed old new (asked_numbered number) method ask body reply happenings → AreGiven first edits old.edits happenings
  numbered_given failed old new number (Ok method) ask body reply happenings said is =
      unless_given failed old ask.query number body (refuses (needed ask) method) reply happenings said is
  numbered_given failed old new number (Err routes.NotFound) ask body reply happenings said is = none_given first edits old.edits happenings is.1
  numbered_given failed old new number (Err routes.NotAllowed) ask body reply happenings said is = none_given first edits old.edits happenings is.1

  unless_put_given : (failed : Type 0) (old : Status) (ask : AskView) (id number : ℕ) (body : List ℕ) (refused : Bool) (reply : ReplyView)
      (happenings : List Happening) → SaysPutOf first edits id number body
      → UnlessRefused refused (MeansNumberedPut failed old ask.query (needed ask) id number body) reply happenings → AreGiven first edits old.edits happenings
  unless_put_given failed old ask id number body true reply happenings said is = none_given first edits old.edits happenings is.1
  unless_put_given failed old ask id number body false reply happenings said is =
      asks_given first edits old id number body happenings said (put_asks failed old ask.query (needed ask) id number body reply happenings is)

  numbered_put_given : (failed : Type 0) (old : Status) (new : StatusView) (id number : ℕ) (method : Result Method RouteFault) (ask : AskView) (body : List ℕ)
      (reply : ReplyView) (happenings : List Happening) → SaysPutOf first edits id number body
      → MeansMethod failed old new (asked_numbered_feature id number) method ask body reply happenings → AreGiven first edits old.edits happenings
  numbered_put_given failed old new id number (Ok method) ask body reply happenings said is =
      unless_put_given failed old ask id number body (refuses (needed ask) method) reply happenings said is
  numbered_put_given failed old new id number (Err routes.NotFound) ask body reply happenings said is =
      none_given first edits old.edits happenings is.1
  numbered_put_given failed old new id number (Err routes.NotAllowed) ask body reply happenings said is =
      none_given first edits old.edits happenings is.1

  -- whatever the method
  pub means_given : (failed : Type 0) (old : Status) (new : StatusView) (asked : Asked) (name : List ℕ) (method : Result Method RouteFault) (ask : AskView)
      (body : List ℕ) → method ≡ method_on name asked → AsksOf asked method body → (reply : ReplyView) (happenings : List Happening)
      → MeansMethod failed old new asked method ask body reply happenings → AreGiven first edits old.edits happenings
  means_given failed old new asked name method ask body on (inl other) reply happenings is =
      quiet_given first edits old.edits happenings (means_quiet failed old new asked name method ask body on other reply happenings is)
  means_given failed old new asked name method ask body on (inr (inr asks)) reply happenings is =
      numbered_put_given failed old new asks.0 asks.1 method ask body reply happenings asks.3
      (subst (λ (a : Asked). MeansMethod failed old new a method ask body reply happenings) asks.2 is)
  means_given failed old new asked name method ask body on (inr (inl asks)) reply happenings is =
      numbered_given failed old new asks.0 method ask body reply happenings asks.2
      (subst (λ (a : Asked). MeansMethod failed old new a method ask body reply happenings) asks.1 is)
