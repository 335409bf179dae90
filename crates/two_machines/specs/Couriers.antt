-- What a courier asks of a standby's port.
use Rattle.std.specs.Prelude.{◌≡◌, ◌⊎◌, ℕ, false, List, [], ◌∷◌}
use Rattle.sector_disk.specs.Disk.{History}
use Rattle.feature_model.specs.Data.{EditData, FeatureData, put}
use Rattle.http_requests.specs.Requests.{RequestView}
use Rattle.http_serve.specs.Reply.{ReplyView}
use Rattle.tile_routes.specs.Paths.{asked_numbered, asked_numbered_feature}
use Rattle.tile_routes.specs.declared.access.Access.{Access}
use Rattle.tile_routes.specs.Methods.{method_on}
use Rattle.map_replies.specs.Bodies.{SaysFeature}
use Rattle.map_replies.specs.Confirming.{asks_to_edit}
use Rattle.map_replies.specs.Meanings.{asked_for}
use Rattle.map_replies.specs.Preparing.{Meanwhile, TellsMeanwhile}
use Rattle.two_machines.specs.Standby.{IsEditOf, SaysEditOf}
use Rattle.map_replies.specs.State.{access_of}

-- the body is the feature that the leader's edit of this number sets under this id, and the edit changes nothing else
abbrev pub SaysPutOf : (first : ℕ) → List EditData → (id number : ℕ) → (body : List ℕ) → Type 0
SaysPutOf first edits id number body = (f : FeatureData) × SaysFeature body f × IsEditOf first edits number (put id f ∷ [])

-- The request asks for no edit, or for one under a number, and its body says the leader's edit of that number: its changes, or the feature that it sets.
abbrev pub IsOfCourier : (first : ℕ) → List EditData → Access → RequestView → Type 0
IsOfCourier first edits access request = (asks_to_edit (asked_for access request) (method_on request.method (asked_for access request)) ≡ false)
    ⊎ (((number : ℕ) × (asked_for access request ≡ asked_numbered number) × SaysEditOf first edits number request.body)
    ⊎ ((id : ℕ) × (number : ℕ) × (asked_for access request ≡ asked_numbered_feature id number) × SaysPutOf first edits id number request.body))

module _ {D : Type 0} (sectors : D → ℕ) (honest : D → Type 0) (history : D → History) (faults : D → ℕ) (first : ℕ) (edits : List EditData) where
  -- one reply to such a request
  abbrev pub TellsCourier : Meanwhile D → RequestView → ReplyView → Meanwhile D → Type 0
  TellsCourier old request reply new =
      IsOfCourier first edits (access_of old.replies.replies) request × TellsMeanwhile sectors honest history faults old request reply new
