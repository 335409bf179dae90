-- Tiles with and without tags.
use Rattle.std.proofs.Common.{◌≡◌, ◌∙◌, ◌⊎◌, inl, inr, ℕ, List, [], ◌∷◌, false, Option, Result, Ok, Err, refl, ap}
use Rattle.http_requests.specs.Fields.{NamedValue}
use Rattle.http_serve.specs.Reply.{ReplyView, reply_view}
use Rattle.http_serve.specs.Tags.{weak_text}
use Rattle.http_serve.specs.declared.replies.Reply.{Reply}
use Rattle.http_serve.specs.declared.replies.WeakTag.{WeakTag}
use Rattle.sector_disk.specs.Disk.{History}
use Rattle.tile_routes.specs.declared.target.TileFormat.{TileFormat}
use Rattle.tile_service.specs.Machine.{OrMemory, got, no_memory, tile, tile_number}
use Rattle.tile_service.specs.Runs.{Takes}
use Rattle.tile_service.specs.Service.{ServiceView}
use Rattle.tile_service.specs.Tags.{TellsNumber}
use Rattle.tile_service.proofs.Runs.Callers.{number_step}
use Rattle.map_replies.specs.Conditions.{is_known}
use Rattle.map_replies.specs.Meanings.{MeansCall, MeansTagged, Answers}
use Rattle.map_replies.specs.Sending.{IsAnswered, IsShownAs}
use Rattle.map_replies.specs.Words.{refusal_of, shown_reply, content_reply, tagged_reply, with_tag}
use Rattle.map_replies.specs.declared.fault.RequestFault.{RequestFault}
use Rattle.map_replies.specs.declared.fault.RequestFault.TheVariants.{Memory}
use Rattle.map_replies.proofs.Answering.{called}

module _ {D : Type 0} (sectors : D → ℕ) (honest : D → Type 0) (history : D → History) (z x y : ℕ) (format : TileFormat) (old new : ServiceView D) where
  -- a tile is shown without a tag
  pub plain_tile : (r : Result Reply RequestFault)
      → (outcome : OrMemory (Option (List ℕ))) × Takes sectors honest history old (tile z x y outcome) new × IsShownAs (content_reply format) outcome r
      → IsAnswered (Answers sectors honest history (MeansCall (tile z x y) (shown_reply (content_reply format))) old new) r
  plain_tile (Ok reply) (got content, takes, is) =
      called sectors honest history (tile z x y) (shown_reply (content_reply format)) old new (got content) (reply_view [] reply) is takes
  plain_tile (Ok reply) (no_memory, takes, is) = absurd is
  plain_tile (Err fault) (got content, takes, is) = absurd is
  plain_tile (Err fault) (no_memory, takes, is) =
      called sectors honest history (tile z x y) (shown_reply (content_reply format)) old new no_memory (refusal_of fault) (ap refusal_of is) takes

  module _ (tag : WeakTag) (fields : List NamedValue) (told : TellsNumber old z x y tag.number)
      (other : is_known (weak_text tag) fields ≡ false) where
    -- it is shown with its tag
    tagged_shown : (outcome : OrMemory (Option (List ℕ))) (reply : ReplyView) → reply ≡ shown_reply (tagged_reply format tag) outcome
        → Takes sectors honest history old (tile z x y outcome) new
        → Answers sectors honest history (MeansTagged tag.start fields z x y format) old new reply
    tagged_shown outcome reply is takes = (
      tile_number z x y tag.number ∷ tile z x y outcome ∷ [],
      inr (tag.number, inr (other, outcome, is, refl)),
      (old, number_step sectors honest history old z x y tag.number told, (new, takes, refl)),
    )

    pub tagged_made : (reply : Reply) (tagged : ReplyView) → tagged ≡ with_tag tag (reply_view [] reply)
        → (outcome : OrMemory (Option (List ℕ))) × Takes sectors honest history old (tile z x y outcome) new
        × IsShownAs (content_reply format) outcome (Ok reply)
        → Answers sectors honest history (MeansTagged tag.start fields z x y format) old new tagged
    tagged_made reply tagged is (got content, takes, shown) = tagged_shown (got content) tagged (is ∙ ap (with_tag tag) shown) takes
    tagged_made reply tagged is (no_memory, takes, shown) = absurd shown

    -- or there is no memory
    pub tagged_refused : (fault : RequestFault)
        → (outcome : OrMemory (Option (List ℕ))) × Takes sectors honest history old (tile z x y outcome) new
        × IsShownAs (content_reply format) outcome (Err fault)
        → Answers sectors honest history (MeansTagged tag.start fields z x y format) old new (refusal_of fault)
    tagged_refused fault (got content, takes, shown) = absurd shown
    tagged_refused fault (no_memory, takes, shown) = tagged_shown no_memory (refusal_of fault) (ap refusal_of shown) takes
