-- Replies that list edits.
use Rattle.std.proofs.Common.{◌≡◌, inl, inr, ℕ, ◌<◌, ◌≤◌, ◌+◌, List, [], ◌∷◌, Result, Ok, Err, refl}
use Rattle.http_serve.specs.Reply.{ReplyView, reply_view}
use Rattle.http_serve.specs.declared.replies.Reply.{Reply}
use Rattle.sector_disk.specs.Disk.{History}
use Rattle.edit_journal.specs.Records.{RecordData}
use Rattle.edit_journal.specs.declared.fault.JournalFault.{JournalFault}
use Rattle.feature_store.specs.Digests.{map_digest}
use Rattle.tile_service.specs.Machine.{list_edits}
use Rattle.tile_service.specs.Runs.{Takes}
use Rattle.tile_service.specs.Service.{ServiceView, status_of}
use Rattle.map_replies.specs.Meanings.{ListedAs, MeansList, Answers}
use Rattle.map_replies.specs.Sending.{IsAnswered}
use Rattle.map_replies.specs.Words.{refusal_of}
use Rattle.map_replies.specs.declared.fault.RequestFault.{RequestFault}
use Rattle.map_replies.specs.declared.feed.TheConstants.{FEED_BYTES}

module _ {D : Type 0} (sectors : D → ℕ) (honest : D → Type 0) (history : D → History) (failed : Type 0) (old new : ServiceView D) (number : ℕ)
    (outcome : Result (List RecordData) JournalFault) (above : old.kept_journal.edits < number) (within : number ≤ old.journal.last + 1)
    (takes : Takes sectors honest history old (list_edits number FEED_BYTES outcome) new) where
  list_reply : (reply : ReplyView) → ListedAs failed old.journal.last (map_digest old.features) number outcome reply
      → Answers sectors honest history (MeansList failed (status_of old) number) old new reply
  list_reply reply is = (list_edits number FEED_BYTES outcome ∷ [], inr (inr (above, within, (outcome, is, refl))), (new, takes, refl))

  -- the edits were asked for, and the reply says what was read of them
  pub list_answered : (result : Result Reply RequestFault) → IsAnswered (ListedAs failed old.journal.last (map_digest old.features) number outcome) result
      → IsAnswered (Answers sectors honest history (MeansList failed (status_of old) number) old new) result
  list_answered (Ok reply) is = list_reply (reply_view [] reply) is
  list_answered (Err fault) is = list_reply (refusal_of fault) is
