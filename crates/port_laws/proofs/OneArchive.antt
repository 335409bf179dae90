-- What is read by the ticket of a download.
use Rattle.std.proofs.Common.{◌≡◌, ◌∙◌, ℕ, ◌+◌, ◌≤◌, List, length, take, drop, slice_range, Some, sym, ap, subst, arith}
use Rattle.std.specs.Prelude.{Ok}
use Rattle.http_requests.specs.Requests.{RequestView}
use Rattle.http_serve.specs.Reply.{ReplyView}
use Rattle.sector_disk.specs.Disk.{History}
use Rattle.published_tiles.specs.declared.place.ArchivePlace.{ArchivePlace}
use Rattle.tile_service.specs.Service.{IsPlaceIn, HasArchive, ShowsArchive, archive_of}
use Rattle.tile_service.specs.Tickets.{IsHeld}
use Rattle.tile_service.proofs.Archive.Tickets as tickets
use Rattle.map_replies.specs.declared.service.MapReplies.{MapReplies}
use Rattle.map_replies.specs.Parts.{start_of}
use Rattle.map_replies.specs.State.{asked_service, ServiceSends}
use Rattle.map_replies.specs.Tickets.{ticket_for, KeepsTickets, ReadsRest}
use Rattle.map_replies.proofs.SendingLemmas.{content_of, slice_inner, shows_on}

module _ {D : Type 0} (sectors : D → ℕ) (honest : D → Type 0) (history : D → History) (faults : D → ℕ) where
  -- what is read by its ticket is what the reply has
  pub download_part : (old at before after : MapReplies D) (request : RequestView) (reply : ReplyView) (offset : ℕ) (bytes archive : List ℕ)
      → ServiceSends sectors honest history faults old request reply at
      → at.calls.oldest ≤ (asked_service at).generation → KeepsTickets honest history at.calls before.calls
      → ReadsRest sectors honest history faults before.calls (ticket_for at.calls) offset (length bytes) (Ok bytes) after.calls
      → honest (asked_service after).disk → ShowsArchive (history (asked_service old).disk) (asked_service old) archive
      → offset + length bytes ≤ length reply.content → bytes ≡ take (length bytes) (drop offset reply.content)
  download_part old at before after request reply offset bytes archive sends least keeps reads is_honest shows within =
      let first = asked_service at in
      let sent = sends.0.3.1.1 in
      let begun = sent.sends in
      let start : ℕ = start_of sent.part in
      let place : ArchivePlace = archive_of first in
      let held : IsHeld honest history place first before.calls.oldest (asked_service before) =
      keeps place first (tickets.held_first sectors honest history first at.calls.oldest least) in
      let honest_before : honest (asked_service before).disk = reads.disk.was_honest is_honest in
      let honest_at : honest first.disk = held.was_honest honest_before in
      let inside : IsPlaceIn first.size place = subst (λ (n : ℕ). IsPlaceIn n place) held.size reads.there.1.inside in
      let there : HasArchive (history first.disk) place archive =
      shows_on sectors honest history (asked_service old) first start (Some begun.content) archive begun.reads honest_at shows in
      let now : HasArchive (history (asked_service before).disk) place archive =
      tickets.held_archive sectors honest history place first before.calls.oldest (asked_service before) held inside reads.there.1.kept archive there
      honest_before in
      let read = reads.shown archive now is_honest in
      let from : at.calls.sending.first ≡ start = ap (λ s. s.first) begun.sent.1 in
      let content : reply.content ≡ begun.content =
      ap (λ (r : ReplyView). r.content) begun.shows ∙ content_of sent.part (asked_service old).archive_len _ begun.content begun.sent.0 in
      let whole = begun.reads.archive archive shows honest_at in
      let fits : offset + length bytes ≤ length begun.content = omega (arith, within, ap length content) in
      slice_inner archive bytes start (length begun.content) offset fits
      (subst (λ (f : ℕ). bytes ≡ slice_range archive (f + offset) (f + offset + length bytes)) from read)
      ∙ ap (λ (xs : List ℕ). take (length bytes) (drop offset xs)) (sym whole ∙ sym content)
