-- The state of the request handler, regardless of its address in memory.
use Rattle.std.specs.Prelude.{◌≡◌, ℕ, ◌-◌, min, List, Option, Result, ◌++◌}
use Rattle.http_serve.specs.declared.handlers.RestFault.{RestFault}
use Rattle.http_serve.specs.declared.handlers.Ticket.{Ticket}
use Rattle.http_requests.specs.Requests.{RequestView}
use Rattle.http_serve.specs.Reply.{ReplyView}
use Rattle.sector_disk.specs.Disk.{History}
use Rattle.tile_service.specs.Machine.{Happening}
use Rattle.tile_service.specs.Runs.{TakesAll}
use Rattle.tile_service.specs.Service.{ServiceView, status_of, status_view}
use Rattle.map_replies.specs.declared.calls.Calls.{Calls}
use Rattle.map_replies.specs.declared.service.MapReplies.{MapReplies}
use Rattle.map_replies.specs.declared.service.Settings.{Settings}
use Rattle.map_replies.specs.Conditions.{ask_of}
use Rattle.map_replies.specs.Meanings.{Means, asked_for, DiskFailed, Replies}
use Rattle.map_replies.specs.Sending.{SendsMethod}
use Rattle.map_replies.specs.Tickets.{ticket_for, KeepsOldest, KeepsTickets, ReadsRest}
use Rattle.tile_routes.specs.Methods.{method_on}
use Rattle.tile_routes.specs.declared.access.Access.{Access}

-- which paths it serves
abbrev pub access_of : {D : Type 0} → MapReplies D → Access
access_of s = s.settings.access

-- the number that tags of tiles begin with, if replies have entity tags
abbrev pub tags_of : {D : Type 0} → MapReplies D → Option ℕ
tags_of s = s.settings.tags

-- how it serves the map
abbrev pub settings_of : {D : Type 0} → MapReplies D → Settings
settings_of s = s.settings

-- the service that it calls
abbrev pub asked_service : {D : Type 0} → MapReplies D → ServiceView D
asked_service s = s.calls.service

-- how many bytes of the archive are being sent
abbrev pub sent_by : {D : Type 0} → Calls D → ℕ
sent_by calls = min calls.sending.length (calls.service.archive_len - calls.sending.first)

abbrev pub sending_size : {D : Type 0} → MapReplies D → ℕ
sending_size s = sent_by s.calls

-- the ticket for it
abbrev pub sending_ticket : {D : Type 0} → MapReplies D → Ticket
sending_ticket s = ticket_for s.calls

-- the archives that could be read can be read after this reply too, but for what it published
abbrev pub KeepsArchivesOn : {D : Type 0} → MapReplies D → RequestView → ReplyView → MapReplies D → Type 0
KeepsArchivesOn old request reply new = KeepsOldest (asked_for (access_of old) request) reply.status old.calls new.calls

-- over a disk with these sectors, this honesty, this history and this count of faults
module _ {D : Type 0} (sectors : D → ℕ) (honest : D → Type 0) (history : D → History) (faults : D → ℕ) where
  -- One reply to one request. The same paths are served as before, with the same tags; tickets are held that were, and archives can be read
  -- that could.
  abbrev pub ServiceReplies : MapReplies D → RequestView → ReplyView → MapReplies D → Type 0
  ServiceReplies old request reply new =
      Replies sectors honest history faults (access_of old) (tags_of old) (asked_service old) request reply (asked_service new)
      × (settings_of new ≡ settings_of old)
      × KeepsTickets honest history old.calls new.calls × KeepsArchivesOn old request reply new

  -- the same for a reply whose content is being read in parts: the request is for the archive
  abbrev pub ServiceSends : MapReplies D → RequestView → ReplyView → MapReplies D → Type 0
  ServiceSends old request reply new =
      SendsMethod sectors honest history faults (asked_for (access_of old) request)
      (method_on request.method (asked_for (access_of old) request)) (ask_of (tags_of old) request)
      (asked_service old) new.calls.sending (asked_service new) reply
      × (settings_of new ≡ settings_of old) × KeepsTickets honest history old.calls new.calls × (new.calls.oldest ≡ old.calls.oldest)

  -- the same for a reply whose content couldn't be read to its end: the disk has failed
  abbrev pub ServiceFails : MapReplies D → RequestView → ReplyView → MapReplies D → Type 0
  ServiceFails old request reply new = ServiceReplies old request reply new × DiskFailed faults (asked_service old) (asked_service new)

  -- bytes of a ticket's content were read, or couldn't be; the same paths are served as before, with the same tags
  abbrev pub ServiceReads : MapReplies D → Ticket → (offset count : ℕ) → Result (List ℕ) RestFault → MapReplies D → Type 0
  ServiceReads old ticket offset count outcome new =
      ReadsRest sectors honest history faults old.calls ticket offset count outcome new.calls × (settings_of new ≡ settings_of old)

-- ---- a connection

-- the request handler of a connection, and what has happened to its service on this connection so far
pub record Course (D : Type 0) : Type 0 where
  pub replies : MapReplies D
  pub run : List Happening

abbrev pub course : {D : Type 0} → MapReplies D → List Happening → Course D
course replies run = record { replies = replies; run = run }

module _ {D : Type 0} (sectors : D → ℕ) (honest : D → Type 0) (history : D → History) (faults : D → ℕ) where
  -- One reply to one request: it reports happenings, the service takes them all, and they are appended to the run. The same paths are
  -- served as before, with the same tags; tickets are held that were, and archives can be read that could.
  abbrev pub Tells : Course D → RequestView → ReplyView → Course D → Type 0
  Tells old request reply new = (happenings : List Happening)
      × Means (access_of old.replies) (tags_of old.replies) (DiskFailed faults (asked_service old.replies) (asked_service new.replies))
      (status_of (asked_service old.replies)) (status_view (asked_service new.replies)) request reply happenings
      × TakesAll sectors honest history (asked_service old.replies) happenings (asked_service new.replies)
      × (new.run ≡ old.run ++ happenings) × (settings_of new.replies ≡ settings_of old.replies)
      × KeepsTickets honest history old.replies.calls new.replies.calls × KeepsArchivesOn old.replies request reply new.replies

  -- the same for a reply whose content couldn't be read to its end: the disk has failed
  abbrev pub TellsCut : Course D → RequestView → ReplyView → Course D → Type 0
  TellsCut old request reply new = Tells old request reply new × DiskFailed faults (asked_service old.replies) (asked_service new.replies)
