-- The rest of a download, which is read by its ticket between other replies.
use Rattle.std.specs.Prelude.{◌≡◌, ◌≤◌, ◌+◌, ◌↔◌, ◌⊎◌, ℕ, Bool, true, false, List, [], length, slice_range, IfOk, Result, Ok, Err}
use Rattle.http_serve.specs.Reply.{reply_view}
use Rattle.http_serve.specs.declared.replies.Reply.{Reply}
use Rattle.http_serve.specs.declared.handlers.RestFault.{RestFault}
use Rattle.http_serve.specs.declared.handlers.RestFault.TheVariants.{Failed, Gone}
use Rattle.http_serve.specs.declared.handlers.Ticket.{Ticket}
use Rattle.sector_disk.specs.Asked.{OnlyReads}
use Rattle.sector_disk.specs.Disk.{History, HasFailed}
use Rattle.published_tiles.specs.declared.place.ArchivePlace.{ArchivePlace}
use Rattle.tile_routes.specs.Paths.{Asked, asked_action}
use Rattle.tile_routes.specs.declared.target.Action.TheVariants.{Publish, PublishStep}
use Rattle.tile_service.specs.Service.{ServiceView, IsUp, HasArchive, archive_of}
use Rattle.tile_service.specs.Stored.{Stored}
use Rattle.tile_service.specs.Tickets.{IsHeld, IsThere}
use Rattle.tile_service.specs.declared.fault.ServiceFault.{ServiceFault}
use Rattle.tile_service.specs.declared.fault.ServiceFault.TheVariants.{Device}
use Rattle.map_replies.specs.declared.calls.Calls.{Calls}
use Rattle.map_replies.specs.declared.fault.RequestFault.{RequestFault}

-- where the archive of a ticket is
abbrev pub place_of : Ticket → ArchivePlace
place_of ticket = record { generation = ticket.version; first = ticket.place; len = ticket.total }

-- the ticket for what the last reply with the archive sends
abbrev pub ticket_for : {D : Type 0} → Calls D → Ticket
ticket_for calls = record {
  version = (archive_of calls.service).generation;
  place = (archive_of calls.service).first;
  total = (archive_of calls.service).len;
  first = calls.sending.first;
}

-- the generation at the last step that may have written an area, after a call at this generation: one that is refused writes nothing
abbrev pub oldest_after : {A : Type 0} → Result A ServiceFault → (oldest generation : ℕ) → ℕ
oldest_after (Ok done) oldest generation = generation
oldest_after (Err Device) oldest generation = generation
oldest_after (Err fault) oldest generation = oldest

-- it asks for steps of a publication, or for a whole one
abbrev pub asks_to_step : Asked → Bool
asks_to_step (asked_action Publish) = true
asks_to_step (asked_action PublishStep) = true
asks_to_step asked = false

-- What was asked for may have written an area: the status of the reply is that of a success, or the service is broken by it.
abbrev pub MayHaveWritten : {D : Type 0} → (status : ℕ) → (old new : Calls D) → Type 0
MayHaveWritten status old new = (status ≡ 200) ⊎ ((status ≡ 500) × (old.service.broken ≡ false) × (new.service.broken ≡ true))

-- Archives that can be read can be read afterwards too, unless steps of a publication were made: then those from the generation before it on.
abbrev pub KeepsOldest : {D : Type 0} → Asked → (status : ℕ) → (old new : Calls D) → Type 0
KeepsOldest asked status old new = (new.oldest ≡ old.oldest)
    ⊎ ((asks_to_step asked ≡ true) × MayHaveWritten status old new × (new.oldest ≡ old.service.generation))

-- the same by what a call returned: one that is refused writes nothing
abbrev pub KeepsArchives : {D : Type 0} → Asked → Result Reply RequestFault → (old new : Calls D) → Type 0
KeepsArchives asked (Ok reply) old new = KeepsOldest asked (reply_view [] reply).status old new
KeepsArchives asked (Err fault) old new = new.oldest ≡ old.oldest

-- a ticket that is held is held afterwards too
abbrev pub KeepsTickets : {D : Type 0} (honest : D → Type 0) (history : D → History) → (old new : Calls D) → Type 0
KeepsTickets {D} honest history old new = (place : ArchivePlace) (first : ServiceView D)
    → IsHeld honest history place first old.oldest old.service → IsHeld honest history place first new.oldest new.service

-- This many bytes of a ticket's content were read from an offset on, or couldn't be. Nothing changes but what the disk was asked.
pub record ReadsRest {D : Type 0} (sectors : D → ℕ) (honest : D → Type 0) (history : D → History) (faults : D → ℕ) (old : Calls D)
    (ticket : Ticket) (offset count : ℕ) (outcome : Result (List ℕ) RestFault) (new : Calls D) : Type 0 where
  pub same : new.service ≡ record old.service { disk = new.service.disk }
  pub oldest : new.oldest ≡ old.oldest
  pub sending : new.sending ≡ old.sending
  pub disk : OnlyReads sectors honest history old.service.disk new.service.disk
  pub up : (stored : Stored) → IsUp (sectors old.service.disk) (history old.service.disk) stored old.service → honest new.service.disk
      → IsUp (sectors new.service.disk) (history new.service.disk) stored new.service
  -- they are gone exactly if they aren't there
  pub gone : (outcome ≡ Err Gone) ↔ (IsThere old.service.size old.oldest (place_of ticket) (ticket.first + offset) count → ⊥)
  -- another fault is one of the disk
  pub failed : outcome ≡ Err Failed → HasFailed (faults old.service.disk) (faults new.service.disk)
  -- so they are read only if they are there, all of them
  pub there : IfOk outcome (λ bytes. (length bytes ≡ count)
      × IsThere old.service.size old.oldest (place_of ticket) (ticket.first + offset) (length bytes))
  -- they are those of the archive that the disk has in the ticket's place
  pub shown : (archive : List ℕ) → HasArchive (history old.service.disk) (place_of ticket) archive → honest new.service.disk
      → IfOk outcome (λ bytes. bytes ≡ slice_range archive (ticket.first + offset) (ticket.first + offset + length bytes))
