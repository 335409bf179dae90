-- Replies between which a publication is prepared: its map is fixed as it is asked for, and its tiles are made while other requests are answered.
-- The beginning of the publication stands in the run where its map was fixed, though it is made later. The steps of a whole publication stand where
-- they are made: between other replies, and the last ones with its answer.
use Rattle.std.specs.Prelude.{◌≡◌, ◌⊎◌, ◌<◌, ◌+◌, ◌&&◌, ℕ, Bool, true, false, not, List, [], ◌∷◌, ◌++◌, length, map, All, Option, Some, None, Result, Ok, Err}
use Rattle.std.specs.Prelude.{IfOk, IfErr}
use Rattle.http_requests.specs.Requests.{RequestView}
use Rattle.http_serve.specs.Reply.{ReplyView}
use Rattle.http_serve.specs.declared.handlers.RestFault.{RestFault}
use Rattle.http_serve.specs.declared.handlers.Ticket.{Ticket}
use Rattle.sector_bytes.specs.Counts.{NeverFalls}
use Rattle.sector_disk.specs.Asked.{OnlyReads}
use Rattle.sector_disk.specs.Disk.{History}
use Rattle.tile_routes.specs.Methods.{method_on}
use Rattle.tile_routes.specs.Paths.{Asked, asked_action, asked_view}
use Rattle.tile_routes.specs.declared.fault.RouteFault.{RouteFault}
use Rattle.tile_routes.specs.declared.method.Method.{Method}
use Rattle.tile_routes.specs.declared.method.Method.TheVariants.{Get, Head, Post}
use Rattle.tile_routes.specs.declared.target.Action.TheVariants.{Publish, PublishBegin, PublishStep, PublishCancel}
use Rattle.tile_routes.specs.declared.target.View.TheVariants.{Metadata}
use Rattle.tile_service.specs.Drafted.{DraftedView}
use Rattle.tile_service.specs.Machine.{Happening, begin, step, cancel}
use Rattle.tile_service.specs.Prepared.{CanPrepare}
use Rattle.tile_service.specs.Runs.{IsUnfinished, Takes, TakesAll, TakesRest}
use Rattle.tile_service.specs.Service.{PublicationView, ServiceView, IsUp, BeginsDrafted, TellsDevice, drafted_now, left_of, status_of}
use Rattle.tile_service.specs.Stored.{Stored}
use Rattle.tile_service.specs.declared.fault.ServiceFault.{ServiceFault}
use Rattle.tile_service.specs.declared.fault.ServiceFault.TheVariants.{Device}
use Rattle.tile_service.specs.declared.publishing.TheConstants.{STEP_SECTORS}
use Rattle.tile_service.specs.declared.publishing_whole.Published.{Published}
use Rattle.tile_service.specs.declared.status.Status.{Status}
use Rattle.map_replies.specs.declared.calls.Calls.{Calls}
use Rattle.map_replies.specs.declared.preparing.PreparingReplies.{PreparingReplies}
use Rattle.map_replies.specs.declared.service.MapReplies.{MapReplies}
use Rattle.map_replies.specs.Conditions.{AskView, ask_of, needed, refuses}
use Rattle.map_replies.specs.Meanings.{DiskFailed, asked_for, last_outcome}
use Rattle.map_replies.specs.State.{access_of, tags_of, asked_service, settings_of, sending_size, sending_ticket, ServiceReplies, ServiceSends, ServiceFails}
use Rattle.map_replies.specs.State.{ServiceReads}
use Rattle.map_replies.specs.State.{course, KeepsArchivesOn, Tells}
use Rattle.map_replies.specs.Tickets.{KeepsTickets, oldest_after}
use Rattle.map_replies.specs.Words.{left_reply, published_reply}

-- it asks for a call of a publication
abbrev pub asks_to_publish : Asked → Bool
asks_to_publish (asked_action Publish) = true
asks_to_publish (asked_action PublishBegin) = true
asks_to_publish (asked_action PublishStep) = true
asks_to_publish (asked_action PublishCancel) = true
asks_to_publish asked = false

-- it asks for the metadata of the map, by a method that shows them
abbrev pub asks_for_metadata : Asked → Result Method RouteFault → Bool
asks_for_metadata (asked_view Metadata) (Ok Get) = true
asks_for_metadata (asked_view Metadata) (Ok Head) = true
asks_for_metadata asked method = false

-- so it does by a method and with conditions that don't refuse it: a request that is refused by its method, or by its conditions, asks for nothing
abbrev pub calls_publication : Asked → Result Method RouteFault → AskView → Bool
calls_publication asked (Ok method) ask = not (refuses (needed ask) method) && asks_to_publish asked
calls_publication asked (Err fault) ask = false

-- the same of a request to these replies
abbrev pub is_to_publish : {D : Type 0} → MapReplies D → RequestView → Bool
is_to_publish replies request =
    calls_publication (asked_for (access_of replies) request) (method_on request.method (asked_for (access_of replies) request))
    (ask_of (tags_of replies) request)

-- its conditions, if replies have entity tags, don't refuse what it posts
abbrev pub MayPost : {D : Type 0} → MapReplies D → RequestView → Type 0
MayPost replies request = refuses (needed (ask_of (tags_of replies) request)) Post ≡ false

-- it asks for the beginning of a publication by steps
abbrev pub IsToBegin : {D : Type 0} → MapReplies D → RequestView → Type 0
IsToBegin replies request = (asked_for (access_of replies) request ≡ asked_action PublishBegin)
    × (method_on request.method (asked_for (access_of replies) request) ≡ Ok Post) × MayPost replies request

-- it asks for a whole publication
abbrev pub IsToPublishWhole : {D : Type 0} → MapReplies D → RequestView → Type 0
IsToPublishWhole replies request = (asked_for (access_of replies) request ≡ asked_action Publish)
    × (method_on request.method (asked_for (access_of replies) request) ≡ Ok Post) × MayPost replies request

-- the service, without a publication in the making
abbrev pub undrafted : {D : Type 0} → ServiceView D → ServiceView D
undrafted service = record service { drafting = None }

abbrev pub undrafted_calls : {D : Type 0} → Calls D → Calls D
undrafted_calls calls = record calls { service = undrafted calls.service }

-- A publication is in the making, and nothing but its map prevents its beginning.
pub record IsReady {D : Type 0} (service : ServiceView D) : Type 0 where
  pub unbroken : service.broken ≡ false
  pub none : service.publication ≡ None
  pub draft : DraftedView
  pub is : service.drafting ≡ Some draft

-- A publication is under way, and its next step isn't the last: more is left than a step's sectors and the root.
pub record HasMoreSteps {D : Type 0} (service : ServiceView D) : Type 0 where
  pub publication : PublicationView
  pub is : service.publication ≡ Some publication
  pub more : STEP_SECTORS + 1 < left_of publication

-- It begins, of the map that was fixed for it, or its map is refused; then nothing is in the making.
pub record BeginsLate {D : Type 0} (old : Calls D) (outcome : Result ℕ ServiceFault) (new : Calls D) : Type 0 where
  pub ready : IsReady old.service
  pub begins : BeginsDrafted old.service.size ready.draft outcome new.service.publication
  pub same : new ≡ record old { service = record (undrafted old.service) { publication = new.service.publication } }

module _ {D : Type 0} (sectors : D → ℕ) (honest : D → Type 0) (history : D → History) (faults : D → ℕ) where
  -- The publication that is under way is continued to its end. Tickets that are held stay so.
  pub record GoesToItsEnd (old : Calls D) (outcome : Result Published ServiceFault) (new : Calls D) : Type 0 where
    pub takes : TakesRest sectors honest history old.service outcome new.service
    pub failed : TellsDevice outcome (faults old.service.disk) (faults new.service.disk)
    pub held : KeepsTickets honest history old new
    pub same : new ≡ record old { service = new.service; oldest = oldest_after outcome old.oldest old.service.generation }

  -- by what its beginning came to: it is continued to its end, or its map was refused
  abbrev pub EndsLate : (beginning : Result ℕ ServiceFault) → (begun : Calls D) → Result Published ServiceFault → Calls D → Type 0
  EndsLate (Ok left) begun outcome new = GoesToItsEnd begun outcome new
  EndsLate (Err fault) begun outcome new = (outcome ≡ Err fault) × (new ≡ begun)

  -- A step of it is made, which isn't its last. Tickets that are held stay so.
  pub record StepsBegun (old : Calls D) (outcome : Result ℕ ServiceFault) (new : Calls D) : Type 0 where
    pub takes : Takes sectors honest history old.service (step outcome) new.service
    pub unfinished : IfOk outcome (λ left. 0 < left)
    pub failed : TellsDevice outcome (faults old.service.disk) (faults new.service.disk)
    pub held : KeepsTickets honest history old new
    pub same : new ≡ record old { service = new.service; oldest = oldest_after outcome old.oldest old.service.generation }

  -- It is cancelled. Nothing else changes.
  pub record CancelsBegun (old : Calls D) (outcome : Result (Unit {0}) ServiceFault) (new : Calls D) : Type 0 where
    pub takes : Takes sectors honest history old.service (cancel outcome) new.service
    pub held : KeepsTickets honest history old new
    pub same : new ≡ record old { service = record old.service { publication = new.service.publication } }

-- what is asked of the service by these replies
abbrev pub inner_service : {D : Type 0} → PreparingReplies D → ServiceView D
inner_service s = asked_service s.replies

-- what the beginning of the whole publication that is prepared came to, once it was made
abbrev pub beginning_of : {D : Type 0} → PreparingReplies D → Option (Result ℕ ServiceFault)
beginning_of s = s.whole

-- it was made, and its map wasn't refused
abbrev pub is_begun : Option (Result ℕ ServiceFault) → Bool
is_begun (Some (Ok left)) = true
is_begun beginning = false

-- the whole publication that is prepared has begun
abbrev pub has_begun : {D : Type 0} → PreparingReplies D → Bool
has_begun s = is_begun (beginning_of s)

-- the whole publication goes on after a step that leaves something, and has ended after one that is refused
abbrev pub GoesOnWhole : Result ℕ ServiceFault → (old new : Option (Result ℕ ServiceFault)) → Type 0
GoesOnWhole (Ok left) old new = new ≡ old
GoesOnWhole (Err fault) old new = new ≡ None

-- the same replies, which prepare no publication
abbrev pub without_draft : {D : Type 0} → PreparingReplies D → PreparingReplies D
without_draft s = record s { replies = record s.replies { calls = undrafted_calls s.replies.calls }; whole = None }

abbrev pub inner_size : {D : Type 0} → PreparingReplies D → ℕ
inner_size s = sending_size s.replies

abbrev pub inner_ticket : {D : Type 0} → PreparingReplies D → Ticket
inner_ticket s = sending_ticket s.replies

-- over a disk with these sectors, this honesty, this history and this count of faults
module _ {D : Type 0} (sectors : D → ℕ) (honest : D → Type 0) (history : D → History) (faults : D → ℕ) where
  -- No whole publication is prepared any more: one that has begun is cancelled, and nothing else changes.
  abbrev pub GivesUp : PreparingReplies D → PreparingReplies D → Type 0
  GivesUp old new = (beginning_of new ≡ None)
      × (((has_begun old ≡ false) × (new.replies ≡ old.replies))
      ⊎ ((outcome : Result (Unit {0}) ServiceFault) × (has_begun old ≡ true) × (new.replies ≡ record old.replies { calls = new.replies.calls })
      × CancelsBegun sectors honest history faults old.replies.calls outcome new.replies.calls))

  -- Before a call of a publication the one that is prepared is dropped, or cancelled if it has begun. Before any other request, and before one that is
  -- refused, nothing is done.
  abbrev pub IsMadeReady : PreparingReplies D → RequestView → (done : List Happening) → (ready : MapReplies D)
      → (beginning : Option (Result ℕ ServiceFault)) → Type 0
  IsMadeReady old request done ready beginning =
      ((done ≡ []) × (ready ≡ old.replies) × (beginning ≡ beginning_of old) × (is_to_publish old.replies request ≡ false))
      ⊎ ((done ≡ []) × (ready ≡ record old.replies { calls = undrafted_calls old.replies.calls }) × (beginning ≡ None) × (has_begun old ≡ false)
      × (is_to_publish old.replies request ≡ true))
      ⊎ ((outcome : Result (Unit {0}) ServiceFault) × (cancelled : Calls D) × (done ≡ cancel outcome ∷ [])
      × (ready ≡ record old.replies { calls = undrafted_calls cancelled }) × (beginning ≡ None) × (has_begun old ≡ true)
      × CancelsBegun sectors honest history faults old.replies.calls outcome cancelled × (is_to_publish old.replies request ≡ true))

  -- one reply to one request, or the late answer to a beginning, or to a whole publication, by what its beginning came to
  abbrev pub PreparingReplied : PreparingReplies D → RequestView → ReplyView → PreparingReplies D → Type 0
  PreparingReplied old request reply new =
      ((done : List Happening) × (ready : MapReplies D) × IsMadeReady old request done ready (beginning_of new)
      × ServiceReplies sectors honest history faults ready request reply new.replies)
      ⊎ ((outcome : Result ℕ ServiceFault) × IsToBegin old.replies request × (reply ≡ left_reply outcome)
      × (new.replies ≡ record old.replies { calls = new.replies.calls }) × (beginning_of new ≡ None)
      × BeginsLate old.replies.calls outcome new.replies.calls)
      ⊎ ((beginning : Result ℕ ServiceFault) × (outcome : Result Published ServiceFault) × IsToPublishWhole old.replies request
      × (reply ≡ published_reply outcome) × (new.replies ≡ record old.replies { calls = new.replies.calls })
      × (beginning_of old ≡ Some beginning) × (beginning_of new ≡ None)
      × EndsLate sectors honest history faults beginning old.replies.calls outcome new.replies.calls)

  -- the same for a reply whose content is being read in parts: it asks for no call of a publication
  abbrev pub PreparingSends : PreparingReplies D → RequestView → ReplyView → PreparingReplies D → Type 0
  PreparingSends old request reply new = (is_to_publish old.replies request ≡ false)
      × ServiceSends sectors honest history faults old.replies request reply new.replies × (beginning_of new ≡ beginning_of old)

  -- the same for a reply whose content couldn't be read to its end
  abbrev pub PreparingFails : PreparingReplies D → RequestView → ReplyView → PreparingReplies D → Type 0
  PreparingFails old request reply new = (is_to_publish old.replies request ≡ false)
      × ServiceFails sectors honest history faults old.replies request reply new.replies × (beginning_of new ≡ beginning_of old)

  -- bytes of a ticket's content were read, or couldn't be
  abbrev pub PreparingReads : PreparingReplies D → Ticket → (offset count : ℕ) → Result (List ℕ) RestFault → PreparingReplies D → Type 0
  PreparingReads old ticket offset count outcome new =
      ServiceReads sectors honest history faults old.replies ticket offset count outcome new.replies × (beginning_of new ≡ beginning_of old)

  -- A step of the preparation of a publication. Nothing else changes: the publication in the making goes on, or is dropped, or begins and is of
  -- the map of now, and nothing but the tiles, the space and memory then prevents its publication. A whole one that has begun stays under way.
  pub record PreparingStep (old new : PreparingReplies D) : Type 0 where
    pub same : new.replies
        ≡ record old.replies { calls = record old.replies.calls { service = record (inner_service old) { drafting = (inner_service new).drafting } } }
    pub draft : ((inner_service new).drafting ≡ (inner_service old).drafting) ⊎ ((inner_service new).drafting ≡ None)
        ⊎ (CanPrepare (inner_service old) × ((inner_service new).drafting ≡ Some (drafted_now (inner_service old))) × (beginning_of new ≡ None))
    pub whole : (beginning_of new ≡ beginning_of old) ⊎ ((beginning_of new ≡ None) × (has_begun old ≡ false))
    pub up : (stored : Stored) → IsUp (sectors (inner_service old).disk) (history (inner_service old).disk) stored (inner_service old)
        → IsUp (sectors (inner_service new).disk) (history (inner_service new).disk) stored (inner_service new)

  -- The whole publication that is prepared begins, of the map that was fixed for it, or its map is refused.
  abbrev pub BeginsWhole : PreparingReplies D → Result ℕ ServiceFault → PreparingReplies D → Type 0
  BeginsWhole old outcome new = (beginning_of new ≡ Some outcome) × (new.replies ≡ record old.replies { calls = new.replies.calls })
      × BeginsLate old.replies.calls outcome new.replies.calls

  -- A step of the whole publication that is prepared is made, which isn't its last.
  abbrev pub StepsWhole : PreparingReplies D → Result ℕ ServiceFault → PreparingReplies D → Type 0
  StepsWhole old outcome new = (has_begun old ≡ true) × GoesOnWhole outcome (beginning_of old) (beginning_of new)
      × (new.replies ≡ record old.replies { calls = new.replies.calls })
      × StepsBegun sectors honest history faults old.replies.calls outcome new.replies.calls

  -- The whole publication that is prepared is cancelled: whoever asked for it is gone.
  abbrev pub CancelsWhole : PreparingReplies D → Result (Unit {0}) ServiceFault → PreparingReplies D → Type 0
  CancelsWhole old outcome new = (has_begun old ≡ true) × (beginning_of new ≡ None) × (new.replies ≡ record old.replies { calls = new.replies.calls })
      × CancelsBegun sectors honest history faults old.replies.calls outcome new.replies.calls

  -- The disk is read for a tile of the archive, before the reply with the tile. Nothing else changes but what is cached of the archive, and tickets
  -- that are held stay so.
  pub record ReadsPart (old new : PreparingReplies D) : Type 0 where
    pub same : new.replies ≡ record old.replies {
      calls = record old.replies.calls {
        service = record (inner_service old) {
          disk = (inner_service new).disk;
          published = (inner_service new).published;
        };
      };
    }
    pub whole : beginning_of new ≡ beginning_of old
    pub disk : OnlyReads sectors honest history (inner_service old).disk (inner_service new).disk
    pub never_falls : NeverFalls (faults (inner_service old).disk) (faults (inner_service new).disk)
    pub untouched : (inner_service old).broken ≡ true → new.replies ≡ old.replies
    pub held : KeepsTickets honest history old.replies.calls new.replies.calls
    pub up : (stored : Stored) → IsUp (sectors (inner_service old).disk) (history (inner_service old).disk) stored (inner_service old)
        → honest (inner_service new).disk → IsUp (sectors (inner_service new).disk) (history (inner_service new).disk) stored (inner_service new)

  -- what is done between replies, for a publication that is prepared, or for a tile that is read by parts
  abbrev pub Prepares : PreparingReplies D → PreparingReplies D → Type 0
  Prepares old new = PreparingStep old new ⊎ ((outcome : Result ℕ ServiceFault) × BeginsWhole old outcome new)
      ⊎ ((outcome : Result ℕ ServiceFault) × StepsWhole old outcome new)
      ⊎ ((outcome : Result (Unit {0}) ServiceFault) × CancelsWhole old outcome new) ⊎ ReadsPart old new

  -- for a request that asks for no call of a publication, or is refused: a tile that is made changes nothing that a reply shows
  abbrev pub PreparesTile : PreparingReplies D → PreparingReplies D → Type 0
  PreparesTile old new = ((new.replies ≡ old.replies) × (beginning_of new ≡ beginning_of old)) ⊎ ReadsPart old new

  -- the same for a request of a connection
  abbrev pub PreparesFor : PreparingReplies D → (connection : ℕ) → RequestView → PreparingReplies D → Type 0
  PreparesFor old connection request new =
      ((is_to_publish old.replies request ≡ true) × Prepares old new)
      ⊎ ((is_to_publish old.replies request ≡ false) × PreparesTile old new)

-- ---- a listener

-- The request handler of a listener, what has happened to its service so far, and how many of these happenings came before the map of the
-- publication that is prepared was fixed, if there is one.
pub record Meanwhile (D : Type 0) : Type 0 where
  pub replies : PreparingReplies D
  pub run : List Happening
  pub fixed : Option ℕ

abbrev pub meanwhile : {D : Type 0} → PreparingReplies D → List Happening → Option ℕ → Meanwhile D
meanwhile replies run fixed = record { replies = replies; run = run; fixed = fixed }

-- the map of the publication that is prepared is the same, or there is none any more
abbrev pub StaysFixed : {D : Type 0} → Meanwhile D → Meanwhile D → Type 0
StaysFixed old new = (new.fixed ≡ old.fixed) ⊎ (new.fixed ≡ None)

-- and after a call of a publication there is none
abbrev pub StaysFixedBeside : {D : Type 0} → Meanwhile D → RequestView → Meanwhile D → Type 0
StaysFixedBeside old request new =
    ((new.fixed ≡ old.fixed) × (is_to_publish old.replies.replies request ≡ false)) ⊎ (new.fixed ≡ None)

-- it is a step that leaves something, or no call of a publication
abbrev pub IsMeanwhile : Happening → Type 0
IsMeanwhile (begin outcome) = ⊥
IsMeanwhile (step outcome) = IsUnfinished outcome
IsMeanwhile (cancel outcome) = ⊥
IsMeanwhile happening = Unit {0}

abbrev pub AreMeanwhile : List Happening → Type 0
AreMeanwhile [] = Unit {0}
AreMeanwhile (happening ∷ happenings) = IsMeanwhile happening × AreMeanwhile happenings

-- What a late answer to a whole publication reports: the generation and the archive that are installed, and the last edit in it. With the fault
-- Device the disk has failed. Each call before the last leaves something.
abbrev pub MeansWhole : (failed : Type 0) → (new : Status) → ReplyView → (beginning : Result ℕ ServiceFault) → (steps : List (Result ℕ ServiceFault)) → Type 0
MeansWhole failed new reply beginning steps = (outcome : Result Published ServiceFault) × (reply ≡ published_reply outcome)
    × IfErr outcome (λ fault. fault ≡ Device → failed)
    × IfOk outcome (λ p. p ≡ record { generation = new.generation; edits = new.published; archive_len = new.archive_len })
    × (unfinished : List (Result ℕ ServiceFault)) × All IsUnfinished unfinished × (beginning ∷ steps ≡ unfinished ++ last_outcome outcome ∷ [])

module _ {D : Type 0} (sectors : D → ℕ) (honest : D → Type 0) (history : D → History) (faults : D → ℕ) where
  -- One reply to one request: it tells what happens now. Before a call of a publication a whole one that has begun is cancelled.
  abbrev pub TellsNow : Meanwhile D → RequestView → ReplyView → Meanwhile D → Type 0
  TellsNow old request reply new = (done : List Happening) × (ready : MapReplies D)
      × IsMadeReady sectors honest history faults old.replies request done ready (beginning_of new.replies)
      × Tells sectors honest history faults (course ready (old.run ++ done)) request reply (course new.replies.replies new.run)
      × StaysFixedBeside old request new

  -- The late answer to a beginning. It stands in the run where the map of the publication was fixed: the archive has what was
  -- acknowledged before, and nothing that was requested later. Tickets that are held stay so, and archives can be read as before.
  abbrev pub TellsLate : Meanwhile D → RequestView → ReplyView → Meanwhile D → Type 0
  TellsLate old request reply new = IsToBegin old.replies.replies request × (outcome : Result ℕ ServiceFault) × (reply ≡ left_reply outcome)
      × (before : List Happening) × (after : List Happening) × (old.run ≡ before ++ after) × (old.fixed ≡ Some (length before))
      × (new.run ≡ before ++ begin outcome ∷ after) × (new.fixed ≡ None)
      × (settings_of new.replies.replies ≡ settings_of old.replies.replies)
      × KeepsTickets honest history old.replies.replies.calls new.replies.replies.calls
      × KeepsArchivesOn old.replies.replies request reply new.replies.replies
      × BeginsLate old.replies.replies.calls outcome new.replies.replies.calls

  -- The answer to a whole publication, whose beginning stands in the run where its map was fixed, so that its archive has what was acknowledged
  -- before, and nothing that was requested later. Since then only steps of it were made, and calls that have nothing to do with publications. The
  -- steps that were left are made now.
  abbrev pub TellsWholeLate : Meanwhile D → RequestView → ReplyView → Meanwhile D → Type 0
  TellsWholeLate old request reply new = IsToPublishWhole old.replies.replies request
      × (beginning : Result ℕ ServiceFault) × (steps : List (Result ℕ ServiceFault))
      × MeansWhole (DiskFailed faults (inner_service old.replies) (inner_service new.replies)) (status_of (inner_service new.replies)) reply beginning steps
      × (before : List Happening) × (after : List Happening) × (old.run ≡ before ++ begin beginning ∷ after) × AreMeanwhile after
      × (old.fixed ≡ Some (length before)) × (new.run ≡ old.run ++ map step steps) × (new.fixed ≡ None)
      × (settings_of new.replies.replies ≡ settings_of old.replies.replies)
      × KeepsTickets honest history old.replies.replies.calls new.replies.replies.calls
      × KeepsArchivesOn old.replies.replies request reply new.replies.replies
      × TakesAll sectors honest history (inner_service old.replies) (map step steps) (inner_service new.replies)

  abbrev pub TellsMeanwhile : Meanwhile D → RequestView → ReplyView → Meanwhile D → Type 0
  TellsMeanwhile old request reply new =
      TellsNow old request reply new ⊎ TellsLate old request reply new ⊎ TellsWholeLate old request reply new

  -- bytes of a ticket's content were read, or couldn't be: nothing happens
  abbrev pub TellsMeanwhileRead : Meanwhile D → Ticket → (offset count : ℕ) → Result (List ℕ) RestFault → Meanwhile D → Type 0
  TellsMeanwhileRead old ticket offset count outcome new =
      PreparingReads sectors honest history faults old.replies ticket offset count outcome new.replies × (new.run ≡ old.run) × (new.fixed ≡ old.fixed)

  -- a step of a preparation that makes no step of a publication: nothing happens, but the map of a publication may be fixed now
  abbrev pub TellsPreparing : Meanwhile D → Meanwhile D → Type 0
  TellsPreparing old new = PreparingStep sectors honest history faults old.replies new.replies × (new.run ≡ old.run)
      × (StaysFixed old new ⊎ (new.fixed ≡ Some (length old.run)))

  -- The whole publication that is prepared begins. Its beginning stands in the run where its map was fixed.
  abbrev pub TellsBegun : Meanwhile D → Meanwhile D → Type 0
  TellsBegun old new = (outcome : Result ℕ ServiceFault) × BeginsWhole sectors honest history faults old.replies outcome new.replies
      × (before : List Happening) × (after : List Happening) × (old.run ≡ before ++ after) × (old.fixed ≡ Some (length before))
      × (new.run ≡ before ++ begin outcome ∷ after) × (new.fixed ≡ old.fixed)

  -- A step of it is made, and stands in the run now.
  abbrev pub TellsStepped : Meanwhile D → Meanwhile D → Type 0
  TellsStepped old new = (outcome : Result ℕ ServiceFault) × StepsWhole sectors honest history faults old.replies outcome new.replies
      × (new.run ≡ old.run ++ step outcome ∷ []) × (new.fixed ≡ old.fixed)

  -- It is cancelled.
  abbrev pub TellsCancelled : Meanwhile D → Meanwhile D → Type 0
  TellsCancelled old new = (outcome : Result (Unit {0}) ServiceFault)
      × CancelsWhole sectors honest history faults old.replies outcome new.replies
      × (new.run ≡ old.run ++ cancel outcome ∷ []) × (new.fixed ≡ None)

  -- The disk is read for a tile of the archive: nothing happens.
  abbrev pub TellsPartRead : Meanwhile D → Meanwhile D → Type 0
  TellsPartRead old new = ReadsPart sectors honest history faults old.replies new.replies × (new.run ≡ old.run) × (new.fixed ≡ old.fixed)

  -- what is done between replies, for a publication that is prepared, or for a tile that is read by parts
  abbrev pub TellsPrepared : Meanwhile D → Meanwhile D → Type 0
  TellsPrepared old new = TellsPreparing old new ⊎ TellsBegun old new ⊎ TellsStepped old new ⊎ TellsCancelled old new ⊎ TellsPartRead old new

  -- The same for a request of a connection: only for one that asks for a call of a publication the map of one is fixed, or a step of one made.
  abbrev pub TellsPreparedFor : Meanwhile D → (connection : ℕ) → RequestView → Meanwhile D → Type 0
  TellsPreparedFor old connection request new = TellsPrepared old new
      × ((is_to_publish old.replies.replies request ≡ true) ⊎ ((new.run ≡ old.run) × (new.fixed ≡ old.fixed)))
