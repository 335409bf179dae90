-- What serving a connection promises.
use Rattle.std.specs.Prelude.{ℕ, List, [], Option, Result, IfOk, IfErr}
use Rattle.http_serve.specs.declared.connection.ServeFault.{ServeFault}
use Rattle.http_serve.specs.declared.connection.Served.{Served}
use Rattle.http_serve.specs.Told.{IsServed, IsServedUpTo, HasContent, MeetsTurns, KeepsTurns, AnswersInput}
use Rattle.sector_disk.specs.Disk.{History}
use Rattle.tile_service.specs.Machine.{Happening}
use Rattle.tile_service.specs.Runs.{TakesRun, TakesStates}
use Rattle.map_replies.specs.declared.service.MapReplies.{MapReplies}
use Rattle.map_replies.specs.State.{asked_service, sending_size, ServiceReplies, Tells, TellsCut, course}

-- Over a disk with these sectors, this honesty, this history and this count of faults: a connection whose reader has these bytes left and
-- whose writer holds these. It is served in at most limit reads.
pub record ServesMap {D R W : Type 0} (sectors : D → ℕ) (honest : D → Type 0) (history : D → History) (faults : D → ℕ)
    (remaining : R → Option (List ℕ)) (contents : W → Option (List ℕ)) (limit : ℕ)
    (old : MapReplies D) (reader : R) (writer : W) (result : Result Served ServeFault)
    (new : MapReplies D) (next_reader : R) (next_writer : W) : Type 0 where
  -- all requests of a known input are answered, unless the limit on reads was reached
  pub input : IfOk result (λ outcome. AnswersInput (ServiceReplies sectors honest history faults) old (remaining reader) (contents writer) outcome
      new (contents next_writer))
  -- The replies report what happens to the service, in order. A crash at any point of the connection leaves a prefix of the edits of this run:
  -- every edit acknowledged by then, and none requested later.
  pub served : IfOk result (λ outcome. (run : List Happening)
      × IsServed (Tells sectors honest history faults) (course old []) (remaining reader) (contents writer) outcome
      (course new run) (remaining next_reader) (contents next_writer)
      × TakesRun sectors honest history (asked_service old) run (asked_service new)
      × TakesStates sectors honest history (asked_service old) run (asked_service new))
  -- the same up to a fault of the connection
  pub fault : IfErr result (λ why. (run : List Happening)
      × IsServedUpTo (Tells sectors honest history faults) (TellsCut sectors honest history faults) (course old []) (remaining reader)
      (contents writer) why (course new run) (remaining next_reader) (contents next_writer)
      × TakesRun sectors honest history (asked_service old) run (asked_service new)
      × TakesStates sectors honest history (asked_service old) run (asked_service new))
  -- the fault is the disk's only while the archive is being sent
  pub content : IfErr result (HasContent (sending_size new))
  -- the limit on reads is reached only after that many reads
  pub turns : IfOk result (λ outcome. MeetsTurns remaining limit reader next_reader outcome.end)
  -- no more reads are made
  pub reads : KeepsTurns limit result (remaining reader) (remaining next_reader)
