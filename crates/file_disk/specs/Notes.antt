-- The calls of a file, as they are noted.
use Rattle.std.specs.Prelude.{List, [], ◌∷◌, take}
use Rattle.file_disk.specs.Calls.{Call}
use Rattle.file_disk.specs.Calls.Call.{gave, gave_run, gave_none, took, refused, flushed, not_flushed}
use Rattle.file_disk.specs.declared.recorded.RecordedFile.{RecordedFile}
use Rattle.file_disk.specs.declared.record.Noted.{Noted, Opened, Gave', GaveRun', GaveNone', Took', Refused', Flushed', NotFlushed'}
use Rattle.file_disk.specs.declared.record.Record.{Record}

-- the calls that were noted, the newest first
abbrev pub calls_of : Noted → List Call
calls_of Opened = []
calls_of (Gave' offset bytes marker before) = gave offset bytes.value ∷ calls_of before
calls_of (GaveRun' offset sectors count marker before) = gave_run offset (take count sectors.value) ∷ calls_of before
calls_of (GaveNone' offset marker before) = gave_none offset ∷ calls_of before
calls_of (Took' offset sectors count marker before) = took offset (take count sectors.value) ∷ calls_of before
calls_of (Refused' offset sectors count marker before) = refused offset (take count sectors.value) ∷ calls_of before
calls_of (Flushed' marker before) = flushed ∷ calls_of before
calls_of (NotFlushed' marker before) = not_flushed ∷ calls_of before

-- the same of a record
abbrev pub record_calls : Record → List Call
record_calls record_ = calls_of record_.noted.value

-- the same of a file
abbrev pub recorded_calls : {F : Type 0} → RecordedFile F → List Call
recorded_calls file = record_calls file.record
