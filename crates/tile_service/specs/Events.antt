-- What happened, given the event that asked for it and its answer.
use Rattle.std.specs.Prelude.{◌≡◌, ◌⊎◌, ℕ, List, [], ◌∷◌, map, option_map, Result, Ok, Err}
use Rattle.cached_map.specs.Cached.{shared_bytes}
use Rattle.feature_model.specs.Data.{feature_data, change_data, put, delete}
use Rattle.tile_service.specs.Machine.{got, no_memory, Happening, single, batched, recorded_in, recorded_change, edit, begin, step, cancel, tile, look}
use Rattle.tile_service.specs.declared.event.Event.{Event}
use Rattle.tile_service.specs.declared.event.Event.TheVariants as events
use Rattle.tile_service.specs.declared.event.Answer.{Answer}
use Rattle.tile_service.specs.declared.event.Answer.TheVariants as answers
use Rattle.tile_service.specs.declared.fault.ServiceFault.{ServiceFault}
use Rattle.tile_service.specs.declared.fault.ServiceFault.TheVariants.{Memory}

-- The event was requested of a service whose disk has this version, and the answer reports its outcome.
abbrev pub Tells : (version : ℕ) → Event → Answer → Happening → Type 0
Tells version (events.Put id feature) (answers.Edited number) happening =
    happening ≡ edit single (recorded_change version (put id (feature_data feature))) (Ok number)
Tells version (events.Put id feature) (answers.Refused fault) happening =
    happening ≡ edit single (recorded_change version (put id (feature_data feature))) (Err fault)
Tells version (events.Delete id) (answers.Edited number) happening = happening ≡ edit single (recorded_change version (delete id)) (Ok number)
Tells version (events.Delete id) (answers.Refused fault) happening = happening ≡ edit single (recorded_change version (delete id)) (Err fault)
Tells version (events.Batch changes) (answers.Edited number) happening =
    happening ≡ edit batched (recorded_in version (map change_data changes.items)) (Ok number)
Tells version (events.Batch changes) (answers.Refused fault) happening =
    happening ≡ edit batched (recorded_in version (map change_data changes.items)) (Err fault)
Tells version (events.Tile at) (answers.Tile content) happening = happening ≡ tile at.z at.x at.y (got (shared_bytes content))
Tells version (events.Tile at) (answers.Refused fault) happening = (fault ≡ Memory) × (happening ≡ tile at.z at.x at.y no_memory)
Tells version (events.Look id) (answers.Look feature) happening = happening ≡ look id (got (option_map feature_data feature))
Tells version (events.Look id) (answers.Refused fault) happening = (fault ≡ Memory) × (happening ≡ look id no_memory)
Tells version events.Begin (answers.Left told) happening = happening ≡ begin (Ok told)
Tells version events.Begin (answers.Refused fault) happening = happening ≡ begin (Err fault)
Tells version events.Step (answers.Left told) happening = happening ≡ step (Ok told)
Tells version events.Step (answers.Refused fault) happening = happening ≡ step (Err fault)
Tells version events.Cancel answers.Cancelled happening = happening ≡ cancel (Ok tt)
Tells version events.Cancel (answers.Refused fault) happening = happening ≡ cancel (Err fault)
Tells version event answer happening = ⊥

-- each of them, in order
abbrev pub AreTold : (version : ℕ) → List Event → List Answer → List Happening → Type 0
AreTold version [] [] [] = Unit {0}
AreTold version (event ∷ events) (answer ∷ answers) (happening ∷ happenings) =
    Tells version event answer happening × AreTold version events answers happenings
AreTold version events answers happenings = ⊥

-- the answer with an edit's outcome, and with that of a beginning or a step of a publication
abbrev pub edit_answer : Result ℕ ServiceFault → Answer
edit_answer (Ok number) = answers.Edited number
edit_answer (Err fault) = answers.Refused fault

abbrev pub left_answer : Result ℕ ServiceFault → Answer
left_answer (Ok told) = answers.Left told
left_answer (Err fault) = answers.Refused fault

-- the event asks for a tile
abbrev pub IsTile : Event → Type 0
IsTile (events.Tile at) = Unit {0}
IsTile event = ⊥

-- one of the events does
abbrev pub AsksTile : List Event → Type 0
AsksTile [] = ⊥
AsksTile (event ∷ events) = IsTile event ⊎ AsksTile events
