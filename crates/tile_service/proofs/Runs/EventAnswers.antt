-- What an event and its answer report.
use Rattle.std.proofs.Common.{◌≡◌, inl, inr, ℕ, map, Vec, Global, List, [], ◌∷◌, ◌++◌, Result, Ok, Err, refl, sym, subst}
use Rattle.feature_model.specs.Data.{feature_data, change_data, put, delete}
use Rattle.feature_model.specs.declared.feature.Change.{Change}
use Rattle.feature_model.specs.declared.feature.Feature.{Feature}
use Rattle.tile_service.specs.Events.{Tells, AreTold, edit_answer, left_answer, IsTile, AsksTile}
use Rattle.tile_service.specs.Machine.{Happening, edit, begin, step, single, batched, recorded_in, recorded_change}
use Rattle.tile_service.specs.Runs.{IsRead}
use Rattle.tile_service.specs.declared.event.Answer.{Answer}
use Rattle.tile_service.specs.declared.event.Answer.TheVariants as answers
use Rattle.tile_service.specs.declared.event.Event.{Event}
use Rattle.tile_service.specs.declared.event.Event.TheVariants as events
use Rattle.tile_service.specs.declared.fault.ServiceFault.{ServiceFault}

-- the same event and answer, stated differently
pub told_step : (version : ℕ) (happening : Happening) {event event' : Event} {answer answer' : Answer} → event ≡ event' → answer ≡ answer'
    → Tells version event' answer' happening → Tells version event answer happening
told_step version happening {event} {event'} {answer} {answer'} same_event same_answer tells =
    subst (λ (x : Event). Tells version x answer happening) (sym same_event)
    (subst (λ (x : Answer). Tells version event' x happening) (sym same_answer) tells)

pub put_told : (version id : ℕ) (feature : Feature) (outcome : Result ℕ ServiceFault)
    → Tells version (events.Put id feature) (edit_answer outcome) (edit single (recorded_change version (put id (feature_data feature))) outcome)
put_told version id feature (Ok number) = refl
put_told version id feature (Err fault) = refl

pub delete_told : (version id : ℕ) (outcome : Result ℕ ServiceFault)
    → Tells version (events.Delete id) (edit_answer outcome) (edit single (recorded_change version (delete id)) outcome)
delete_told version id (Ok number) = refl
delete_told version id (Err fault) = refl

pub batch_told : (version : ℕ) (changes : Vec Change Global) (outcome : Result ℕ ServiceFault)
    → Tells version (events.Batch changes) (edit_answer outcome) (edit batched (recorded_in version (map change_data changes.items)) outcome)
batch_told version changes (Ok number) = refl
batch_told version changes (Err fault) = refl

pub begin_told : (version : ℕ) (outcome : Result ℕ ServiceFault) → Tells version events.Begin (left_answer outcome) (begin outcome)
begin_told version (Ok left) = refl
begin_told version (Err fault) = refl

pub step_told : (version : ℕ) (outcome : Result ℕ ServiceFault) → Tells version events.Step (left_answer outcome) (step outcome)
step_told version (Ok left) = refl
step_told version (Err fault) = refl

is_no_read : (happening : Happening) {other : Happening} → happening ≡ other → ¬ IsRead other → ¬ IsRead happening
is_no_read happening same not = subst (λ (h : Happening). ¬ IsRead h) (sym same) not

-- no event reads the archive
pub told_no_read : (version : ℕ) (event : Event) (answer : Answer) (happening : Happening) → Tells version event answer happening → ¬ IsRead happening
told_no_read version (events.Put id feature) (answers.Edited number) happening told = is_no_read happening told (λ is. is)
told_no_read version (events.Put id feature) (answers.Refused fault) happening told = is_no_read happening told (λ is. is)
told_no_read version (events.Delete id) (answers.Edited number) happening told = is_no_read happening told (λ is. is)
told_no_read version (events.Delete id) (answers.Refused fault) happening told = is_no_read happening told (λ is. is)
told_no_read version (events.Batch changes) (answers.Edited number) happening told = is_no_read happening told (λ is. is)
told_no_read version (events.Batch changes) (answers.Refused fault) happening told = is_no_read happening told (λ is. is)
told_no_read version (events.Tile at) (answers.Tile content) happening told = is_no_read happening told (λ is. is)
told_no_read version (events.Tile at) (answers.Refused fault) happening told = is_no_read happening told.1 (λ is. is)
told_no_read version (events.Look id) (answers.Look feature) happening told = is_no_read happening told (λ is. is)
told_no_read version (events.Look id) (answers.Refused fault) happening told = is_no_read happening told.1 (λ is. is)
told_no_read version events.Begin (answers.Left left) happening told = is_no_read happening told (λ is. is)
told_no_read version events.Begin (answers.Refused fault) happening told = is_no_read happening told (λ is. is)
told_no_read version events.Step (answers.Left left) happening told = is_no_read happening told (λ is. is)
told_no_read version events.Step (answers.Refused fault) happening told = is_no_read happening told (λ is. is)
told_no_read version events.Cancel answers.Cancelled happening told = is_no_read happening told (λ is. is)
told_no_read version events.Cancel (answers.Refused fault) happening told = is_no_read happening told (λ is. is)
told_no_read version event answer happening told = absurd told

-- with one more
pub told_on : (version : ℕ) (events : List Event) (answers : List Answer) (happenings : List Happening)
    (event : Event) (answer : Answer) (happening : Happening) → AreTold version events answers happenings → Tells version event answer happening
    → AreTold version (events ++ event ∷ []) (answers ++ answer ∷ []) (happenings ++ happening ∷ [])
told_on version [] [] [] event answer happening told tells = (tells, tt)
told_on version (e ∷ events) (a ∷ answers) (h ∷ happenings) event answer happening told tells =
    (told.0, told_on version events answers happenings event answer happening told.1 tells)
told_on version events answers happenings event answer happening told tells = absurd told

-- with an event more, a run asks for the tiles that it asked for before,
pub asks_before : (events : List Event) (event : Event) → AsksTile events → AsksTile (events ++ event ∷ [])
asks_before [] event asks = absurd asks
asks_before (e ∷ events) event (inl is) = inl is
asks_before (e ∷ events) event (inr asks) = inr (asks_before events event asks)

-- and for that of the event
pub asks_last : (events : List Event) (event : Event) → IsTile event → AsksTile (events ++ event ∷ [])
asks_last [] event is = inl is
asks_last (e ∷ events) event is = inr (asks_last events event is)
