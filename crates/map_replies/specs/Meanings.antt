-- Which happenings of the service a reply reports: one table, for a single reply and for a connection.
use Rattle.std.specs.Prelude.{◌≡◌, ◌≢◌, ◌<◌, ◌≤◌, ◌+◌, ◌⊎◌, ℕ, List, [], ◌∷◌, ◌++◌, length, map, All, Bool, true, false, Option, Some, None, IfSome, ⊤}
use Rattle.std.specs.Prelude.{Result, Ok, Err, IfOk, IfErr}
use Rattle.http_requests.specs.Fields.{NamedValue}
use Rattle.http_requests.specs.Requests.{RequestView}
use Rattle.http_serve.specs.Reply.{ReplyView}
use Rattle.http_serve.specs.Tags.{tag_text, weak_text}
use Rattle.http_serve.specs.declared.replies.EntityTag.{EntityTag}
use Rattle.http_serve.specs.declared.replies.Tag.{Tag}
use Rattle.http_serve.specs.declared.replies.WeakTag.{WeakTag}
use Rattle.sector_disk.specs.Disk.{History, HasFailed}
use Rattle.tile_routes.specs.declared.method.Method.{Method}
use Rattle.tile_routes.specs.declared.method.Method.TheVariants.{Put, Delete}
use Rattle.tile_routes.specs.declared.fault.RouteFault.{RouteFault}
use Rattle.tile_routes.specs.declared.fault.RouteFault.TheVariants as routes
use Rattle.tile_routes.specs.declared.target.TileFormat.{TileFormat}
use Rattle.tile_routes.specs.declared.target.Action.{Action}
use Rattle.tile_routes.specs.declared.target.Action.TheVariants as actions
use Rattle.tile_routes.specs.declared.target.View.{View}
use Rattle.tile_routes.specs.declared.target.View.TheVariants as views
use Rattle.tile_routes.specs.Methods.{method_on}
use Rattle.tile_routes.specs.Paths.{Asked, asked_tile, asked_feature, asked_from, asked_page, asked_edits, asked_numbered, asked_view, asked_action}
use Rattle.tile_routes.specs.Paths.{asked_box, asked_numbered_feature, asked_nothing}
use Rattle.tile_routes.specs.Paths.{asked_by, granted}
use Rattle.tile_routes.specs.declared.access.Access.{Access}
use Rattle.edit_journal.specs.Records.{RecordData}
use Rattle.edit_journal.specs.declared.fault.JournalFault.{JournalFault}
use Rattle.edit_journal.specs.declared.fault.JournalFault.TheVariants as journals
use Rattle.edit_text.specs.Recorded.{RecordedEdit}
use Rattle.feature_model.specs.Data.{FeatureData, EditData, put, delete, number_of}
use Rattle.feature_model.specs.Seen.{SeenData}
use Rattle.feature_model.specs.declared.feature.WorldBox.{WorldBox}
use Rattle.feature_store.specs.InBox.{in_box}
use Rattle.feature_store.specs.Store.{FeatureMap}
use Rattle.tile_service.specs.Machine.{Happening, single, batched, recorded_in, recorded_change, edit, begin, step, cancel, check}
use Rattle.tile_service.specs.Machine.{OrMemory, got, tile, tile_number, look, look_from, metadata, read, list_edits}
use Rattle.tile_service.specs.Replayed.{AreRecordsFor}
use Rattle.tile_service.specs.Runs.{begin_and_steps, IsUnfinished, TakesAll}
use Rattle.tile_service.specs.Seen.{IsAsSeen}
use Rattle.tile_service.specs.Service.{IsToldOf, ServiceView, StatusView, status_of, status_view}
use Rattle.tile_service.specs.declared.publishing_whole.Published.{Published}
use Rattle.tile_service.specs.declared.drafting.Drafting.{Drafting}
use Rattle.tile_service.specs.declared.status.Status.{Status}
use Rattle.tile_service.specs.declared.fault.ServiceFault.{ServiceFault}
use Rattle.tile_service.specs.declared.fault.ServiceFault.TheVariants.{Device}
use Rattle.map_replies.specs.declared.fault.RequestFault.{RequestFault}
use Rattle.map_replies.specs.declared.fault.RequestFault.TheVariants.{NotFound, Condition, Digest, Gone, Memory, Device as DeviceFailed, Damaged}
use Rattle.map_replies.specs.declared.parts.ArchiveRange.{ArchiveRange}
use Rattle.map_replies.specs.declared.parts.ArchiveRange.TheVariants.{Beyond}
use Rattle.edit_json.specs.Json.{json_of}
use Rattle.map_replies.specs.Bodies.{IsJson, SaysFeature, SaysChanges, CheckedEdit, SaysChecked, HasBodyFault, HasBatchFault, HasCheckedFault}
use Rattle.map_replies.specs.Conditions.{AskView, ask_of, is_known, judged, meets, needed, range_for, refuses}
use Rattle.map_replies.specs.declared.conditions.Needed.{Needed}
use Rattle.map_replies.specs.declared.conditions.Needed.TheVariants.{Free}
use Rattle.map_replies.specs.declared.conditions.Judged.{Judged}
use Rattle.map_replies.specs.declared.conditions.Judged.TheVariants.{Holds, Fails, Unchanged}
use Rattle.map_replies.specs.BoxPages.{IsBoxPage}
use Rattle.map_replies.specs.Digests.{agrees}
use Rattle.map_replies.specs.Feed.{changes_of, feed_body}
use Rattle.map_replies.specs.declared.feed.TheConstants.{FEED_BYTES}
use Rattle.map_replies.specs.Parts.{IsPart, start_of, size_of, archive_tag, shown_tag, part_reply, unchanged_reply, bytes_reply}
use Rattle.map_replies.specs.Words.{refusal_of, not_allowed_reply, json_reply, outcome_reply, changed_reply, not_next_reply, left_reply, published_reply}
use Rattle.map_replies.specs.Words.{cancel_reply, shown_reply, content_reply, tagged_reply, same_tile_reply, found_reply, numbered_reply}
use Rattle.map_replies.specs.Words.{metadata_reply, status_reply}
use Rattle.map_replies.specs.Pages.{Entry, AreEnough, page_reply, looks_from}
use Rattle.map_replies.specs.declared.pages.TheConstants.{PAGE_BYTES}

-- ---- one call of the service

-- one call, and the reply to its outcome
abbrev pub MeansCall : {A : Type 0} → (call : A → Happening) → (reply_of : A → ReplyView) → ReplyView → List Happening → Type 0
MeansCall {A} call reply_of reply happenings = (outcome : A) × (reply ≡ reply_of outcome) × (happenings ≡ call outcome ∷ [])

-- one call that may be refused, and the reply to its outcome; with the fault Device the disk has failed
abbrev pub MeansChange : {A : Type 0} → (failed : Type 0) → (call : Result A ServiceFault → Happening) → (reply_of : Result A ServiceFault → ReplyView)
    → ReplyView → List Happening → Type 0
MeansChange {A} failed call reply_of reply happenings = (outcome : Result A ServiceFault) × (reply ≡ reply_of outcome)
    × IfErr outcome (λ fault. fault ≡ Device → failed) × (happenings ≡ call outcome ∷ [])

-- nothing happens, and the request is refused
abbrev pub MeansRefusal : RequestFault → ReplyView → List Happening → Type 0
MeansRefusal fault reply happenings = (reply ≡ refusal_of fault) × (happenings ≡ [])

-- what is asked for, or out of memory before anything happens
abbrev pub OrNoMemory : (ReplyView → List Happening → Type 0) → ReplyView → List Happening → Type 0
OrNoMemory Means reply happenings = Means reply happenings ⊎ MeansRefusal Memory reply happenings

-- the body says something, and that is what is meant, unless the body has a fault or there is no memory
abbrev pub MeansBody : {A : Type 0} → (Says : A → Type 0) → (Has : RequestFault → Type 0) → (Means : A → ReplyView → List Happening → Type 0)
    → ReplyView → List Happening → Type 0
MeansBody {A} Says Has Means reply happenings =
    ((a : A) × Says a × Means a reply happenings)
    ⊎ ((fault : RequestFault) × Has fault × MeansRefusal fault reply happenings) ⊎ MeansRefusal Memory reply happenings

-- ---- edits, which are recorded in the version of the service's disk

-- an edit is asked for, and its outcome is reported
abbrev pub MeansEdit : (failed : Type 0) → (call : Result ℕ ServiceFault → Happening) → ReplyView → List Happening → Type 0
MeansEdit failed call = MeansChange failed call outcome_reply

-- A change of the feature of an id. Under a condition there is a look at the feature first, and if it isn't as the condition wants it nothing
-- else happens.
abbrev pub MeansIf : Needed → ℕ → (ReplyView → List Happening → Type 0) → ReplyView → List Happening → Type 0
MeansIf Free id IsMeant reply happenings = IsMeant reply happenings
MeansIf needed id IsMeant reply happenings = (found : Option FeatureData)
    × (((meets needed found ≡ true) × (after : List Happening) × (happenings ≡ look id (got found) ∷ after) × IsMeant reply after)
    ⊎ ((meets needed found ≡ false) × (reply ≡ refusal_of Condition) × (happenings ≡ look id (got found) ∷ [])))

-- the feature of the body is set
abbrev pub MeansPut : (failed : Type 0) → (version : ℕ) → Needed → ℕ → List ℕ → ReplyView → List Happening → Type 0
MeansPut failed version needed id body = MeansBody (SaysFeature body) (HasBodyFault body)
    (λ (f : FeatureData). MeansIf needed id (MeansEdit failed (edit single (recorded_change version (put id f)))))

-- the changes of the body are made as one edit, all of them or none
abbrev pub MeansBatch : (failed : Type 0) → (version : ℕ) → List ℕ → ReplyView → List Happening → Type 0
MeansBatch failed version body =
    MeansBody (SaysChanges body) (HasBatchFault body) (λ (cs : EditData). MeansEdit failed (edit batched (recorded_in version cs)))

abbrev pub MeansDelete : (failed : Type 0) → (version : ℕ) → Needed → ℕ → ReplyView → List Happening → Type 0
MeansDelete failed version needed id = OrNoMemory (MeansIf needed id (MeansEdit failed (edit single (recorded_change version (delete id)))))

-- ---- edits that are made only if the map still has what their authors saw

-- a look at each number, which finds what was seen
abbrev pub looks : List SeenData → List Happening
looks all = map (λ s. look s.id (got s.feature)) all

-- each number still has what was seen, and the changes are made as one edit, as without that
abbrev pub MeansUnchanged : (failed : Type 0) → (version : ℕ) → CheckedEdit → ReplyView → List Happening → Type 0
MeansUnchanged failed version e reply happenings = (after : List Happening) × (happenings ≡ looks e.seen ++ after)
    × MeansEdit failed (edit batched (recorded_in version e.changes)) reply after

-- the first number that has something else is reported, and nothing else happens
abbrev pub MeansChanged : List SeenData → ReplyView → List Happening → Type 0
MeansChanged all reply happenings = (before : List SeenData) × (seen : SeenData) × (rest : List SeenData) × (found : Option FeatureData)
    × (all ≡ before ++ seen ∷ rest) × (found ≢ seen.feature) × (reply ≡ changed_reply seen.id)
    × (happenings ≡ looks before ++ look seen.id (got found) ∷ [])

-- the changes are made if each number still has what was seen
abbrev pub MeansChecked : (failed : Type 0) → (version : ℕ) → CheckedEdit → ReplyView → List Happening → Type 0
MeansChecked failed version e reply happenings = MeansUnchanged failed version e reply happenings ⊎ MeansChanged e.seen reply happenings

-- the same of the changes of the body, and what it says that their author saw
abbrev pub MeansCheckedBatch : (failed : Type 0) → (version : ℕ) → List ℕ → ReplyView → List Happening → Type 0
MeansCheckedBatch failed version body = MeansBody (SaysChecked body) (HasCheckedFault body) (MeansChecked failed version)

-- The body says what to change and what its author saw, and the map has that of each number that is changed: the edit replaces no
-- feature that its author hadn't seen.
pub record ReplacesSeen (m : FeatureMap) (body : List ℕ) : Type 0 where
  pub edit : CheckedEdit
  pub says : SaysChecked body edit
  pub numbers : map number_of edit.changes ≡ map (λ s. s.id) edit.seen
  pub seen : All (IsAsSeen m) edit.seen

-- ---- edits that are made only if they get a number

-- An edit is asked for, as without a number, if it gets this one. If it would get another one, nothing happens.
abbrev pub IfNext : (old : Status) → ℕ → (ReplyView → List Happening → Type 0) → ReplyView → List Happening → Type 0
IfNext old number IsMeant reply happenings = ((number ≡ old.edits + 1) × IsMeant reply happenings)
    ⊎ ((number ≢ old.edits + 1) × (reply ≡ not_next_reply old.edits) × (happenings ≡ []))

-- An edit is asked for if the query agrees with the map's digest. If it names another one, nothing happens.
abbrev pub IfAgrees : (old : Status) → (query : List ℕ) → (ReplyView → List Happening → Type 0) → ReplyView → List Happening → Type 0
IfAgrees old query IsMeant reply happenings = ((agrees query old.digest ≡ true) × IsMeant reply happenings)
    ⊎ ((agrees query old.digest ≡ false) × MeansRefusal Digest reply happenings)

-- the changes are made as one edit, if that gets the number and the query agrees with the map
abbrev pub MeansNumbered : (failed : Type 0) → (old : Status) → (query : List ℕ) → ℕ → EditData → ReplyView → List Happening → Type 0
MeansNumbered failed old query number cs =
    IfNext old number (IfAgrees old query (MeansEdit failed (edit batched (recorded_in old.version cs))))

-- the same of the changes of the body
abbrev pub MeansNumberedBatch : (failed : Type 0) → (old : Status) → (query : List ℕ) → ℕ → (body : List ℕ) → ReplyView → List Happening → Type 0
MeansNumberedBatch failed old query number body = MeansBody (SaysChanges body) (HasBatchFault body) (MeansNumbered failed old query number)

-- the feature of an id is set, if that edit gets the number, and the query agrees with the map
abbrev pub MeansNumberedChange : (failed : Type 0) → (old : Status) → (query : List ℕ) → Needed → (id number : ℕ) → FeatureData
    → ReplyView → List Happening → Type 0
MeansNumberedChange failed old query needed id number f =
    IfNext old number (IfAgrees old query (MeansIf needed id (MeansEdit failed (edit single (recorded_change old.version (put id f))))))

-- the same of the feature of the body
abbrev pub MeansNumberedPut : (failed : Type 0) → (old : Status) → (query : List ℕ) → Needed → (id number : ℕ) → (body : List ℕ)
    → ReplyView → List Happening → Type 0
MeansNumberedPut failed old query needed id number body =
    MeansBody (SaysFeature body) (HasBodyFault body) (MeansNumberedChange failed old query needed id number)

-- ---- a whole publication

-- its last call: a step that installs it, or one that is refused
abbrev pub last_outcome : Result Published ServiceFault → Result ℕ ServiceFault
last_outcome (Ok p) = Ok 0
last_outcome (Err fault) = Err fault

-- The reply reports the generation and the archive that are installed, and the last edit before the publication. With the fault Device
-- the disk has failed. Each call before the last leaves something.
abbrev pub MeansPublish : (failed : Type 0) → (old new : Status) → ReplyView → List Happening → Type 0
MeansPublish failed old new reply happenings = (outcome : Result Published ServiceFault) × (reply ≡ published_reply outcome)
    × IfErr outcome (λ fault. fault ≡ Device → failed)
    × IfOk outcome (λ p. p ≡ record { generation = new.generation; edits = old.edits; archive_len = new.archive_len })
    × (before : List (Result ℕ ServiceFault)) × All IsUnfinished before × (happenings ≡ begin_and_steps (before ++ last_outcome outcome ∷ []))

-- ---- the archive

-- A part is read in full, or the disk has failed. Bytes that are never sent count as read: for HEAD, and after a fault of the disk or of the
-- connection. For a range that starts after the archive's last byte nothing is read.
abbrev pub MeansPart : (failed : Type 0) → (total : ℕ) → (tag : Option Tag) → ArchiveRange → ReplyView → List Happening → Type 0
MeansPart failed total tag Beyond reply happenings = (reply ≡ part_reply Beyond total tag []) × (happenings ≡ [])
MeansPart failed total tag part reply happenings = (outcome : Option (List ℕ)) × IfSome outcome (λ content. length content ≡ size_of part total)
    × (outcome ≡ None → failed) × (reply ≡ bytes_reply part total tag outcome) × (happenings ≡ read (start_of part) outcome ∷ [])

-- the part that a range selects of the archive, which has so many bytes and this tag
abbrev pub MeansRange : (failed : Type 0) → (total : ℕ) → (tag : Option Tag) → Option (List ℕ) → ReplyView → List Happening → Type 0
MeansRange failed total tag range reply happenings =
    (part : ArchiveRange) × IsPart range total part × MeansPart failed total tag part reply happenings

-- the same, by what the conditions come to
abbrev pub MeansJudged : (failed : Type 0) → (total : ℕ) → (tag : Option Tag) → Judged → Option (List ℕ) → ReplyView → List Happening → Type 0
MeansJudged failed total tag Fails range reply happenings = MeansRefusal Condition reply happenings
MeansJudged failed total tag Unchanged range reply happenings = (reply ≡ unchanged_reply tag) × (happenings ≡ [])
MeansJudged failed total tag Holds range reply happenings = MeansRange failed total tag range reply happenings

-- What GET or HEAD asks of the archive with this tag. There is no archive exactly if its length is 0.
abbrev pub MeansArchive : (failed : Type 0) → (tag : EntityTag) → Method → AskView → ReplyView → List Happening → Type 0
MeansArchive failed tag method ask reply happenings = ((tag.length ≡ 0) × MeansRefusal NotFound reply happenings)
    ⊎ ((0 < tag.length) × MeansJudged failed tag.length (shown_tag ask.tags tag) (judged (tag_text tag) ask) (range_for method ask) reply happenings)

-- ---- features

-- A page of the features from an id on, or out of memory.
abbrev pub MeansPage : ℕ → ReplyView → List Happening → Type 0
MeansPage id reply happenings = MeansRefusal Memory reply happenings ⊎ ((es : List Entry) × (next : Option Entry)
    × AreEnough PAGE_BYTES es next × (reply ≡ page_reply es next) × (happenings ≡ looks_from id es next))

-- A page of those of them whose bounding boxes meet a box, or out of memory.
abbrev pub MeansBox : WorldBox → ℕ → ReplyView → List Happening → Type 0
MeansBox bounds id reply happenings = MeansRefusal Memory reply happenings ⊎ ((looked : List Entry) × (next : Option Entry)
    × IsBoxPage looked (in_box bounds looked) next × (reply ≡ page_reply (in_box bounds looked) next) × (happenings ≡ looks_from id looked next))

-- ---- tiles

-- A tile that has a tag: of the run of the service that began with this number, and of the number of the tile. If if-none-match names the
-- tag, the client has the tile, and none is made; else the tile is shown with its tag. Out of memory nothing happens.
abbrev pub MeansTagged : (start : ℕ) → List NamedValue → (z x y : ℕ) → TileFormat → ReplyView → List Happening → Type 0
MeansTagged start fields z x y format reply happenings = MeansRefusal Memory reply happenings ⊎ ((number : ℕ)
    × (let tag : WeakTag = record { start = start; number = number } in
    ((is_known (weak_text tag) fields ≡ true) × (reply ≡ same_tile_reply tag) × (happenings ≡ tile_number z x y number ∷ []))
    ⊎ ((is_known (weak_text tag) fields ≡ false) × (outcome : OrMemory (Option (List ℕ)))
    × (reply ≡ shown_reply (tagged_reply format tag) outcome) × (happenings ≡ tile_number z x y number ∷ tile z x y outcome ∷ []))))

-- a tile: with a tag, if replies have tags
abbrev pub MeansTile : (tags : Option ℕ) → List NamedValue → (z x y : ℕ) → TileFormat → ReplyView → List Happening → Type 0
MeansTile None fields z x y format = MeansCall (tile z x y) (shown_reply (content_reply format))
MeansTile (Some start) fields z x y format = MeansTagged start fields z x y format

-- ---- edits that are listed

-- The reply to what was read of the edits from a number on: they are listed with their numbers, and the number of the last edit of all is
-- told, and the digest of the map after it if the list ends with it. Damaged: the disk gives something else than records of edits.
abbrev pub ListedAs : (failed : Type 0) → (last digest number : ℕ) → Result (List RecordData) JournalFault → ReplyView → Type 0
ListedAs failed last digest number (Ok records) reply =
    ((edits : List RecordedEdit) × AreRecordsFor records edits × (reply ≡ json_reply (feed_body number (changes_of edits) last digest)))
    ⊎ (reply ≡ refusal_of Memory) ⊎ (((edits : List RecordedEdit) → ¬ AreRecordsFor records edits) × (reply ≡ refusal_of Damaged))
ListedAs failed last digest number (Err journals.Device) reply = failed × (reply ≡ refusal_of DeviceFailed)
ListedAs failed last digest number (Err journals.Memory) reply = reply ≡ refusal_of Memory
ListedAs failed last digest number (Err journals.Damaged) reply = reply ≡ refusal_of Damaged
ListedAs failed last digest number (Err fault) reply = ⊥

-- the edits from a number on are read
abbrev pub MeansFound : (failed : Type 0) → (last digest number : ℕ) → ReplyView → List Happening → Type 0
MeansFound failed last digest number reply happenings = (outcome : Result (List RecordData) JournalFault)
    × ListedAs failed last digest number outcome reply × (happenings ≡ list_edits number FEED_BYTES outcome ∷ [])

-- The edits from a number on are asked for. Those that newer ones have overwritten are gone, and there are none from behind the next one on.
abbrev pub MeansList : (failed : Type 0) → (old : Status) → ℕ → ReplyView → List Happening → Type 0
MeansList failed old number reply happenings = ((number ≤ old.forgotten) × MeansRefusal Gone reply happenings)
    ⊎ ((old.edits + 1 < number) × MeansRefusal NotFound reply happenings)
    ⊎ ((old.forgotten < number) × (number ≤ old.edits + 1) × MeansFound failed old.edits old.digest number reply happenings)

-- What is shown of a feature, read as the body of a PUT is: the feature's value.
abbrev pub ShowsFeature : OrMemory (Option FeatureData) → (content : List ℕ) → Type 0
ShowsFeature (got (Some f)) content = IsJson content (json_of f)
ShowsFeature outcome content = ⊤

-- the feature of an id is looked at, and shown
abbrev pub MeansLook : ℕ → ReplyView → List Happening → Type 0
MeansLook id reply happenings = (outcome : OrMemory (Option FeatureData)) × (reply ≡ shown_reply found_reply outcome)
    × (happenings ≡ look id outcome ∷ []) × ShowsFeature outcome reply.content

-- ---- routed requests: old and new are what the service tells of itself before and after, failed says that its disk has failed meanwhile

abbrev pub MeansOnFeature : (failed : Type 0) → (version : ℕ) → Needed → ℕ → Method → List ℕ → ReplyView → List Happening → Type 0
MeansOnFeature failed version needed id Put body = MeansPut failed version needed id body
MeansOnFeature failed version needed id Delete body = MeansDelete failed version needed id
MeansOnFeature failed version needed id method body = MeansLook id

-- The disk is asked whether it still keeps what is written, and then the service's status is told. With the fault Device the disk has
-- failed. It is told too how many tiles of a publication in the making are made, and how many entries they need.
abbrev pub MeansStatus : (failed : Type 0) → (new : StatusView) → ReplyView → List Happening → Type 0
MeansStatus failed new reply happenings = (told : Option Drafting) × IsToldOf new.drafting told
    × MeansChange failed check (λ outcome. status_reply told new.status) reply happenings

-- what GET and HEAD show
abbrev pub MeansView : (failed : Type 0) → (old : Status) → (new : StatusView) → View → Method → AskView → ReplyView → List Happening → Type 0
MeansView failed old new views.Metadata method ask = MeansCall metadata (shown_reply metadata_reply)
MeansView failed old new views.Archive method ask = OrNoMemory (MeansArchive failed (archive_tag old) method ask)
MeansView failed old new views.Status method ask = OrNoMemory (MeansStatus failed new)

-- what POST does
abbrev pub MeansAction : (failed : Type 0) → (old : Status) → (new : StatusView) → Action → List ℕ → ReplyView → List Happening → Type 0
MeansAction failed old new actions.Edits body = MeansBatch failed old.version body
MeansAction failed old new actions.CheckedEdits body = MeansCheckedBatch failed old.version body
MeansAction failed old new actions.Publish body = OrNoMemory (MeansPublish failed old new.status)
MeansAction failed old new actions.PublishBegin body = OrNoMemory (MeansCall begin left_reply)
MeansAction failed old new actions.PublishStep body = OrNoMemory (MeansChange failed step left_reply)
MeansAction failed old new actions.PublishCancel body = OrNoMemory (MeansCall cancel cancel_reply)

-- a method that the path allows
abbrev pub MeansAllowed : (failed : Type 0) → (old : Status) → (new : StatusView) → Asked → Method → AskView → List ℕ
    → ReplyView → List Happening → Type 0
MeansAllowed failed old new (asked_tile z x y format) method ask body = MeansTile ask.tags ask.fields z x y format
MeansAllowed failed old new (asked_feature id) method ask body = MeansOnFeature failed old.version (needed ask) id method body
MeansAllowed failed old new (asked_from id) method ask body = MeansCall (look_from id) (shown_reply numbered_reply)
MeansAllowed failed old new (asked_page id) method ask body = MeansPage id
MeansAllowed failed old new (asked_box bounds id) method ask body = MeansBox bounds id
MeansAllowed failed old new (asked_edits number) method ask body = MeansList failed old number
MeansAllowed failed old new (asked_numbered number) method ask body = MeansNumberedBatch failed old ask.query number body
MeansAllowed failed old new (asked_numbered_feature id number) method ask body = MeansNumberedPut failed old ask.query (needed ask) id number body
MeansAllowed failed old new (asked_view view) method ask body = MeansView failed old new view method ask
MeansAllowed failed old new (asked_action action) method ask body = MeansAction failed old new action body
MeansAllowed failed old new asked_nothing method ask body = MeansRefusal NotFound

-- it is refused at once, or done
abbrev pub UnlessRefused : (refused : Bool) → (ReplyView → List Happening → Type 0) → ReplyView → List Happening → Type 0
UnlessRefused true IsMeant reply happenings = MeansRefusal Condition reply happenings
UnlessRefused false IsMeant reply happenings = IsMeant reply happenings

-- a method, or why the path refuses it
abbrev pub MeansMethod : (failed : Type 0) → (old : Status) → (new : StatusView) → Asked → Result Method RouteFault → AskView → List ℕ
    → ReplyView → List Happening → Type 0
MeansMethod failed old new asked (Ok method) ask body reply happenings =
    UnlessRefused (refuses (needed ask) method) (MeansAllowed failed old new asked method ask body) reply happenings
MeansMethod failed old new asked (Err routes.NotFound) ask body reply happenings = MeansRefusal NotFound reply happenings
MeansMethod failed old new asked (Err routes.NotAllowed) ask body reply happenings = (reply ≡ not_allowed_reply asked) × (happenings ≡ [])

-- what a request asks for by its path, where that is served
abbrev pub asked_for : Access → RequestView → Asked
asked_for access request = granted access (asked_by request.path)

-- the reply to a request, which is routed by its path and its method
abbrev pub Means : Access → (tags : Option ℕ) → (failed : Type 0) → (old : Status) → (new : StatusView) → RequestView → ReplyView → List Happening → Type 0
Means access tags failed old new request =
    MeansMethod failed old new (asked_for access request) (method_on request.method (asked_for access request))
    (ask_of tags request) request.body

-- ---- a single reply

-- a call of the service's disk has failed
abbrev pub DiskFailed : {D : Type 0} → (faults : D → ℕ) → (old new : ServiceView D) → Type 0
DiskFailed faults old new = HasFailed (faults old.disk) (faults new.disk)

module _ {D : Type 0} (sectors : D → ℕ) (honest : D → Type 0) (history : D → History) where
  -- the reply reports happenings, and the service takes them all
  abbrev pub Answers : (ReplyView → List Happening → Type 0) → (old new : ServiceView D) → ReplyView → Type 0
  Answers IsMeant old new reply = (happenings : List Happening) × IsMeant reply happenings × TakesAll sectors honest history old happenings new

  -- over a disk that counts its faults
  module _ (faults : D → ℕ) where
    -- the reply to a method that the path allows
    abbrev pub AnswersAllowed : Asked → Method → AskView → List ℕ → (old new : ServiceView D) → ReplyView → Type 0
    AnswersAllowed asked method ask body old new =
        Answers (MeansAllowed (DiskFailed faults old new) (status_of old) (status_view new) asked method ask body) old new

    -- the reply to a method, or to one that the path refuses
    abbrev pub AnswersMethod : Asked → Result Method RouteFault → AskView → List ℕ → (old new : ServiceView D) → ReplyView → Type 0
    AnswersMethod asked method ask body old new =
        Answers (MeansMethod (DiskFailed faults old new) (status_of old) (status_view new) asked method ask body) old new

    -- the reply to a request
    abbrev pub Replies : Access → (tags : Option ℕ) → ServiceView D → RequestView → ReplyView → ServiceView D → Type 0
    Replies access tags old request reply new = Answers (Means access tags (DiskFailed faults old new) (status_of old) (status_view new) request) old new reply
