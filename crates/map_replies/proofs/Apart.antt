-- A reply to a request that asks for no call of a publication reports none.
use Rattle.std.proofs.Common.{◌≡◌, inl, inr, ◌⊎◌, ◌+◌, ℕ, List, [], ◌∷◌, ◌++◌, Bool, true, false, Option, Some, None, Result, Ok, Err, refl, sym, subst}
use Rattle.std.specs.Prelude.{◌&&◌, not}
use Rattle.std.proofs.lemmas.Bool.{false≢true}
use Rattle.feature_model.specs.Seen.{SeenData}
use Rattle.http_serve.specs.Reply.{ReplyView}
use Rattle.tile_routes.specs.declared.method.Method.{Method}
use Rattle.tile_routes.specs.declared.method.Method.TheVariants.{Get, Head, Post, Put, Delete}
use Rattle.tile_routes.specs.declared.fault.RouteFault.{RouteFault}
use Rattle.tile_routes.specs.declared.fault.RouteFault.TheVariants as routes
use Rattle.tile_routes.specs.declared.target.Action.{Action}
use Rattle.tile_routes.specs.declared.target.Action.TheVariants as actions
use Rattle.tile_routes.specs.declared.target.View.{View}
use Rattle.tile_routes.specs.declared.target.View.TheVariants as views
use Rattle.tile_routes.specs.declared.target.TileFormat.{TileFormat}
use Rattle.tile_routes.specs.Paths.{Asked, asked_tile, asked_feature, asked_from, asked_page, asked_edits, asked_numbered, asked_view, asked_action}
use Rattle.tile_routes.specs.Paths.{asked_box, asked_numbered_feature, asked_nothing}
use Rattle.edit_text.specs.Recorded.{RecordedEdit}
use Rattle.feature_model.specs.Data.{FeatureData, EditData, put, delete}
use Rattle.feature_model.specs.declared.feature.WorldBox.{WorldBox}
use Rattle.tile_service.specs.Machine.{Happening, Call, single, batched, recorded_in, recorded_change, edit, begin, step, cancel, check}
use Rattle.tile_service.specs.Machine.{got, tile, tile_number, look, look_from, metadata, read, list_edits}
use Rattle.tile_service.specs.Service.{StatusView}
use Rattle.tile_service.specs.declared.status.Status.{Status}
use Rattle.http_requests.specs.Fields.{NamedValue}
use Rattle.http_serve.specs.declared.replies.Tag.{Tag}
use Rattle.http_serve.specs.declared.replies.EntityTag.{EntityTag}
use Rattle.map_replies.specs.Conditions.{AskView, refuses, needed}
use Rattle.map_replies.specs.Bodies.{CheckedEdit}
use Rattle.map_replies.specs.Meanings.{IfNext, IfAgrees, MeansBody, MeansIf, MeansEdit, MeansChecked, MeansNumbered, MeansNumberedChange, MeansPart, MeansJudged, MeansArchive, MeansTile}
use Rattle.map_replies.specs.Meanings.{MeansBox, MeansPage, MeansList, MeansOnFeature, MeansView, MeansAction, MeansAllowed, MeansMethod, UnlessRefused, looks}
use Rattle.map_replies.specs.Pages.{Entry, looks_from}
use Rattle.map_replies.specs.Preparing.{asks_to_publish, calls_publication, AreMeanwhile, IsMeanwhile}
use Rattle.map_replies.specs.declared.conditions.Needed.{Needed}
use Rattle.map_replies.specs.declared.conditions.Needed.TheVariants.{Free}
use Rattle.map_replies.specs.declared.conditions.Judged.{Judged}
use Rattle.map_replies.specs.declared.conditions.Judged.TheVariants.{Holds, Fails, Unchanged}
use Rattle.map_replies.specs.declared.parts.ArchiveRange.{ArchiveRange}
use Rattle.map_replies.specs.declared.parts.ArchiveRange.TheVariants.{Beyond}
use Rattle.map_replies.specs.Parts.{start_of, archive_tag}
use Rattle.map_replies.specs.Words.{refusal_of}
use Rattle.map_replies.specs.declared.feed.TheConstants.{FEED_BYTES}
use Rattle.map_replies.specs.declared.fault.RequestFault.{RequestFault}
use Rattle.map_replies.specs.declared.fault.RequestFault.TheVariants.{Memory}

-- it is no call of a publication
abbrev pub IsApart : Happening → Type 0
IsApart (begin outcome) = ⊥
IsApart (step outcome) = ⊥
IsApart (cancel outcome) = ⊥
IsApart happening = Unit {0}

abbrev pub AreApart : List Happening → Type 0
AreApart [] = Unit {0}
AreApart (happening ∷ happenings) = IsApart happening × AreApart happenings

pub apart_on : (before after : List Happening) → AreApart before → AreApart after → AreApart (before ++ after)
apart_on [] after a b = b
apart_on (happening ∷ before) after a b = (a.0, apart_on before after a.1 b)

-- what is no call of a publication comes while one goes on
meanwhile_one : (happening : Happening) → IsApart happening → IsMeanwhile happening
meanwhile_one (begin outcome) apart = apart
meanwhile_one (step outcome) apart = absurd apart
meanwhile_one (cancel outcome) apart = apart
meanwhile_one happening apart = tt

pub apart_meanwhile : (happenings : List Happening) → AreApart happenings → AreMeanwhile happenings
apart_meanwhile [] apart = tt
apart_meanwhile (happening ∷ happenings) apart = (meanwhile_one happening apart.0, apart_meanwhile happenings apart.1)

none : (happenings : List Happening) → happenings ≡ [] → AreApart happenings
none happenings is = subst AreApart (sym is) tt

one : (happening : Happening) (happenings : List Happening) → IsApart happening → happenings ≡ happening ∷ [] → AreApart happenings
one happening happenings apart is = subst AreApart (sym is) (apart, tt)

-- ---- looks

looks_apart : (all : List SeenData) (after : List Happening) → AreApart after → AreApart (looks all ++ after)
looks_apart [] after apart = apart
looks_apart (seen ∷ all) after apart = (tt, looks_apart all after apart)

page_apart : (id : ℕ) (es : List Entry) (next : Option Entry) → AreApart (looks_from id es next)
page_apart id [] next = (tt, tt)
page_apart id (e ∷ es) next = (tt, page_apart (e.0 + 1) es next)

-- ---- bodies and conditions

abbrev AllApart : (ReplyView → List Happening → Type 0) → Type 0
AllApart IsMeant = (reply : ReplyView) (happenings : List Happening) → IsMeant reply happenings → AreApart happenings

body_apart : {A : Type 0} (Says : A → Type 0) (Has : RequestFault → Type 0) (IsMeant : A → ReplyView → List Happening → Type 0)
    → ((a : A) → AllApart (IsMeant a)) → AllApart (MeansBody Says Has IsMeant)
body_apart Says Has IsMeant each reply happenings (inl is) = each is.0 reply happenings is.2
body_apart Says Has IsMeant each reply happenings (inr (inl is)) = none happenings is.2.1
body_apart Says Has IsMeant each reply happenings (inr (inr is)) = none happenings is.1

first : (IsMeant : ReplyView → List Happening → Type 0) → AllApart IsMeant → (reply : ReplyView) (happenings : List Happening)
    → IsMeant reply happenings ⊎ ((reply ≡ refusal_of Memory) × (happenings ≡ [])) → AreApart happenings
first IsMeant each reply happenings (inl is) = each reply happenings is
first IsMeant each reply happenings (inr is) = none happenings is.1

if_apart : (n : Needed) (id : ℕ) (IsMeant : ReplyView → List Happening → Type 0) → AllApart IsMeant → AllApart (MeansIf n id IsMeant)
if_apart Free id IsMeant each reply happenings is = each reply happenings is
if_apart n id IsMeant each reply happenings (found, inl is) = subst AreApart (sym is.2) (tt, each reply is.1 is.3)
if_apart n id IsMeant each reply happenings (found, inr is) = one (look id (got found)) happenings tt is.2

-- an edit that is asked for
edit_apart : (failed : Type 0) (call : Call) (e : RecordedEdit) → AllApart (MeansEdit failed (edit call e))
edit_apart failed call e reply happenings is = one (edit call e is.0) happenings tt is.3

-- ---- what is asked for

tile_apart : (tags : Option ℕ) (fields : List NamedValue) (z x y : ℕ) (format : TileFormat) → AllApart (MeansTile tags fields z x y format)
tile_apart None fields z x y format reply happenings is = one (tile z x y is.0) happenings tt is.2
tile_apart (Some start) fields z x y format reply happenings (inl is) = none happenings is.1
tile_apart (Some start) fields z x y format reply happenings (inr (number, inl is)) = one (tile_number z x y number) happenings tt is.2
tile_apart (Some start) fields z x y format reply happenings (inr (number, inr is)) = subst AreApart (sym is.3) (tt, (tt, tt))

feature_apart : (failed : Type 0) (version : ℕ) (n : Needed) (id : ℕ) (method : Method) (body : List ℕ)
    → AllApart (MeansOnFeature failed version n id method body)
feature_apart failed version n id Put body reply happenings is =
    body_apart _ _ _ (λ f. if_apart n id _ (edit_apart failed single (recorded_change version (put id f)))) reply happenings is
feature_apart failed version n id Delete body reply happenings is =
    first _ (if_apart n id _ (edit_apart failed single (recorded_change version (delete id)))) reply happenings is
feature_apart failed version n id Get body reply happenings is = one (look id is.0) happenings tt is.2
feature_apart failed version n id Head body reply happenings is = one (look id is.0) happenings tt is.2
feature_apart failed version n id Post body reply happenings is = one (look id is.0) happenings tt is.2

checked_apart : (failed : Type 0) (version : ℕ) (e : CheckedEdit) → AllApart (MeansChecked failed version e)
checked_apart failed version e reply happenings (inl is) = subst AreApart (sym is.1)
    (looks_apart e.seen is.0 (edit_apart failed batched (recorded_in version e.changes) reply is.0 is.2))
checked_apart failed version e reply happenings (inr is) = subst AreApart (sym is.7)
    (looks_apart is.0 (look is.1.id (got is.3) ∷ []) (tt, tt))

next_apart : (old : Status) (query : List ℕ) (number : ℕ) (IsMeant : ReplyView → List Happening → Type 0) → AllApart IsMeant
    → AllApart (IfNext old number (IfAgrees old query IsMeant))
next_apart old query number IsMeant each reply happenings (inl (next, inl is)) = each reply happenings is.1
next_apart old query number IsMeant each reply happenings (inl (next, inr is)) = none happenings is.1.1
next_apart old query number IsMeant each reply happenings (inr is) = none happenings is.2

numbered_apart : (failed : Type 0) (old : Status) (query : List ℕ) (number : ℕ) (cs : EditData) → AllApart (MeansNumbered failed old query number cs)
numbered_apart failed old query number cs reply happenings is =
    next_apart old query number _ (edit_apart failed batched (recorded_in old.version cs)) reply happenings is

numbered_put_apart : (failed : Type 0) (old : Status) (query : List ℕ) (n : Needed) (id number : ℕ) (f : FeatureData)
    → AllApart (MeansNumberedChange failed old query n id number f)
numbered_put_apart failed old query n id number f reply happenings is =
    next_apart old query number _ (if_apart n id _ (edit_apart failed single (recorded_change old.version (put id f)))) reply happenings is

part_apart : (failed : Type 0) (total : ℕ) (tag : Option Tag) (part : ArchiveRange) → AllApart (MeansPart failed total tag part)
part_apart failed total tag Beyond reply happenings is = none happenings is.1
part_apart failed total tag part reply happenings is = one (read (start_of part) is.0) happenings tt is.4

judged_apart : (failed : Type 0) (total : ℕ) (tag : Option Tag) (judged : Judged) (range : Option (List ℕ))
    → AllApart (MeansJudged failed total tag judged range)
judged_apart failed total tag Fails range reply happenings is = none happenings is.1
judged_apart failed total tag Unchanged range reply happenings is = none happenings is.1
judged_apart failed total tag Holds range reply happenings is = part_apart failed total tag is.0 reply happenings is.2

archive_apart : (failed : Type 0) (tag : EntityTag) (method : Method) (ask : AskView) → AllApart (MeansArchive failed tag method ask)
archive_apart failed tag method ask reply happenings (inl is) = none happenings is.1.1
archive_apart failed tag method ask reply happenings (inr is) = judged_apart failed tag.length _ _ _ reply happenings is.1

view_apart : (failed : Type 0) (old : Status) (new : StatusView) (view : View) (method : Method) (ask : AskView) → AllApart (MeansView failed old new view method ask)
view_apart failed old new views.Metadata method ask reply happenings is = one (metadata is.0) happenings tt is.2
view_apart failed old new views.Archive method ask reply happenings is =
    first _ (archive_apart failed (archive_tag old) method ask) reply happenings is
view_apart failed old new views.Status method ask reply happenings (inl is) = one (check is.2.0) happenings tt is.2.3
view_apart failed old new views.Status method ask reply happenings (inr is) = none happenings is.1

action_apart : (failed : Type 0) (old : Status) (new : StatusView) (action : Action) (body : List ℕ) → asks_to_publish (asked_action action) ≡ false
    → AllApart (MeansAction failed old new action body)
action_apart failed old new actions.Edits body other reply happenings is =
    body_apart _ _ _ (λ cs. edit_apart failed batched (recorded_in old.version cs)) reply happenings is
action_apart failed old new actions.CheckedEdits body other reply happenings is =
    body_apart _ _ _ (checked_apart failed old.version) reply happenings is
action_apart failed old new actions.Publish body other reply happenings is = absurd (false≢true (sym other))
action_apart failed old new actions.PublishBegin body other reply happenings is = absurd (false≢true (sym other))
action_apart failed old new actions.PublishStep body other reply happenings is = absurd (false≢true (sym other))
action_apart failed old new actions.PublishCancel body other reply happenings is = absurd (false≢true (sym other))

listed_apart : (failed : Type 0) (old : Status) (number : ℕ) → AllApart (MeansList failed old number)
listed_apart failed old number reply happenings (inl is) = none happenings is.1.1
listed_apart failed old number reply happenings (inr (inl is)) = none happenings is.1.1
listed_apart failed old number reply happenings (inr (inr is)) = one (list_edits number FEED_BYTES is.2.0) happenings tt is.2.2

features_apart : (id : ℕ) → AllApart (MeansPage id)
features_apart id reply happenings (inl is) = none happenings is.1
features_apart id reply happenings (inr is) = subst AreApart (sym is.4) (page_apart id is.0 is.1)

box_apart : (bounds : WorldBox) (id : ℕ) → AllApart (MeansBox bounds id)
box_apart bounds id reply happenings (inl is) = none happenings is.1
box_apart bounds id reply happenings (inr is) = subst AreApart (sym is.4) (page_apart id is.0 is.1)

allowed_apart : (failed : Type 0) (old : Status) (new : StatusView) (asked : Asked) (method : Method) (ask : AskView) (body : List ℕ)
    → asks_to_publish asked ≡ false → AllApart (MeansAllowed failed old new asked method ask body)
allowed_apart failed old new (asked_tile z x y format) method ask body other reply happenings is =
    tile_apart ask.tags ask.fields z x y format reply happenings is
allowed_apart failed old new (asked_feature id) method ask body other reply happenings is =
    feature_apart failed old.version (needed ask) id method body reply happenings is
allowed_apart failed old new (asked_from id) method ask body other reply happenings is = one (look_from id is.0) happenings tt is.2
allowed_apart failed old new (asked_page id) method ask body other reply happenings is = features_apart id reply happenings is
allowed_apart failed old new (asked_box bounds id) method ask body other reply happenings is = box_apart bounds id reply happenings is
allowed_apart failed old new (asked_edits number) method ask body other reply happenings is = listed_apart failed old number reply happenings is
allowed_apart failed old new (asked_numbered number) method ask body other reply happenings is =
    body_apart _ _ _ (numbered_apart failed old ask.query number) reply happenings is
allowed_apart failed old new (asked_numbered_feature id number) method ask body other reply happenings is =
    body_apart _ _ _ (numbered_put_apart failed old ask.query (needed ask) id number) reply happenings is
allowed_apart failed old new (asked_view view) method ask body other reply happenings is = view_apart failed old new view method ask reply happenings is
allowed_apart failed old new (asked_action action) method ask body other reply happenings is =
    action_apart failed old new action body other reply happenings is
allowed_apart failed old new asked_nothing method ask body other reply happenings is = none happenings is.1

unless_apart : (refused asks : Bool) (IsMeant : ReplyView → List Happening → Type 0) → (asks ≡ false → AllApart IsMeant) → not refused && asks ≡ false
    → AllApart (UnlessRefused refused IsMeant)
unless_apart true asks IsMeant each unasked reply happenings is = none happenings is.1
unless_apart false asks IsMeant each unasked reply happenings is = each unasked reply happenings is

-- whatever the method
pub method_apart : (failed : Type 0) (old : Status) (new : StatusView) (asked : Asked) (method : Result Method RouteFault) (ask : AskView) (body : List ℕ)
    → calls_publication asked method ask ≡ false → (reply : ReplyView) (happenings : List Happening)
    → MeansMethod failed old new asked method ask body reply happenings → AreApart happenings
method_apart failed old new asked (Ok method) ask body other reply happenings is =
    unless_apart (refuses (needed ask) method) (asks_to_publish asked) (MeansAllowed failed old new asked method ask body)
    (allowed_apart failed old new asked method ask body) other reply happenings is
method_apart failed old new asked (Err routes.NotFound) ask body other reply happenings is = none happenings is.1
method_apart failed old new asked (Err routes.NotAllowed) ask body other reply happenings is = none happenings is.1
