-- A reply to a request that asks for no edit reports none.
use Rattle.std.proofs.Common.{map, ◌≡◌, inl, inr, ◌⊎◌, ◌+◌, ℕ, List, [], ◌∷◌, ◌++◌, Bool}
use Rattle.std.proofs.Common.{true, false, Option, Some, None, Result, Ok, Err, refl, sym, subst, ◌∙◌}
use Rattle.std.specs.Prelude.{◌&&◌}
use Rattle.std.proofs.lemmas.Bool.{false≢true}
use Rattle.http_serve.specs.Reply.{ReplyView}
use Rattle.tile_routes.specs.declared.method.Method.{Method}
use Rattle.tile_routes.specs.declared.method.Method.TheVariants.{Get, Head, Post, Put, Delete}
use Rattle.tile_routes.specs.declared.fault.RouteFault.{RouteFault}
use Rattle.tile_routes.specs.declared.fault.RouteFault.TheVariants as routes
use Rattle.tile_routes.specs.declared.target.Action.{Action}
use Rattle.tile_routes.specs.declared.target.Action.TheVariants as actions
use Rattle.tile_routes.specs.declared.target.View.{View}
use Rattle.tile_routes.specs.declared.target.View.TheVariants as views
use Rattle.tile_routes.specs.declared.target.TileFormat.{TileFormat}
use Rattle.tile_routes.specs.Paths.{Asked, asked_tile, asked_feature, asked_from, asked_page, asked_edits, asked_numbered, asked_view, asked_action}
use Rattle.tile_routes.specs.Paths.{asked_box, asked_numbered_feature, asked_nothing}
use Rattle.feature_model.specs.declared.feature.WorldBox.{WorldBox}
use Rattle.tile_service.specs.Machine.{Happening, edit, begin, step, cancel, check}
use Rattle.tile_service.specs.Machine.{tile, tile_number, look, look_from, metadata, read, list_edits}
use Rattle.tile_service.specs.Service.{StatusView}
use Rattle.tile_service.specs.declared.status.Status.{Status}
use Rattle.http_requests.specs.Fields.{NamedValue}
use Rattle.http_serve.specs.declared.replies.Tag.{Tag}
use Rattle.http_serve.specs.declared.replies.EntityTag.{EntityTag}
use Rattle.map_replies.specs.Conditions.{AskView, refuses, needed}
use Rattle.map_replies.specs.Meanings.{MeansPart, MeansJudged, MeansArchive, MeansTile, last_outcome}
use Rattle.map_replies.specs.Meanings.{MeansBox, MeansPage, MeansList, MeansOnFeature, MeansView, MeansAction, MeansAllowed, MeansMethod, UnlessRefused}
use Rattle.map_replies.specs.Pages.{Entry, looks_from}
use Rattle.map_replies.specs.Confirming.{asks_to_edit, puts, posts, is_edit}
use Rattle.tile_routes.specs.Methods.{method_on}
use Rattle.tile_service.specs.Runs.{begin_and_steps}
use Rattle.tile_service.specs.declared.fault.ServiceFault.{ServiceFault}
use Rattle.map_replies.proofs.OneMethod.{numbered_posts, numbered_puts, action_posts}
use Rattle.map_replies.specs.declared.conditions.Judged.{Judged}
use Rattle.map_replies.specs.declared.conditions.Judged.TheVariants.{Holds, Fails, Unchanged}
use Rattle.map_replies.specs.declared.parts.ArchiveRange.{ArchiveRange}
use Rattle.map_replies.specs.declared.parts.ArchiveRange.TheVariants.{Beyond}
use Rattle.map_replies.specs.Parts.{start_of, archive_tag}
use Rattle.map_replies.specs.Words.{refusal_of}
use Rattle.map_replies.specs.declared.feed.TheConstants.{FEED_BYTES}
use Rattle.map_replies.specs.declared.fault.RequestFault.TheVariants.{Memory}

-- it asks for no edit
abbrev pub IsQuiet : Happening → Type 0
IsQuiet (edit call e outcome) = ⊥
IsQuiet happening = Unit {0}

abbrev pub AreQuiet : List Happening → Type 0
AreQuiet [] = Unit {0}
AreQuiet (happening ∷ happenings) = IsQuiet happening × AreQuiet happenings

pub steps_quiet : (outcomes : List (Result ℕ ServiceFault)) → AreQuiet (map step outcomes)
steps_quiet [] = tt
steps_quiet (outcome ∷ outcomes) = (tt, steps_quiet outcomes)

publication_quiet : (outcomes : List (Result ℕ ServiceFault)) → AreQuiet (begin_and_steps outcomes)
publication_quiet [] = tt
publication_quiet (outcome ∷ outcomes) = (tt, steps_quiet outcomes)

unasked : (action : Action) (method : Method) → posts (Ok method) ≡ true → is_edit action && posts (Ok method) ≡ false → is_edit action ≡ false
unasked action method on other = by (is_edit action) (posts (Ok method)) on other
  where
    by : (edits posted : Bool) → posted ≡ true → edits && posted ≡ false → edits ≡ false
    by false posted on other = refl
    by true posted on other = absurd (false≢true (sym other ∙ on))

-- a page is looks
page_quiet : (id : ℕ) (es : List Entry) (next : Option Entry) → AreQuiet (looks_from id es next)
page_quiet id [] next = (tt, tt)
page_quiet id (e ∷ es) next = (tt, page_quiet (e.0 + 1) es next)

abbrev AllQuiet : (ReplyView → List Happening → Type 0) → Type 0
AllQuiet IsMeant = (reply : ReplyView) (happenings : List Happening) → IsMeant reply happenings → AreQuiet happenings

none : (happenings : List Happening) → happenings ≡ [] → AreQuiet happenings
none happenings is = subst AreQuiet (sym is) tt

some : (happenings are : List Happening) → AreQuiet are → happenings ≡ are → AreQuiet happenings
some happenings are quiet is = subst AreQuiet (sym is) quiet

or_memory : (IsMeant : ReplyView → List Happening → Type 0) → AllQuiet IsMeant → (reply : ReplyView) (happenings : List Happening)
    → IsMeant reply happenings ⊎ ((reply ≡ refusal_of Memory) × (happenings ≡ [])) → AreQuiet happenings
or_memory IsMeant each reply happenings (inl is) = each reply happenings is
or_memory IsMeant each reply happenings (inr is) = none happenings is.1

-- ---- what is only shown

tile_quiet : (tags : Option ℕ) (fields : List NamedValue) (z x y : ℕ) (format : TileFormat) → AllQuiet (MeansTile tags fields z x y format)
tile_quiet None fields z x y format reply happenings is = some happenings (tile z x y is.0 ∷ []) (tt, tt) is.2
tile_quiet (Some start) fields z x y format reply happenings (inl is) = none happenings is.1
tile_quiet (Some start) fields z x y format reply happenings (inr (number, inl is)) =
    some happenings (tile_number z x y number ∷ []) (tt, tt) is.2
tile_quiet (Some start) fields z x y format reply happenings (inr (number, inr is)) =
    some happenings (tile_number z x y number ∷ tile z x y is.1 ∷ []) (tt, (tt, tt)) is.3

part_quiet : (failed : Type 0) (total : ℕ) (tag : Option Tag) (part : ArchiveRange) → AllQuiet (MeansPart failed total tag part)
part_quiet failed total tag Beyond reply happenings is = none happenings is.1
part_quiet failed total tag part reply happenings is = some happenings (read (start_of part) is.0 ∷ []) (tt, tt) is.4

judged_quiet : (failed : Type 0) (total : ℕ) (tag : Option Tag) (judged : Judged) (range : Option (List ℕ))
    → AllQuiet (MeansJudged failed total tag judged range)
judged_quiet failed total tag Fails range reply happenings is = none happenings is.1
judged_quiet failed total tag Unchanged range reply happenings is = none happenings is.1
judged_quiet failed total tag Holds range reply happenings is = part_quiet failed total tag is.0 reply happenings is.2

archive_quiet : (failed : Type 0) (tag : EntityTag) (method : Method) (ask : AskView) → AllQuiet (MeansArchive failed tag method ask)
archive_quiet failed tag method ask reply happenings (inl is) = none happenings is.1.1
archive_quiet failed tag method ask reply happenings (inr is) = judged_quiet failed tag.length _ _ _ reply happenings is.1

view_quiet : (failed : Type 0) (old : Status) (new : StatusView) (view : View) (method : Method) (ask : AskView) → AllQuiet (MeansView failed old new view method ask)
view_quiet failed old new views.Metadata method ask reply happenings is = some happenings (metadata is.0 ∷ []) (tt, tt) is.2
view_quiet failed old new views.Archive method ask reply happenings is =
    or_memory _ (archive_quiet failed (archive_tag old) method ask) reply happenings is
view_quiet failed old new views.Status method ask reply happenings (inl is) = some happenings (check is.2.0 ∷ []) (tt, tt) is.2.3
view_quiet failed old new views.Status method ask reply happenings (inr is) = none happenings is.1

listed_quiet : (failed : Type 0) (old : Status) (number : ℕ) → AllQuiet (MeansList failed old number)
listed_quiet failed old number reply happenings (inl is) = none happenings is.1.1
listed_quiet failed old number reply happenings (inr (inl is)) = none happenings is.1.1
listed_quiet failed old number reply happenings (inr (inr is)) = some happenings (list_edits number FEED_BYTES is.2.0 ∷ []) (tt, tt) is.2.2

features_quiet : (id : ℕ) → AllQuiet (MeansPage id)
features_quiet id reply happenings (inl is) = none happenings is.1
features_quiet id reply happenings (inr is) = some happenings (looks_from id is.0 is.1) (page_quiet id is.0 is.1) is.4

box_quiet : (bounds : WorldBox) (id : ℕ) → AllQuiet (MeansBox bounds id)
box_quiet bounds id reply happenings (inl is) = none happenings is.1
box_quiet bounds id reply happenings (inr is) = some happenings (looks_from id is.0 is.1) (page_quiet id is.0 is.1) is.4

feature_quiet : (failed : Type 0) (version : ℕ) (ask : AskView) (id : ℕ) (method : Method) (body : List ℕ) → puts (Ok method) ≡ false
    → AllQuiet (MeansOnFeature failed version (needed ask) id method body)
feature_quiet failed version ask id Put body other reply happenings is = absurd (false≢true (sym other))
feature_quiet failed version ask id Delete body other reply happenings is = absurd (false≢true (sym other))
feature_quiet failed version ask id Get body other reply happenings is = some happenings (look id is.0 ∷ []) (tt, tt) is.2
feature_quiet failed version ask id Head body other reply happenings is = some happenings (look id is.0 ∷ []) (tt, tt) is.2
feature_quiet failed version ask id Post body other reply happenings is = some happenings (look id is.0 ∷ []) (tt, tt) is.2

-- ---- actions

action_quiet : (failed : Type 0) (old : Status) (new : StatusView) (action : Action) (body : List ℕ) → is_edit action ≡ false
    → AllQuiet (MeansAction failed old new action body)
action_quiet failed old new actions.Edits body other reply happenings is = absurd (false≢true (sym other))
action_quiet failed old new actions.CheckedEdits body other reply happenings is = absurd (false≢true (sym other))
action_quiet failed old new actions.Publish body other reply happenings (inl is) =
    some happenings (begin_and_steps (is.4 ++ last_outcome is.0 ∷ [])) (publication_quiet (is.4 ++ last_outcome is.0 ∷ [])) is.6
action_quiet failed old new actions.Publish body other reply happenings (inr is) = none happenings is.1
action_quiet failed old new actions.PublishBegin body other reply happenings (inl is) = some happenings (begin is.0 ∷ []) (tt, tt) is.2
action_quiet failed old new actions.PublishBegin body other reply happenings (inr is) = none happenings is.1
action_quiet failed old new actions.PublishStep body other reply happenings (inl is) = some happenings (step is.0 ∷ []) (tt, tt) is.3
action_quiet failed old new actions.PublishStep body other reply happenings (inr is) = none happenings is.1
action_quiet failed old new actions.PublishCancel body other reply happenings (inl is) = some happenings (cancel is.0 ∷ []) (tt, tt) is.2
action_quiet failed old new actions.PublishCancel body other reply happenings (inr is) = none happenings is.1

-- ---- whatever is asked for

allowed_quiet : (failed : Type 0) (old : Status) (new : StatusView) (asked : Asked) (name : List ℕ) (method : Method) (ask : AskView) (body : List ℕ)
    → Ok method ≡ method_on name asked → asks_to_edit asked (Ok method) ≡ false
    → (reply : ReplyView) (happenings : List Happening) → MeansAllowed failed old new asked method ask body reply happenings
    → AreQuiet happenings
allowed_quiet failed old new (asked_tile z x y format) name method ask body on asks reply happenings is =
    tile_quiet ask.tags ask.fields z x y format reply happenings is
allowed_quiet failed old new (asked_feature id) name method ask body on other reply happenings is =
    feature_quiet failed old.version ask id method body other reply happenings is
allowed_quiet failed old new (asked_from id) name method ask body on asks reply happenings is =
    some happenings (look_from id is.0 ∷ []) (tt, tt) is.2
allowed_quiet failed old new (asked_page id) name method ask body on asks reply happenings is =
    features_quiet id reply happenings is
allowed_quiet failed old new (asked_box bounds id) name method ask body on asks reply happenings is =
    box_quiet bounds id reply happenings is
allowed_quiet failed old new (asked_edits number) name method ask body on asks reply happenings is =
    listed_quiet failed old number reply happenings is
allowed_quiet failed old new (asked_numbered number) name method ask body on other reply happenings is =
    absurd (false≢true (sym other ∙ numbered_posts name number method on))
allowed_quiet failed old new (asked_numbered_feature id number) name method ask body on other reply happenings is =
    absurd (false≢true (sym other ∙ numbered_puts name id number method on))
allowed_quiet failed old new (asked_view view) name method ask body on asks reply happenings is =
    view_quiet failed old new view method ask reply happenings is
allowed_quiet failed old new (asked_action action) name method ask body on other reply happenings is =
    action_quiet failed old new action body (unasked action method (action_posts name action method on) other) reply happenings is
allowed_quiet failed old new asked_nothing name method ask body on asks reply happenings is = none happenings is.1

unless_quiet : (refused : Bool) (IsMeant : ReplyView → List Happening → Type 0) (reply : ReplyView) (happenings : List Happening)
    → (IsMeant reply happenings → AreQuiet happenings) → UnlessRefused refused IsMeant reply happenings
    → AreQuiet happenings
unless_quiet true IsMeant reply happenings each is = none happenings is.1
unless_quiet false IsMeant reply happenings each is = each is

-- whatever the method
pub means_quiet : (failed : Type 0) (old : Status) (new : StatusView) (asked : Asked) (name : List ℕ) (method : Result Method RouteFault) (ask : AskView)
    (body : List ℕ) → method ≡ method_on name asked → asks_to_edit asked method ≡ false → (reply : ReplyView) (happenings : List Happening)
    → MeansMethod failed old new asked method ask body reply happenings → AreQuiet happenings
means_quiet failed old new asked name (Ok method) ask body on asks reply happenings is =
    unless_quiet (refuses (needed ask) method) (MeansAllowed failed old new asked method ask body) reply happenings
    (allowed_quiet failed old new asked name method ask body on asks reply happenings) is
means_quiet failed old new asked name (Err routes.NotFound) ask body on asks reply happenings is = none happenings is.1
means_quiet failed old new asked name (Err routes.NotAllowed) ask body on asks reply happenings is = none happenings is.1
