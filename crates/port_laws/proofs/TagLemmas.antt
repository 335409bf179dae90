-- Replies with equal tags for one tile.
use Rattle.std.proofs.Common.{◌≡◌, ◌∙◌, ◌⊎◌, inl, inr, ℕ, Bool, true, false, List, [], ◌∷◌, Option, Some, None, Result, Ok, Err, refl, sym, ap, subst}
use Rattle.feature_store.specs.Layers.{layers}
use Rattle.http_requests.specs.Fields.{NamedValue}
use Rattle.http_requests.specs.Requests.{RequestView}
use Rattle.http_serve.specs.Reply.{ReplyView}
use Rattle.http_serve.specs.declared.replies.Tag.{Tag}
use Rattle.http_serve.specs.declared.replies.Tag.TheVariants.{Weak}
use Rattle.http_serve.specs.declared.replies.WeakTag.{WeakTag}
use Rattle.sector_disk.specs.Disk.{History}
use Rattle.tile_routes.specs.Methods.{method_on}
use Rattle.tile_routes.specs.Paths.{Asked, asked_tile}
use Rattle.tile_routes.specs.declared.access.Access.{Access}
use Rattle.tile_routes.specs.declared.fault.RouteFault.{RouteFault}
use Rattle.tile_routes.specs.declared.fault.RouteFault.TheVariants as routes
use Rattle.tile_routes.specs.declared.method.Method.{Method}
use Rattle.tile_routes.specs.declared.target.TileFormat.{TileFormat}
use Rattle.tile_service.specs.Machine.{OrMemory, got, no_memory, Happening, tile, tile_number}
use Rattle.tile_service.specs.Runs.{TakesAll, TakesRun}
use Rattle.tile_service.specs.Service.{ServiceView, status_of, status_view}
use Rattle.tile_service.specs.Tags.{TellsNumber}
use Rattle.tile_service.proofs.Tiles.Tags.{knows_all, knows_on, same_layers}
use Rattle.service_laws.specs.Inside.{IsInside}
use Rattle.service_laws.specs.Moments.{TakesBetweenReads}
use Rattle.service_laws.proofs.PortNumbers.{knows_run, same_inside}
use Rattle.map_replies.specs.Conditions.{AskView, ask_of, needed, refuses}
use Rattle.map_replies.specs.Meanings.{MeansMethod, MeansTagged, UnlessRefused, Replies, asked_for, DiskFailed}
use Rattle.map_replies.specs.Words.{shown_reply, tagged_reply}

none_is_some : {A : Type 0} {a : A} → ◌≡◌ {A = Option A} None (Some a) → ⊥
none_is_some is = cc

same_some : {A : Type 0} {a b : A} → Some a ≡ Some b → a ≡ b
same_some is = cc

same_weak : (a b : WeakTag) → Weak a ≡ Weak b → a ≡ b
same_weak a b is = cc

module _ {D : Type 0} (sectors : D → ℕ) (honest : D → Type 0) (history : D → History) (faults : D → ℕ) where
  -- the number of the tile was told first
  told_first : (old new : ServiceView D) (z x y n : ℕ) (happenings rest : List Happening) → happenings ≡ tile_number z x y n ∷ rest
      → TakesAll sectors honest history old happenings new → TellsNumber old z x y n
  told_first old new z x y n happenings rest is takes =
      (subst (λ (l : List Happening). TakesAll sectors honest history old l new) is takes).1.numbered

  -- a reply that has a tag tells the number of its tile
  abbrev Told : (start z x y : ℕ) → ServiceView D → Tag → Type 0
  Told start z x y old tag = (n : ℕ) × (tag ≡ Weak (record { start = start; number = n })) × TellsNumber old z x y n

  tag_shown : (format : TileFormat) (tag : WeakTag) (outcome : OrMemory (Option (List ℕ))) (reply : ReplyView) (is : Tag)
      → reply ≡ shown_reply (tagged_reply format tag) outcome → reply.tag ≡ Some is → is ≡ Weak tag
  tag_shown format tag (got content) reply is shown has = same_some (sym has ∙ ap (λ (r : ReplyView). r.tag) shown)
  tag_shown format tag no_memory reply is shown has = absurd (none_is_some (sym (ap (λ (r : ReplyView). r.tag) shown) ∙ has))

  told_tagged : (start : ℕ) (fields : List NamedValue) (z x y : ℕ) (format : TileFormat) (old new : ServiceView D) (reply : ReplyView) (tag : Tag)
      (happenings : List Happening) → MeansTagged start fields z x y format reply happenings → TakesAll sectors honest history old happenings new
      → reply.tag ≡ Some tag → Told start z x y old tag
  told_tagged start fields z x y format old new reply tag happenings (inl refused) takes has =
      absurd (none_is_some (sym (ap (λ (r : ReplyView). r.tag) refused.0) ∙ has))
  told_tagged start fields z x y format old new reply tag happenings (inr (n, inl same)) takes has =
      (n, same_some (sym has ∙ ap (λ (r : ReplyView). r.tag) same.1), told_first old new z x y n happenings [] same.2 takes)
  told_tagged start fields z x y format old new reply tag happenings (inr (n, inr shown)) takes has = (
    n,
    tag_shown format (record { start = start; number = n }) shown.1 reply tag shown.2 has,
    told_first old new z x y n happenings (tile z x y shown.1 ∷ []) shown.3 takes,
  )

  told_by : (start z x y : ℕ) (format : TileFormat) (old new : ServiceView D) (request : RequestView) (reply : ReplyView) (tag : Tag)
      (happenings : List Happening) (method : Result Method RouteFault)
      → MeansMethod (DiskFailed faults old new) (status_of old) (status_view new) (asked_tile z x y format) method (ask_of (Some start) request)
      request.body reply happenings
      → TakesAll sectors honest history old happenings new → reply.tag ≡ Some tag → Told start z x y old tag
  told_by start z x y format old new request reply tag happenings (Ok method) means takes has =
      by (refuses (needed (ask_of (Some start) request)) method) means
    where
      by : (refused : Bool) → UnlessRefused refused (MeansTagged start request.fields z x y format) reply happenings → Told start z x y old tag
      by true refused = absurd (none_is_some (sym (ap (λ (r : ReplyView). r.tag) refused.0) ∙ has))
      by false shown = told_tagged start request.fields z x y format old new reply tag happenings shown takes has
  told_by start z x y format old new request reply tag happenings (Err routes.NotFound) means takes has =
      absurd (none_is_some (sym (ap (λ (r : ReplyView). r.tag) means.0) ∙ has))
  told_by start z x y format old new request reply tag happenings (Err routes.NotAllowed) means takes has =
      absurd (none_is_some (sym (ap (λ (r : ReplyView). r.tag) means.0) ∙ has))

  told : (access : Access) (start z x y : ℕ) (format : TileFormat) (old new : ServiceView D) (request : RequestView) (reply : ReplyView) (tag : Tag)
      → Replies sectors honest history faults access (Some start) old request reply new → asked_for access request ≡ asked_tile z x y format
      → reply.tag ≡ Some tag → Told start z x y old tag
  told access start z x y format old new request reply tag (happenings, means, takes) asked has =
      told_by start z x y format old new request reply tag happenings (method_on request.method (asked_tile z x y format))
      (subst (λ (a : Asked). MeansMethod (DiskFailed faults old new) (status_of old) (status_view new) a (method_on request.method a)
      (ask_of (Some start) request) request.body reply happenings) asked means)
      takes has

  pub equal_tags : (access : Access) (start : ℕ) (first between second after : ServiceView D) (run : List Happening) (one other : RequestView)
      (reply again : ReplyView) (tag : Tag) (z x y : ℕ) (f g : TileFormat)
      → Replies sectors honest history faults access (Some start) first one reply between → TakesRun sectors honest history between run second
      → Replies sectors honest history faults access (Some start) second other again after
      → asked_for access one ≡ asked_tile z x y f → asked_for access other ≡ asked_tile z x y g → reply.tag ≡ Some tag → again.tag ≡ Some tag
      → layers second.features z x y ≡ layers first.features z x y
  equal_tags access start first between second after run one other reply again tag z x y f g replies takes more asked other_asked has other_has =
      let old = told access start z x y f first between one reply tag replies asked has in
      let new = told access start z x y g second after other again tag more other_asked other_has in
      let same : new.0 ≡ old.0 = ap (λ (t : WeakTag). t.number) (same_weak _ _ (sym new.1 ∙ old.1)) in
      same_layers first second z x y old.0 old.2
      (knows_on first between second (knows_all sectors honest history first replies.0 between replies.2) takes.knows)
      (subst (λ (n : ℕ). TellsNumber second z x y n) same new.2).is

  pub equal_inside : (access : Access) (start : ℕ) (first between second after : ServiceView D) (run : List Happening) (one other : RequestView)
      (reply again : ReplyView) (tag : Tag) (z x y : ℕ) (f g : TileFormat)
      → Replies sectors honest history faults access (Some start) first one reply between → TakesBetweenReads sectors honest history between run second
      → Replies sectors honest history faults access (Some start) second other again after
      → asked_for access one ≡ asked_tile z x y f → asked_for access other ≡ asked_tile z x y g → reply.tag ≡ Some tag → again.tag ≡ Some tag
      → (inner_z inner_x inner_y : ℕ) → IsInside z x y inner_z inner_x inner_y
      → layers second.features inner_z inner_x inner_y ≡ layers first.features inner_z inner_x inner_y
  equal_inside access start first between second after run one other reply again tag z x y f g replies takes more asked other_asked has other_has
      inner_z inner_x inner_y inside =
      let then = told access start z x y f first between one reply tag replies asked has in
      let now = told access start z x y g second after other again tag more other_asked other_has in
      let same : now.0 ≡ then.0 = ap (λ (t : WeakTag). t.number) (same_weak _ _ (sym now.1 ∙ then.1)) in
      same_inside first second z x y then.0 inner_z inner_x inner_y then.2
      (knows_on first between second (knows_all sectors honest history first replies.0 between replies.2)
      (knows_run sectors honest history between second run takes))
      (subst (λ (n : ℕ). TellsNumber second z x y n) same now.2).is inside
