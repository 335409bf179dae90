-- Paths that one method is for.
use Rattle.std.proofs.Common.{◌≡◌, ℕ, List, [], ◌∷◌, Bool, true, false, Option, Some, None, Result, Ok, Err, refl, sym, ap, ◌∙◌}
use Rattle.std.specs.Prelude.{if◌then◌else◌}
use Rattle.tile_routes.specs.declared.fault.RouteFault.{RouteFault}
use Rattle.tile_routes.specs.declared.fault.RouteFault.TheVariants.{NotAllowed}
use Rattle.tile_routes.specs.declared.method.Method.{Method}
use Rattle.tile_routes.specs.declared.method.Method.TheVariants.{Get, Head, Put, Delete, Post}
use Rattle.tile_routes.specs.Methods.{name_of, is_among, if_allowed, method_named, method_on}
use Rattle.tile_routes.specs.Paths.{asked_numbered, asked_numbered_feature, asked_action}
use Rattle.tile_routes.specs.declared.target.Action.{Action}
use Rattle.map_replies.specs.Confirming.{puts, posts}

abbrev is_allowed : Result Method RouteFault → Bool
is_allowed (Ok method) = true
is_allowed (Err fault) = false

-- among the methods of these paths it is the one
allowed_posts : (method : Method) → posts (if is_among (Post ∷ []) method then Ok method else Err NotAllowed)
    ≡ is_allowed (if is_among (Post ∷ []) method then Ok method else Err NotAllowed)
unfolding name_of
allowed_posts Get = refl
allowed_posts Head = refl
allowed_posts Put = refl
allowed_posts Delete = refl
allowed_posts Post = refl

named_posts : (method : Option Method) (number : ℕ) → posts (if_allowed (asked_numbered number) method)
    ≡ is_allowed (if_allowed (asked_numbered number) method)
named_posts None number = refl
named_posts (Some method) number = allowed_posts method

acted_posts : (method : Option Method) (action : Action) → posts (if_allowed (asked_action action) method)
    ≡ is_allowed (if_allowed (asked_action action) method)
acted_posts None action = refl
acted_posts (Some method) action = allowed_posts method

-- a method that these paths allow is POST
pub numbered_posts : (name : List ℕ) (number : ℕ) (method : Method) → Ok method ≡ method_on name (asked_numbered number) → posts (Ok method) ≡ true
numbered_posts name number method is = ap posts is ∙ named_posts (method_named name) number ∙ ap is_allowed (sym is)

pub action_posts : (name : List ℕ) (action : Action) (method : Method) → Ok method ≡ method_on name (asked_action action) → posts (Ok method) ≡ true
action_posts name action method is = ap posts is ∙ acted_posts (method_named name) action ∙ ap is_allowed (sym is)

-- and there PUT is the only one
allowed_puts : (method : Method) → puts (if is_among (Put ∷ []) method then Ok method else Err NotAllowed)
    ≡ is_allowed (if is_among (Put ∷ []) method then Ok method else Err NotAllowed)
unfolding name_of
allowed_puts Get = refl
allowed_puts Head = refl
allowed_puts Put = refl
allowed_puts Delete = refl
allowed_puts Post = refl

named_puts : (method : Option Method) (id number : ℕ) → puts (if_allowed (asked_numbered_feature id number) method)
    ≡ is_allowed (if_allowed (asked_numbered_feature id number) method)
named_puts None id number = refl
named_puts (Some method) id number = allowed_puts method

pub numbered_puts : (name : List ℕ) (id number : ℕ) (method : Method) → Ok method ≡ method_on name (asked_numbered_feature id number)
    → puts (Ok method) ≡ true
numbered_puts name id number method is = ap puts is ∙ named_puts (method_named name) id number ∙ ap is_allowed (sym is)
