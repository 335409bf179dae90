-- The methods that a path allows (RFC 9110, 9.1).
use Rattle.std.specs.Prelude.{ℕ, Bool, nat_eq, List, [], ◌∷◌, codes, Option, Some, None, Result, Ok, Err, if◌then◌else◌}
use Rattle.std.specs.List.{find, join_by, list_any}
use Rattle.std.specs.Cmp.Lexicographic.{pointwise}
use Rattle.tile_routes.specs.declared.fault.RouteFault.{RouteFault}
use Rattle.tile_routes.specs.declared.fault.RouteFault.TheVariants.{NotFound, NotAllowed}
use Rattle.tile_routes.specs.declared.method.Method.{Method}
use Rattle.tile_routes.specs.declared.method.Method.TheVariants.{Get, Head, Put, Delete, Post}
use Rattle.tile_routes.specs.Paths.{Asked, asked_tile, asked_feature, asked_from, asked_page, asked_edits, asked_numbered, asked_view, asked_action}
use Rattle.tile_routes.specs.Paths.{asked_box, asked_numbered_feature, asked_nothing}

-- a method's name in a request's first line
unfoldable pub name_of : Method → List ℕ
name_of Get = codes "GET"
name_of Head = codes "HEAD"
name_of Put = codes "PUT"
name_of Delete = codes "DELETE"
name_of Post = codes "POST"

abbrev pub has_name : List ℕ → Method → Bool
has_name name method = pointwise nat_eq name (name_of method)

-- the methods that some path allows
abbrev pub methods : List Method
methods = Get ∷ Head ∷ Put ∷ Delete ∷ Post ∷ []

-- the one with this name, byte for byte
abbrev pub method_named : List ℕ → Option Method
method_named name = find (has_name name) methods

-- the methods that a path allows; where GET is, HEAD is
abbrev pub methods_of : Asked → List Method
methods_of (asked_tile z x y format) = Get ∷ Head ∷ []
methods_of (asked_feature id) = Get ∷ Head ∷ Put ∷ Delete ∷ []
methods_of (asked_from id) = Get ∷ Head ∷ []
methods_of (asked_page id) = Get ∷ Head ∷ []
methods_of (asked_box bounds id) = Get ∷ Head ∷ []
methods_of (asked_edits number) = Get ∷ Head ∷ []
methods_of (asked_numbered number) = Post ∷ []
methods_of (asked_numbered_feature id number) = Put ∷ []
methods_of (asked_view view) = Get ∷ Head ∷ []
methods_of (asked_action action) = Post ∷ []
methods_of asked_nothing = []

-- whether this method is one of them: each has a name of its own
abbrev pub is_among : List Method → Method → Bool
is_among allowed method = list_any (has_name (name_of method)) allowed

-- the value of the field `allow` (RFC 9110, 10.2.1): their names, with a comma and a space between them
abbrev pub allow_of : Asked → List ℕ
allow_of asked = join_by name_of (codes ", ") (methods_of asked)

-- a method that the path allows
abbrev pub if_allowed : Asked → Option Method → Result Method RouteFault
if_allowed asked None = Err NotAllowed
if_allowed asked (Some method) = if is_among (methods_of asked) method then Ok method else Err NotAllowed

-- the method with this name at a path: whether the path is served comes first, then whether it allows the method
abbrev pub method_on : List ℕ → Asked → Result Method RouteFault
method_on name asked_nothing = Err NotFound
method_on name asked = if_allowed asked (method_named name)
