-- Methods are the same where their names are.
use Rattle.std.proofs.Common.{◌≡◌, List, [], ◌∷◌, refl}
use Rattle.std.specs.List.{list_any}
use Rattle.tile_routes.specs.declared.method.Method.{Method}
use Rattle.tile_routes.specs.declared.method.Method.TheVariants.{Get, Head, Put, Delete, Post}
use Rattle.tile_routes.specs.contracts.method.MethodPartialEq.TheImpl as same
use Rattle.tile_routes.specs.Methods.{name_of, has_name, is_among}

same-name : (a b : Method) → same.ghosts.eq a b ≡ has_name (name_of b) a
unfolding name_of
same-name Get Get = refl
same-name Get Head = refl
same-name Get Put = refl
same-name Get Delete = refl
same-name Get Post = refl
same-name Head Get = refl
same-name Head Head = refl
same-name Head Put = refl
same-name Head Delete = refl
same-name Head Post = refl
same-name Put Get = refl
same-name Put Head = refl
same-name Put Put = refl
same-name Put Delete = refl
same-name Put Post = refl
same-name Delete Get = refl
same-name Delete Head = refl
same-name Delete Put = refl
same-name Delete Delete = refl
same-name Delete Post = refl
same-name Post Get = refl
same-name Post Head = refl
same-name Post Put = refl
same-name Post Delete = refl
same-name Post Post = refl

pub any-same : (allowed : List Method) (method : Method) → list_any (λ other. same.ghosts.eq other method) allowed ≡ is_among allowed method
any-same [] method = refl
any-same (other ∷ more) method = rw (same-name other method, any-same more method) refl
