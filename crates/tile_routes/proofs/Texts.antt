-- The parts of an ASCII path are text.
use Rattle.std.proofs.Common.{◌≡◌, ℕ, zero, suc, ◌-◌, ◌<◌, List, [], ◌∷◌, Bool, true, false, cond, Option, Some, length, take, drop, refl, sym, ap, subst}
use Rattle.std.proofs.Common.{◌∙◌, arith}
use Rattle.std.specs.Prelude.{leb, ◌&&◌}
use Rattle.std.specs.List.{list_all}
use Rattle.std.specs.Char.{is_ascii}
use Rattle.std.specs.Str.{IsAscii, IsUtf8}
use Rattle.std.proofs.lemmas.Str.{IsUtf8-from_ascii, IsAscii-take, IsAscii-drop, IsUtf8-nil}
use Rattle.std.proofs.lemmas.Bool.{false≢true}
use Rattle.std.proofs.lemmas.Bool.Decides.{nat_tests}
use Rattle.matchit.specs.Rows.{RowsOf}
use Rattle.matchit.specs.Router.{RouteOf}
use Rattle.matchit.specs.Params.{walk, wild_from, wild_stop, part_of, after_token, AllText}
use Rattle.matchit.specs.Seek.{first}
use Rattle.matchit.specs.declared.params.Params.{Params}
use Rattle.matchit.proofs.OnLiterals.{matchit_on_literals}
use Rattle.tile_routes.specs.declared.routes.Route.{Route}
use Rattle.tile_routes.specs.Paths.{served_paths, served_rows, with_route, Asked, asked_at, asked_by, asked_nothing}
use Rattle.tile_routes.specs.Targets.{parts_of}
use Rattle.tile_routes.proofs.Keys.{EachKey, IfKey, seek-key}

either-text : (b : Bool) (x : List ℕ) → IsAscii x → IsUtf8 (cond b x [])
either-text true x is = IsUtf8-from_ascii x is
either-text false x is = IsUtf8-nil

part-text : (bytes : List ℕ) (start end : ℕ) → IsAscii bytes → IsUtf8 (part_of bytes start end)
part-text bytes start end is =
    either-text (leb start end && leb end (length bytes)) (take (end - start) (drop start bytes))
    (IsAscii-take (drop start bytes) (end - start) (IsAscii-drop bytes start is))

-- every name and part of a match is text, where route and path are ASCII
pub walk-text : (pattern text path : List ℕ) (names : List (ℕ × ℕ)) (token at : ℕ) → IsAscii text → IsAscii path
    → AllText (walk pattern text path names token at)
walk-text pattern text path [] token at is here = tt
walk-text pattern text path (name ∷ rest) token at is here = (
  part-text text name.0 name.1 is,
  part-text path (wild_from (drop token pattern) (length path) token at).1
      (wild_stop pattern (wild_from (drop token pattern) (length path) token at).0 path (wild_from (drop token pattern) (length path) token at).1) here,
  walk-text pattern text path rest (after_token (wild_from (drop token pattern) (length path) token at).0)
      (wild_stop pattern (wild_from (drop token pattern) (length path) token at).0 path (wild_from (drop token pattern) (length path) token at).1) is here,
)

HasText : RouteOf Route → Type 0
HasText route = list_all is_ascii route.text ≡ true

each_text : RowsOf (RouteOf Route) → Bool
each_text rows = list_all (λ row. list_all is_ascii row.1.text) rows

both_true : (a b : Bool) → (a && b) ≡ true → (a ≡ true) × (b ≡ true)
both_true true b is = (refl, is)
both_true false b is = absurd (false≢true is)

each_has_text : (rows : RowsOf (RouteOf Route)) → each_text rows ≡ true → EachKey HasText rows
unfolding each_text HasText
each_has_text [] is = tt
each_has_text (row ∷ more) is = let both = both_true (list_all is_ascii row.1.text) (each_text more) is in (both.0, each_has_text more both.1)

rows-text : EachKey HasText served_rows
unfolding matchit_on_literals served_rows served_paths with_route each_text
rows-text = each_has_text served_rows refl

first-ascii : (b : ℕ) (bs : List ℕ) → list_all is_ascii (b ∷ bs) ≡ true → (b < 128) × (list_all is_ascii bs ≡ true)
first-ascii b bs is = (grind (arith, nat_tests), grind (arith, nat_tests))

-- bytes that are all ASCII
pub ascii-all : (bs : List ℕ) → list_all is_ascii bs ≡ true → IsAscii bs
ascii-all [] is i = omega arith
ascii-all (b ∷ bs) is zero = (first-ascii b bs is).0
ascii-all (b ∷ bs) is (suc i) = ascii-all bs (first-ascii b bs is).1 i

-- and so they are text
pub ascii-text : (bs : List ℕ) → list_all is_ascii bs ≡ true → IsUtf8 bs
ascii-text bs is = IsUtf8-from_ascii bs (ascii-all bs is)

text_of_found : (found : Option (RouteOf Route)) (route : RouteOf Route) → IfKey HasText found → found ≡ Some route → HasText route
text_of_found found route given e = let P : Option (RouteOf Route) → Type 0 = λ o. IfKey HasText o in subst P e given

-- what the parameters of a match took is text
pub found-text : (route : RouteOf Route) (path : List ℕ) → first served_rows path ≡ Some route → list_all is_ascii path ≡ true
    → AllText (walk route.pattern route.text path route.names 0 0)
unfolding HasText
found-text route path found is =
    walk-text route.pattern route.text path route.names 0 0
    (ascii-all route.text (text_of_found (first served_rows path) route (seek-key HasText path 0 served_rows rows-text) found))
    (ascii-all path is)

pub asked-ascii : (path : List ℕ) → list_all is_ascii path ≡ true → asked_by path ≡ asked_at (first served_rows path) path
unfolding asked_by
asked-ascii path is = rw is refl

pub asked-other : (path : List ℕ) → list_all is_ascii path ≡ false → asked_by path ≡ asked_nothing
unfolding asked_by
asked-other path is = rw is refl

-- an ASCII path asks for what its route does
pub asked-found : (path text : List ℕ) (asked : Asked) → text ≡ path → list_all is_ascii path ≡ true
    → asked ≡ asked_at (first served_rows text) text → asked ≡ asked_by path
asked-found path text asked same is given =
    given ∙ ap (λ (t : List ℕ). asked_at (first served_rows t) t) same ∙ sym (asked-ascii path is)

-- the parameters of a match of an ASCII path are text
pub found-parts : (rows : RowsOf (RouteOf Route)) (params : Params) (value : Route) (path : List ℕ) → rows ≡ served_rows
    → first rows path ≡ Some (record { pattern = params.pattern.now; text = params.text.now; names = params.names.now; value = value })
    → params.path.now ≡ path → list_all is_ascii path ≡ true → AllText (parts_of params)
found-parts rows params value path kept found same is =
    rw same (found-text (record { pattern = params.pattern.now; text = params.text.now; names = params.names.now; value = value }) path
    (sym (ap (λ (r : RowsOf (RouteOf Route)). first r path) kept) ∙ found) is)
