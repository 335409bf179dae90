-- A router takes the paths of a table, one by one, none of which conflicts with those before it.
use Rattle.std.proofs.Common.{◌≡◌, ℕ, ◌+◌, ◌<◌, ◌≤◌, List, [], ◌∷◌, Result, Ok, Err, map, length, drop, get_or, add-one, refl, ap, sym, subst, ◌∙◌}
use Rattle.std.specs.Borrow.{Bor}
use Rattle.std.proofs.Math.Seq.{drop-cons}
use Rattle.std.proofs.lemmas.List.{at_drop_all}
use Rattle.matchit.specs.Route.{Scan, parse_route}
use Rattle.matchit.specs.Rows.{RowsOf}
use Rattle.matchit.specs.Router.{RouteOf, InsertsRead}
use Rattle.matchit.specs.declared.error.InsertError.{InsertError}
use Rattle.matchit.specs.declared.error.InsertError.TheVariants.{Conflict, InvalidParam, InvalidParamSegment, InvalidCatchAll, OutOfMemory}
use Rattle.matchit.proofs.OnLiterals.{matchit_on_literals}
use Rattle.tile_routes.specs.declared.routes.Route.{Route}
use Rattle.tile_routes.specs.Paths.{with_scan, with_route, with_routes, Fits, AllFit, served_paths}
use Rattle.tile_routes.specs.Targets.{row_path}

inserted : (scan : Result Scan InsertError) (route : Route) (old new : RowsOf (RouteOf Route)) (done : Unit {0})
    → InsertsRead scan route old new (Ok done) → new ≡ with_scan scan route old
inserted (Ok scan) route old new done is = is.1
inserted (Err error) route old new done is = is.0

abbrev Rows : Type 0
Rows = List (Bor (List ℕ) × Route)

-- the paths from this one on lead to the same rows as those after it, once it is taken
pub one_more : (rows : Rows) (i : ℕ) (none : Bor (List ℕ) × Route) (old new all : RowsOf (RouteOf Route)) (done : Unit {0}) → i < length rows
    → InsertsRead (parse_route (get_or rows i none).0.now) (get_or rows i none).1 old new (Ok done)
    → with_routes (map row_path (drop i rows)) old ≡ all → with_routes (map row_path (drop (i + 1) rows)) new ≡ all
unfolding with_route
one_more rows i none old new all done below is so_far =
    let rest : drop i rows ≡ get_or rows i none ∷ drop (i + 1) rows = rw add-one (drop-cons rows i none below) in
    ap (with_routes (map row_path (drop (i + 1) rows))) (inserted (parse_route (get_or rows i none).0.now) (get_or rows i none).1 old new done is)
    ∙ sym (ap (λ (r : Rows). with_routes (map row_path r) old) rest) ∙ so_far

-- once all paths are taken, these are the rows
pub all_taken : (rows : Rows) (i : ℕ) (now all : RowsOf (RouteOf Route)) → length rows ≤ i → with_routes (map row_path (drop i rows)) now ≡ all → now ≡ all
all_taken rows i now all past so_far = sym (at_drop_all (λ (r : Rows). with_routes (map row_path r) now) rows i past) ∙ so_far

-- a path that fits is refused only for want of memory
refused : (scan : Result Scan InsertError) (route : Route) (old new : RowsOf (RouteOf Route)) (fault : InsertError) → Fits scan old
    → InsertsRead scan route old new (Err fault) → fault ≡ OutOfMemory
refused (Err error) route old new fault fits is = absurd fits
refused (Ok scan) route old new (Conflict with) fits is = let both = sym fits ∙ is.1.1 in absurd (cc)
refused (Ok scan) route old new InvalidParamSegment fits is = absurd is.1
refused (Ok scan) route old new InvalidParam fits is = absurd is.1
refused (Ok scan) route old new InvalidCatchAll fits is = absurd is.1
refused (Ok scan) route old new OutOfMemory fits is = refl

-- the first of the paths from this one on
fit_there : (rows : Rows) (i : ℕ) (none : Bor (List ℕ) × Route) (old : RowsOf (RouteOf Route)) → i < length rows
    → AllFit (map row_path (drop i rows)) old
    → Fits (parse_route (get_or rows i none).0.now) old
    × AllFit (map row_path (drop (i + 1) rows)) (with_route (get_or rows i none).0.now (get_or rows i none).1 old)
fit_there rows i none old below fit =
    let rest : drop i rows ≡ get_or rows i none ∷ drop (i + 1) rows = rw add-one (drop-cons rows i none below) in
    subst (λ (r : Rows). AllFit (map row_path r) old) rest fit

pub one_refused : (rows : Rows) (i : ℕ) (none : Bor (List ℕ) × Route) (old new : RowsOf (RouteOf Route)) (fault : InsertError) → i < length rows
    → AllFit (map row_path (drop i rows)) old
    → InsertsRead (parse_route (get_or rows i none).0.now) (get_or rows i none).1 old new (Err fault) → fault ≡ OutOfMemory
one_refused rows i none old new fault below fit is =
    refused (parse_route (get_or rows i none).0.now) (get_or rows i none).1 old new fault (fit_there rows i none old below fit).0 is

pub more_fit : (rows : Rows) (i : ℕ) (none : Bor (List ℕ) × Route) (old new : RowsOf (RouteOf Route)) (done : Unit {0}) → i < length rows
    → AllFit (map row_path (drop i rows)) old
    → InsertsRead (parse_route (get_or rows i none).0.now) (get_or rows i none).1 old new (Ok done)
    → AllFit (map row_path (drop (i + 1) rows)) new
unfolding with_route
more_fit rows i none old new done below fit is =
    subst (AllFit (map row_path (drop (i + 1) rows)))
    (sym (inserted (parse_route (get_or rows i none).0.now) (get_or rows i none).1 old new done is)) (fit_there rows i none old below fit).1

-- the paths that are served all fit
pub served_fit : AllFit served_paths []
unfolding matchit_on_literals served_paths with_route
served_fit = (refl, (refl, (refl, (refl, (refl, (refl, (refl, (refl, (refl, (refl, (refl, (refl, (refl, (refl, (refl, (refl, (refl, tt)))))))))))))))))
