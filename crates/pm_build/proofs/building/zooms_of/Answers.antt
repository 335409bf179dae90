use Rattle.std.proofs.Common.{◌≡◌, ℕ, ◌-◌, subst, arith}
use Rattle.std.proofs.lemmas.List.{length-map}
use Rattle.pm_build.specs.Joined.{run_view, run_views}
use Rattle.pm_build.specs.Laid.{IsZoomOf}
use Rattle.pm_build.specs.Runs.{tiles_in}
use Rattle.pm_build.specs.declared.run.Run.{Run}
use Rattle.pm_build.proofs.Adding.{views_end}
use Rattle.pm_build.proofs.Ends.{first_tile, first_low, last_tile}
use Rattle.pm_build.proofs.Entries.{end_low}
use Rattle.pm_build.proofs.building.zooms_of.Goals as goal

-- what an index behind the end would give
abbrev none : Run
none = record { first = 0; count = 0; place = 0 }

pub zoom_of-first-requires : goal.zoom_of-first-requires
zoom_of-first-requires c = first_low c.args.contents.now.contents c.args.runs.now none c.requires.some c.requires.tiles c.requires.longest.each

pub end_of-requires : goal.end_of-requires
end_of-requires c =
    let rs = run_views c.args.contents.now.contents c.args.runs.now in
    omega (arith, views_end c.args.contents.now.contents c.args.runs.now, end_low (tiles_in rs) rs c.requires.tiles c.requires.longest)

pub overflow_sub-end_of : goal.overflow_sub-end_of
overflow_sub-end_of c =
    let rs = run_views c.args.contents.now.contents c.args.runs.now in
    let last = last_tile rs (omega (arith, c.requires.some, length-map c.args.runs.now (run_view c.args.contents.now.contents))) c.requires.longest.each in
    omega (arith, last.id_is, views_end c.args.contents.now.contents c.args.runs.now, c.end_of.ensures)

pub zoom_of-last-requires : goal.zoom_of-last-requires
zoom_of-last-requires c =
    let rs = run_views c.args.contents.now.contents c.args.runs.now in
    let last = last_tile rs (omega (arith, c.requires.some, length-map c.args.runs.now (run_view c.args.contents.now.contents))) c.requires.longest.each in
    omega (
      arith,
      last.id_is,
      views_end c.args.contents.now.contents c.args.runs.now,
      c.end_of.ensures,
      end_low (tiles_in rs) rs c.requires.tiles c.requires.longest,
    )

pub returns : goal.returns
returns c =
    let rs = run_views c.args.contents.now.contents c.args.runs.now in
    let last = last_tile rs (omega (arith, c.requires.some, length-map c.args.runs.now (run_view c.args.contents.now.contents))) c.requires.longest.each in
    let id : c.end_of.result - 1 ≡ last.last.0 = omega (arith, last.id_is, views_end c.args.contents.now.contents c.args.runs.now, c.end_of.ensures) in
    let zoom = subst (λ (n : ℕ). IsZoomOf n c.zoom_of-last.result) id c.zoom_of-last.ensures in (
      _,
      last.last,
      first_tile c.args.contents.now.contents c.args.runs.now none c.requires.some c.requires.longest.each,
      last.there,
      c.zoom_of-first.ensures,
      zoom,
    )
