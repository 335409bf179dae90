use Rattle.std.proofs.Common.{◌≡◌, ◌+◌, List, [], ◌∷◌, ◌++◌, length, take, drop, true, sym, ap, subst, ◌∙◌, arith}
use Rattle.std.proofs.lemmas.List.{take_at}
use Rattle.pm_build.specs.declared.run.Run.{Run}
use Rattle.pm_build.specs.Building.{CanAdd}
use Rattle.pm_build.specs.Counted.{tiles_counted}
use Rattle.pm_build.specs.Joined.{ArePlaces, IsLast, goes_on_last, last_end, last_grown, run_views}
use Rattle.pm_build.specs.Tiles.{Tile}
use Rattle.pm_build.proofs.Adding.{tiles_room, views_end}
use Rattle.pm_build.proofs.CounterSteps.{joined}
use Rattle.pm_build.proofs.Entries.{end_low}
use Rattle.pm_build.proofs.Keeping.{IsAdded}
use Rattle.pm_build.proofs.counter.ArchiveCounter.join.Goals as goal
use Rattle.pm_build.proofs.counter.ArchiveCounter.join.Goals.{After-self-then-joined-1}

pub join_last-joined-requires : goal.join_last-joined-requires
join_last-joined-requires c =
    let inside = c.self.inside in
    omega (
      arith,
      views_end inside.contents.contents inside.runs.items,
      end_low (tiles_counted inside) (run_views inside.contents.contents inside.runs.items) c.self.invariant.kept.tiles c.self.invariant.kept.longest,
      ap (λ (rs : List Run). last_end rs) c.deref_mut.ensures.value,
    )

pub overflow_add-self : goal.overflow_add-self
overflow_add-self c = omega (arith, c.self.invariant.kept.counted, tiles_room (tiles_counted c.self.inside) c.self.invariant.kept.tiles)

-- the runs as they are in their place
runs_are : (c : After-self-then-joined-1)
    → take c.self.inside.runs.len (c.join_last-joined.new.runs ++ drop (length c.join_last-joined.new.runs) c.self.inside.runs.items)
    ≡ c.join_last-joined.new.runs
runs_are c =
    let runs = c.self.inside.runs in
    let new = c.join_last-joined.new.runs in
    take_at new (drop (length new) runs.items) runs.len
    (omega (arith, c.join_last-joined.ensures.count, ap (λ (rs : List Run). length rs) c.deref_mut.ensures.value, runs.ok))

is_added : (c : After-self-then-joined-1)
    → IsAdded c.self.inside.contents c.self.inside.runs.items (c.args.id, c.args.content.now) c.self.inside.contents
    (take c.self.inside.runs.len (c.join_last-joined.new.runs ++ drop (length c.join_last-joined.new.runs) c.self.inside.runs.items))
    (c.self.inside.addressed + 1)
is_added c =
    let inside = c.self.inside in
    let cs = inside.contents.contents in
    let t : Tile = (c.args.id, c.args.content.now) in
    let new = c.join_last-joined.new.runs in
    let value = c.deref_mut.ensures.value in
    let last : IsLast cs c.deref_mut.result.now c.deref.result.now =
    subst (λ (rs : List Run). IsLast cs rs c.deref.result.now) (sym value)
    (subst (λ (bs : List _). IsLast cs inside.runs.items bs) (sym c.deref.ensures.value) c.self.invariant.last) in
    let on : goes_on_last (run_views cs inside.runs.items) t ≡ true =
    ap (λ (rs : List Run). goes_on_last (run_views cs rs) t) (sym value) ∙ sym (c.if-joined.ensures.joins cs last) in
    let grows : run_views cs new ≡ last_grown (run_views cs inside.runs.items) =
    c.if-joined.ensures.runs cs ∙ ap (λ (rs : List Run). last_grown (run_views cs rs)) value in
    let places : ArePlaces cs new =
    c.if-joined.ensures.places cs (subst (λ (rs : List Run). ArePlaces cs rs) (sym value) c.self.invariant.kept.places) in
    let size : length new ≡ length inside.runs.items =
    omega (arith, c.join_last-joined.ensures.count, ap (λ (rs : List Run). length rs) value) in
    let can = subst (λ (ts : List Tile). CanAdd ts t) (sym c.self.view_is) c.requires in
    subst (λ (rs : List Run). IsAdded inside.contents inside.runs.items t inside.contents rs (inside.addressed + 1)) (sym (runs_are c))
    (joined inside.contents inside.runs.items new inside.addressed t c.self.invariant.kept can on grows places size)

pub invariant_of-self : goal.invariant_of-self
invariant_of-self c =
    let inside = c.self.inside in
    let cs = inside.contents.contents in
    let last : IsLast cs c.deref_mut.result.now c.deref.result.now =
    subst (λ (rs : List Run). IsLast cs rs c.deref.result.now) (sym c.deref_mut.ensures.value)
    (subst (λ (bs : List _). IsLast cs inside.runs.items bs) (sym c.deref.ensures.value) c.self.invariant.last) in
    record {
      kept = (is_added c).kept;
      last = subst (λ (rs : List Run). IsLast cs rs inside.last.items) (sym (runs_are c))
          (subst (λ (bs : List _). IsLast cs c.join_last-joined.new.runs bs) c.deref.ensures.value (c.join_last-joined.ensures.last cs last));
    }

pub returns-then-joined-clause-added : goal.returns-then-joined-clause-added
returns-then-joined-clause-added c same =
    let t : Tile = (c.args.id, c.args.content.now) in (is_added c).tiles_are ∙ ap (λ (ts : List Tile). ts ++ t ∷ []) c.self.view_is

pub returns-then-joined-clause-few : goal.returns-then-joined-clause-few
returns-then-joined-clause-few c same = (is_added c).few
