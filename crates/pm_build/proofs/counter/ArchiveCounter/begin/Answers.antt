use Rattle.std.proofs.Common.{◌≡◌, ◌+◌, List, [], ◌∷◌, ◌++◌, refl, sym, ap, subst, ◌∙◌, arith}
use Rattle.pm_build.specs.declared.run.Run.{Run}
use Rattle.pm_build.specs.Building.{CanAdd}
use Rattle.pm_build.specs.Counted.{tiles_counted}
use Rattle.pm_build.specs.Joined.{IsLast}
use Rattle.pm_build.specs.Tiles.{Tile}
use Rattle.pm_build.proofs.Adding.{last_pushed, tiles_room}
use Rattle.pm_build.proofs.CounterSteps.{begins_off, begun_one, bytes_low, many_begun}
use Rattle.pm_build.proofs.Keeping.{IsAdded}
use Rattle.pm_build.proofs.counter.ArchiveCounter.begin.Goals as goal

pub returns-in-Err-clause-many : goal.returns-in-Err-clause-many
returns-in-Err-clause-many c =
    let inside = c.self.inside in
    let t : Tile = (c.args.id, c.args.content.items) in
    let test = many_begun inside.contents inside.runs.items inside.addressed c.self.invariant.kept c.args.self.now t c.self.view_is c.requires.begins in
    (λ told. test.0 (c.in-Err.ensures.many.0 told), λ many. c.in-Err.ensures.many.1 (test.1 many))

pub place_counted-requires-clause-total : goal.place_counted-requires-clause-total
place_counted-requires-clause-total c =
    let inside = c.self.inside in
    let short = c.requires.can.1.2 in
    omega (arith, short, bytes_low inside.contents inside.runs.items inside.addressed c.self.invariant.kept)

pub returns-in-Err-place_counted-clause-many : goal.returns-in-Err-place_counted-clause-many
returns-in-Err-place_counted-clause-many c =
    let inside = c.self.inside in
    let t : Tile = (c.args.id, c.args.content.items) in
    let test = many_begun inside.contents inside.runs.items inside.addressed c.self.invariant.kept c.args.self.now t c.self.view_is c.requires.begins in (
      λ told. absurd (cc),
      λ many. let more = test.1 many in absurd (omega (arith, more, c.in-Ok.ensures.few)),
    )

pub overflow_add-self : goal.overflow_add-self
overflow_add-self c = omega (arith, c.self.invariant.kept.counted, tiles_room (tiles_counted c.self.inside) c.self.invariant.kept.tiles)

pushed : (c : goal.After-self-1)
    → c.push.new.self.items
    ≡ c.self.inside.runs.items ++ (let r : Run = record { first = c.args.id; count = 1; place = c.in-Ok-place_counted.place } in r) ∷ []
pushed c =
    let r : Run = record { first = c.args.id; count = 1; place = c.in-Ok-place_counted.place } in
    rw c.unwrap.ensures at c.push.ensures.items ∙ ap (λ (rs : List Run). rs ++ r ∷ []) c.room_for_run.ensures.runs

is_added : (c : goal.After-self-1)
    → IsAdded c.self.inside.contents c.self.inside.runs.items (c.args.id, c.args.content.items) c.place_counted.new.contents c.push.new.self.items
    (c.self.inside.addressed + 1)
is_added c =
    let inside = c.self.inside in
    let t : Tile = (c.args.id, c.args.content.items) in
    let r : Run = record { first = c.args.id; count = 1; place = c.in-Ok-place_counted.place } in
    let can = subst (λ (ts : List Tile). CanAdd ts t) (sym c.self.view_is) c.requires.can in
    let off = begins_off inside.contents inside.runs.items inside.addressed c.self.invariant.kept c.args.self.now t c.self.view_is c.requires.begins in
    let placed = c.in-Ok-place_counted.ensures.placed in
    begun_one inside.contents inside.runs.items inside.addressed c.self.invariant.kept c.place_counted.new.contents c.push.new.self.items r t can off
    c.in-Ok-place_counted.ensures.contents c.in-Ok-place_counted.ensures.firsts placed.0 placed.1 refl refl (pushed c) c.in-Ok.ensures.few

pub invariant_of-self-2 : goal.invariant_of-self-2
invariant_of-self-2 c =
    let cs = c.place_counted.new.contents.contents in
    let r : Run = record { first = c.args.id; count = 1; place = c.in-Ok-place_counted.place } in
    record {
      kept = (is_added c).kept;
      last = subst (λ (rs : List Run). IsLast cs rs c.args.content.items) (sym (pushed c))
          (last_pushed cs c.self.inside.runs.items r c.args.content.items c.in-Ok-place_counted.ensures.placed.1);
    }

pub returns-clause-added : goal.returns-clause-added
returns-clause-added c =
    let t : Tile = (c.args.id, c.args.content.items) in (is_added c).tiles_are ∙ ap (λ (ts : List Tile). ts ++ t ∷ []) c.self.view_is

pub returns-clause-few : goal.returns-clause-few
returns-clause-few c = (is_added c).few

pub returns-clause-many : goal.returns-clause-many
returns-clause-many c =
    let inside = c.self.inside in
    let t : Tile = (c.args.id, c.args.content.items) in
    let test = many_begun inside.contents inside.runs.items inside.addressed c.self.invariant.kept c.args.self.now t c.self.view_is c.requires.begins in (
      λ told. absurd (cc),
      λ many. let more = test.1 many in absurd (omega (arith, more, c.in-Ok.ensures.few)),
    )
