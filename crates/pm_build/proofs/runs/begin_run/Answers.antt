use Rattle.std.proofs.Common.{◌++◌, ◌∷◌, [], refl, ap, ◌∙◌}
use Rattle.pm_build.specs.declared.run.Run.{Run}
use Rattle.pm_build.specs.TileContents.{bytes_of}
use Rattle.pm_build.proofs.Adding.{IsBegun, begun}
use Rattle.pm_build.proofs.runs.begin_run.Goals as goal
use Rattle.pm_build.proofs.runs.begin_run.Goals.{After-unwrap}

is_begun : (c : After-unwrap)
    → IsBegun c.args.contents.now.index.contents c.args.runs.now.items (c.args.id, bytes_of c.args.content c.args.contents.now.ahead)
    c.place.new.self.index.contents c.push.new.self.items
is_begun c =
    let r : Run = record { first = c.args.id; count = 1; place = c.in-Ok-place.place } in
    begun c.args.contents.now.index.contents c.place.new.self.index.contents c.args.runs.now.items c.push.new.self.items r
    (c.args.id, bytes_of c.args.content c.args.contents.now.ahead)
    c.in-Ok-place.ensures.contents c.requires.places c.in-Ok-place.ensures.placed.0 c.in-Ok-place.ensures.placed.1 refl refl
    (rw c.unwrap.ensures at c.push.ensures.items ∙ ap (λ runs. runs ++ r ∷ []) c.room_for_run.ensures.runs)

pub returns-clause-begun : goal.returns-clause-begun
returns-clause-begun c = (is_begun c).views_are

pub returns-clause-places : goal.returns-clause-places
returns-clause-places c = (is_begun c).places
