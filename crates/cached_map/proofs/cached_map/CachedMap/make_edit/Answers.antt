use Rattle.std.proofs.Common.{map, [], refl}
use Rattle.feature_store.specs.Prepared.{prepared_data}
use Rattle.tile_cache.specs.declared.cached_tiles.Origin.TheVariants.{Cut, Read}
use Rattle.tile_cache.proofs.Marks.{newest_stays}
use Rattle.cached_map.specs.Cached.{CachedView, marks_after}
use Rattle.cached_map.proofs.Edits.{IsEdited, edited_by, still_kept, still_was}
use Rattle.cached_map.proofs.cached_map.CachedMap.make_edit.Goals as goal
use Rattle.cached_map.proofs.cached_map.CachedMap.make_edit.Goals.{After-make_each}

abbrev before : After-make_each → CachedView
before c =
    let inside = c.self.inside in
    record { features = inside.store.features; spare = inside.store.spare; last = inside.last; touched = inside.touched; kept = inside.kept }

abbrev after : After-make_each → CachedView
after c =
    record {
      features = c.make_each.new.store.features;
      spare = c.make_each.new.store.spare;
      last = c.args.number;
      touched = c.make_each.new.touched;
      kept = c.self.inside.kept;
    }

edited : (c : After-make_each) → IsEdited (before c) (after c) (marks_after (before c).features (map prepared_data c.args.changes.items) c.args.number)
edited c = edited_by (before c) (after c) (map prepared_data c.args.changes.items) c.len-count.ensures.map (rw (← c.self.view_is) at c.requires.later)
    c.requires.changes (rw (← c.self.view_is) at c.requires.texts) c.make_each.ensures.map c.make_each.ensures.marks

pub invariant_of-self : goal.invariant_of-self
invariant_of-self c =
    let at = (goal.at.invariant_of-self c).After-make_each in
    record { cut = still_kept (before at) (after at) _ (edited at) Cut c.self.inside.kept c.self.invariant.cut; hand = rw c.take.ensures.after tt }

pub returns-clause-since : goal.returns-clause-since
returns-clause-since c =
    let at = (goal.at.returns-clause-since c).After-make_each in
    rw (← c.self.view_is) (still_was (before at) (after at) _ (edited at))

pub returns-clause-reads : goal.returns-clause-reads
returns-clause-reads c =
    let at = (goal.at.returns-clause-reads c).After-make_each in
    rw (← c.self.view_is) (still_kept (before at) (after at) _ (edited at) Read c.self.inside.kept)

pub returns-clause-marks : goal.returns-clause-marks
returns-clause-marks c = rw (← c.self.view_is) c.make_each.ensures.marks

pub returns-clause-stays : goal.returns-clause-stays
returns-clause-stays c = rw (← c.self.view_is) (c.make_each.ensures.stays [] c.self.inside.touched (λ at all. refl))

pub returns-clause-clear : goal.returns-clause-clear
returns-clause-clear c =
    let before = c.self.inside.touched in
    let marks = marks_after c.self.inside.store.features (map prepared_data c.args.changes.items) c.args.number [] in
    rw (← c.self.view_is) (λ z x y n. newest_stays marks before c.make_each.new.touched z x y n (c.make_each.ensures.stays [] before (λ at all. refl)))
