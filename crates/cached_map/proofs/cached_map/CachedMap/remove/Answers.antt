use Rattle.std.proofs.Common.{subst, [], refl}
use Rattle.feature_store.specs.Store.{feature_at}
use Rattle.tile_cache.specs.Touched.{Remembers, StaysElsewhere}
use Rattle.tile_cache.specs.declared.cached_tiles.Origin.TheVariants.{Cut, Read}
use Rattle.tile_cache.proofs.Marks.{newest_stays}
use Rattle.cached_map.specs.Cached.{CachedView, with_mark, with_box}
use Rattle.cached_map.proofs.Edits.{IsEdited, removal, removed, still_kept, still_was}
use Rattle.cached_map.proofs.cached_map.CachedMap.remove.Goals as goal
use Rattle.cached_map.proofs.cached_map.CachedMap.remove.Goals.{After-mark_some}

abbrev before : After-mark_some → CachedView
before c =
    let inside = c.self.inside in
    record { features = inside.store.features; spare = inside.store.spare; last = inside.last; touched = inside.touched; kept = inside.kept }

abbrev after : After-mark_some → CachedView
after c =
    record {
      features = c.remove_keeping-bounds.new.self.features;
      spare = c.remove_keeping-bounds.new.self.spare;
      last = c.args.number;
      touched = c.mark_some.new.touched;
      kept = c.self.inside.kept;
    }

edited : (c : After-mark_some) → IsEdited (before c) (after c) (removal (before c) (after c) c.args.id)
edited c = removed (before c) (after c) c.args.id c.len-count.ensures.map (rw (← c.self.view_is) at c.requires.later) c.remove_keeping-bounds.ensures.map
    (λ marks remembers. subst (λ o. Remembers c.mark_some.new.touched (with_box o c.args.number marks)) c.remove_keeping-bounds.ensures.bounds
    (c.mark_some.ensures.remembers marks remembers))

pub invariant_of-self : goal.invariant_of-self
invariant_of-self c =
    let at = (goal.at.invariant_of-self c).After-mark_some in
    let kept = still_kept (before at) (after at) (removal (before at) (after at) c.args.id) (edited at) Cut c.self.inside.kept c.self.invariant.cut in
    record { cut = kept; hand = rw c.take.ensures.after tt }

pub returns-clause-since : goal.returns-clause-since
returns-clause-since c =
    let at = (goal.at.returns-clause-since c).After-mark_some in
    rw (← c.self.view_is) (still_was (before at) (after at) (removal (before at) (after at) c.args.id) (edited at))

pub returns-clause-reads : goal.returns-clause-reads
returns-clause-reads c =
    let at = (goal.at.returns-clause-reads c).After-mark_some in
    rw (← c.self.view_is) (still_kept (before at) (after at) (removal (before at) (after at) c.args.id) (edited at) Read c.self.inside.kept)

pub returns-clause-marks : goal.returns-clause-marks
returns-clause-marks c =
    let at = (goal.at.returns-clause-marks c).After-mark_some in
    rw (← c.self.view_is) (edited at).remembers

stays : (c : After-mark_some) → StaysElsewhere (with_mark (feature_at c.self.inside.store.features c.args.id) c.args.number []) c.self.inside.touched
    c.mark_some.new.touched
stays c =
    subst (λ o. StaysElsewhere (with_box o c.args.number []) c.self.inside.touched c.mark_some.new.touched) c.remove_keeping-bounds.ensures.bounds
    (c.mark_some.ensures.stays [] c.self.inside.touched (λ at all. refl))

pub returns-clause-stays : goal.returns-clause-stays
returns-clause-stays c = rw (← c.self.view_is) (stays (goal.at.returns-clause-stays c).After-mark_some)

pub returns-clause-clear : goal.returns-clause-clear
returns-clause-clear c =
    let at = (goal.at.returns-clause-clear c).After-mark_some in
    let inside = c.self.inside in
    let marks = with_mark (feature_at inside.store.features c.args.id) c.args.number [] in
    rw (← c.self.view_is) (λ z x y n. newest_stays marks inside.touched c.mark_some.new.touched z x y n (stays at))
