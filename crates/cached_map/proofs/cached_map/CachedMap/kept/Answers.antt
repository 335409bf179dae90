use Rattle.std.proofs.Common.{None, Some, sym, ap, ◌∙◌, subst}
use Rattle.std.proofs.lemmas.Result.{IfOk-from_err}
use Rattle.std.specs.Rc.{rc_slice_items}
use Rattle.tile_cache.specs.declared.cached_tiles.Origin.TheVariants.{Cut, Read}
use Rattle.feature_store.specs.Content.{IsTileContent}
use Rattle.feature_store.specs.Layers.{layers}
use Rattle.cached_map.proofs.Kept.{found_is, same_kept, fresh_same}
use Rattle.cached_map.proofs.cached_map.CachedMap.kept.Goals as goal

pub returns-in-Some-clause-tile : goal.returns-in-Some-clause-tile
returns-in-Some-clause-tile c =
    let at = c.args.at in let inside = c.self.inside in let kept = c.promote.new.self in
    rw (← c.self.view_is)
    (λ read. subst (λ b. IsTileContent (layers inside.store.features at.z at.x at.y) (Some b)) (sym c.in_ok-clone.ensures.cases)
    (found_is inside.store.features inside.touched inside.last kept at.z at.x at.y c.newest-newest.result c.args.reads
    (rc_slice_items c.in-Some.bytes.now)
    (same_kept Cut inside.store.features inside.touched inside.last inside.kept kept c.promote.ensures.same c.self.invariant.cut)
    (λ counted. same_kept Read inside.store.features inside.touched inside.last inside.kept kept c.promote.ensures.same (read counted))
    (rw (← c.self.view_is) at c.newest-newest.ensures.marked) c.in-Some.ensures))

pub returns-in-Some-clause-given : goal.returns-in-Some-clause-given
returns-in-Some-clause-given c =
    let at = c.args.at in let inside = c.self.inside in
    rw (← c.self.view_is)
    (λ newest is. fresh_same inside.touched inside.kept c.promote.new.self at.z at.x at.y c.newest-newest.result newest c.args.reads
    (Some (rc_slice_items c.in_ok-clone.field-0)) c.promote.ensures.same (rw (← c.self.view_is) at c.newest-newest.ensures.of_cells) is
    (ap Some c.in_ok-clone.ensures.cases ∙ c.in-Some.ensures))

pub returns-clause-given : goal.returns-clause-given
returns-clause-given c =
    let at = c.args.at in let inside = c.self.inside in
    rw (← c.self.view_is)
    (λ newest is. fresh_same inside.touched inside.kept c.promote.new.self at.z at.x at.y c.newest-newest.result newest c.args.reads
    None c.promote.ensures.same (rw (← c.self.view_is) at c.newest-newest.ensures.of_cells) is c.in_default.ensures)

pub invariant_of-self : goal.invariant_of-self
invariant_of-self c =
    let inside = c.self.inside in record {
      cut = same_kept Cut inside.store.features inside.touched inside.last inside.kept c.promote.new.self c.promote.ensures.same c.self.invariant.cut;
      hand = c.self.invariant.hand;
    }

pub invariant_of-self-in-Some : goal.invariant_of-self-in-Some
invariant_of-self-in-Some c =
    let inside = c.self.inside in record {
      cut = same_kept Cut inside.store.features inside.touched inside.last inside.kept c.promote.new.self c.promote.ensures.same c.self.invariant.cut;
      hand = c.self.invariant.hand;
    }

pub invariant_of-self-2 : goal.invariant_of-self-2
invariant_of-self-2 c =
    let inside = c.self.inside in record {
      cut = same_kept Cut inside.store.features inside.touched inside.last inside.kept c.promote.new.self c.promote.ensures.same c.self.invariant.cut;
      hand = c.self.invariant.hand;
    }

pub returns-in_err-clone-clause-reads : goal.returns-in_err-clone-clause-reads
returns-in_err-clone-clause-reads c =
    let inside = c.self.inside in
    rw (← c.self.view_is) (same_kept Read inside.store.features inside.touched inside.last inside.kept c.promote.new.self c.promote.ensures.same)

pub returns-in-Some-clause-reads : goal.returns-in-Some-clause-reads
returns-in-Some-clause-reads c =
    let inside = c.self.inside in
    rw (← c.self.view_is) (same_kept Read inside.store.features inside.touched inside.last inside.kept c.promote.new.self c.promote.ensures.same)

pub returns-clause-reads : goal.returns-clause-reads
returns-clause-reads c =
    let inside = c.self.inside in
    rw (← c.self.view_is) (same_kept Read inside.store.features inside.touched inside.last inside.kept c.promote.new.self c.promote.ensures.same)

pub returns-in_err-clone-clause-tile : goal.returns-in_err-clone-clause-tile
returns-in_err-clone-clause-tile c = λ read. IfOk-from_err _ _ c.from_residual.ensures.0

pub returns-in_err-clone-clause-given : goal.returns-in_err-clone-clause-given
returns-in_err-clone-clause-given c newest is = IfOk-from_err _ _ c.from_residual.ensures.0

pub returns-in_err-clone-clause-keeps : goal.returns-in_err-clone-clause-keeps
returns-in_err-clone-clause-keeps c = rw (← c.self.view_is) c.promote.ensures.same

pub returns-in_err-clone-clause-order : goal.returns-in_err-clone-clause-order
returns-in_err-clone-clause-order c = rw (← c.self.view_is) c.promote.ensures.order

pub returns-in-Some-clause-keeps : goal.returns-in-Some-clause-keeps
returns-in-Some-clause-keeps c = rw (← c.self.view_is) c.promote.ensures.same

pub returns-in-Some-clause-order : goal.returns-in-Some-clause-order
returns-in-Some-clause-order c = rw (← c.self.view_is) c.promote.ensures.order

pub returns-clause-keeps : goal.returns-clause-keeps
returns-clause-keeps c = rw (← c.self.view_is) c.promote.ensures.same

pub returns-clause-order : goal.returns-clause-order
returns-clause-order c = rw (← c.self.view_is) c.promote.ensures.order
