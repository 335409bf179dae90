use Rattle.std.specs.Rc.{rc_slice_items}
use Rattle.cached_map.proofs.Kept.{read_beside_cut, read_kept}
use Rattle.cached_map.proofs.cached_map.CachedMap.keep_read.Goals as goal

pub invariant_of-self : goal.invariant_of-self
invariant_of-self c =
    let at = c.args.at in let inside = c.self.inside in record {
      cut = read_beside_cut inside.store.features inside.touched inside.last c.args.number inside.kept c.keep_shared.new.kept at.z at.x at.y
          (rc_slice_items c.args.bytes.now) c.keep_shared.ensures c.self.invariant.cut;
      hand = c.self.invariant.hand;
    }

pub returns-clause-reads : goal.returns-clause-reads
returns-clause-reads c =
    let at = c.args.at in let inside = c.self.inside in
    rw (← c.self.view_is)
    (λ was. read_kept inside.store.features inside.touched inside.last c.args.number inside.kept c.keep_shared.new.kept at.z at.x at.y
    (rc_slice_items c.args.bytes.now) was c.keep_shared.ensures)
