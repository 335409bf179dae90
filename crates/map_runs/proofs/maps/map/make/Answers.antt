use Rattle.std.proofs.Common.{◌≡◌, ◌∙◌, sym, ap, arith}
use Rattle.feature_store.proofs.Texts.{snapshot_short}
use Rattle.cached_map.specs.Cached.{CachedView}
use Rattle.map_runs.proofs.maps.map.make.Goals as goal

pub make_edit-requires-clause-texts : goal.make_edit-requires-clause-texts
make_edit-requires-clause-texts c =
    let same : c.prepare.new.self.features ≡ c.store.result.now.features =
    ap (λ (m : CachedView). m.features) c.in-Ok.ensures.same ∙ sym c.store.ensures.features in
    rw (same, c.in-Ok.ensures.prepared, c.deref.ensures.value)
    (omega (arith, snapshot_short _ c.len.ensures.map.edits, c.len.ensures.count, c.requires.text))
