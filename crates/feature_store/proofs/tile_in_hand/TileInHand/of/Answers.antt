use Rattle.std.proofs.Common.{sym, ap, subst}
use Rattle.number_map.specs.MapView.{MapView}
use Rattle.feature_store.specs.Indexed.{ShowsAll}
use Rattle.feature_store.specs.Inside.{Stored, entries_data}
use Rattle.feature_store.specs.Store.{FeatureMap, IsMap}
use Rattle.feature_store.proofs.tile_in_hand.TileInHand.of.Goals as goal

pub invariant_of-result : goal.invariant_of-result
invariant_of-result c =
    let at = c.args.at in
    let same = ap (λ (v : MapView Stored). entries_data v.entries) (sym c.of.ensures) in
    record {
      is_map = subst IsMap same c.requires.is_map;
      stage = (
        c.of-2.ensures.work,
        c.of-2.ensures.making (entries_data c.of.result.value.entries)
            (subst (λ (m : FeatureMap). ShowsAll m at.z at.x at.y c.args.numbers.items) same c.requires.shown),
      );
    }
