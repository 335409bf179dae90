use Rattle.std.proofs.Common.{◌≡◌, ◌+◌, List, [], map, take, take_all, subst, sym}
use Rattle.std.specs.Prelude.{All}
use Rattle.mvt_layer.specs.declared.tile.TileFeature.{TileFeature}
use Rattle.mvt_layer.specs.Tile.{FeatureView, feature_view}
use Rattle.mvt_write.specs.CanWrite.{CanWriteFeature}
use Rattle.mvt_write.specs.Fits.{FitsFeature}
use Rattle.mvt_write.specs.Writes.{Writes}
use Rattle.mvt_write.proofs.Lists.{map_more, mapped_has, all_more}
use Rattle.mvt_write.proofs.layer.put_features.Goals as goal

pub put_feature-requires : goal.put_feature-requires
put_feature-requires c =
    let feature = c.feature-item.result in
    let here = mapped_has feature_view CanWriteFeature c.args.features.now c.loop-feature.feature-index feature c.loop-feature-test.true c.requires in
    subst (λ (f : TileFeature). CanWriteFeature (feature_view f)) (sym c.feature-item.is) here

pub loop-feature-preserved : goal.loop-feature-preserved
loop-feature-preserved c =
    let feature = c.feature-item.result in
    let features = c.args.features.now in
    let so_far = map feature_view (take c.loop-feature.feature-index features) in
    let with_next = map feature_view (take (c.loop-feature.feature-index + 1) features) in
    let before = c.loop-feature.invariant in
    let step = c.in_ok-put_feature.ensures in
    let more = rw (← c.feature-item.is) at (map_more feature_view features c.loop-feature.feature-index feature c.loop-feature-test.true) in
    record {
      writes = λ name start.
          subst (λ (fs : List FeatureView). Writes c.put_feature.new.writer name fs []) (sym more) (step.writes name so_far (before.writes name start));
      fits = all_more FitsFeature so_far with_next (feature_view feature) before.fits step.fits more;
    }

pub returns-clause-writes : goal.returns-clause-writes
returns-clause-writes c = λ name start.
    let features = c.args.features.now in
    let all : take c.loop-feature.feature-index features ≡ features = take_all c.loop-feature.feature-index features c.loop-feature-test.false in
    subst (λ (fs : List TileFeature). Writes c.loop-feature.writer name (map feature_view fs) []) all (c.loop-feature.invariant.writes name start)

pub returns-clause-fits : goal.returns-clause-fits
returns-clause-fits c =
    let features = c.args.features.now in
    let all : take c.loop-feature.feature-index features ≡ features = take_all c.loop-feature.feature-index features c.loop-feature-test.false in
    subst (λ (fs : List TileFeature). All FitsFeature (map feature_view fs)) all c.loop-feature.invariant.fits
