use Rattle.std.proofs.Common.{◌≡◌, ◌++◌, ℕ, List, map, All, sym, ap, subst, ◌∙◌}
use Rattle.mvt_layer.specs.Tile.{FeatureView}
use Rattle.mvt_write.specs.Written.{written}
use Rattle.feature_store.specs.Gathered.{HasWritten, layer_of, layers_of}
use Rattle.feature_store.specs.Layers.{cuts_of}
use Rattle.feature_store.proofs.Listed.{IsAscending, all_written, are_layers}
use Rattle.feature_store.proofs.Unique.{is_the_list}
use Rattle.feature_store.proofs.tile_end.TileEnd.of.Goals as goal

pub returns-clause-ends : goal.returns-clause-ends
returns-clause-ends c = λ m z x y gathers here.
    let g = c.args.gathered in
    let fs : List ℕ → List FeatureView = λ name. cuts_of m name z x y in
    let is : c.into_iter.result ≡ g.entries = c.into_iter.ensures.into_iter_gives.0 in
    let ordered : IsAscending g = c.into_iter.ensures.into_iter_gives.5 in
    record {
      has = subst (All (HasWritten fs)) (sym is) (all_written g fs gathers ordered);
      bytes =
          ap (λ (b : List ℕ). b ++ written (map (layer_of fs) c.into_iter.result)) c.new.ensures.bytes
          ∙ ap (λ es. written (map (layer_of fs) es)) is
          ∙ ap written (is_the_list m z x y here (layers_of fs g) (are_layers m z x y g gathers ordered));
    }
