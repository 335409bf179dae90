use Rattle.std.proofs.Common.{◌≡◌, ◌∷◌, ◌++◌, ℕ, List, Global, map, All, sym, ap, subst, ◌∙◌}
use Rattle.std.specs.Prelude.{String}
use Rattle.std.specs.String.{string_bytes}
use Rattle.std.proofs.lemmas.List.Elements.{All-head, All-tail}
use Rattle.mvt_layer.specs.Tile.{FeatureView}
use Rattle.mvt_write.specs.declared.layer_writer.LayerWriter.{LayerWriter}
use Rattle.mvt_write.specs.Written.{written}
use Rattle.mvt_write.proofs.LayerSteps.{layer_first}
use Rattle.feature_store.specs.Gathered.{HasWritten, layer_of}
use Rattle.feature_store.specs.Layers.{cuts_of}
use Rattle.feature_store.proofs.Listed.{Entries}
use Rattle.feature_store.proofs.tile_end.TileEnd.add_part.Goals as goal

pub returns-in-Some-clause-ends : goal.returns-in-Some-clause-ends
returns-in-Some-clause-ends c = λ m z x y ends.
    let fs : List ℕ → List FeatureView = λ name. cuts_of m name z x y in
    let e : String Global × LayerWriter = (c.in-Some._name, c.in-Some.layer) in
    let rest : Entries = c.next.new.self in
    let before : List ℕ = c.args.self.now.tile.bytes in
    let is : c.args.self.now.layers ≡ e ∷ rest = c.in-Some.ensures.steps in
    let has : All (HasWritten fs) (e ∷ rest) = subst (All (HasWritten fs)) is ends.has in
    record {
      has = All-tail (HasWritten fs) e rest has;
      bytes =
          ap (λ (b : List ℕ). b ++ written (map (layer_of fs) rest))
          (c.begin.ensures.layer (string_bytes e.0) (fs (string_bytes e.0)) (All-head (HasWritten fs) e rest has).1)
          ∙ layer_first before (layer_of fs e) (map (layer_of fs) rest)
          ∙ ap (λ (es : Entries). before ++ written (map (layer_of fs) es)) (sym is)
          ∙ ends.bytes;
    }
