use Rattle.std.proofs.Common.{◌≡◌, ◌<◌, ◌++◌, ◌∷◌, ℕ, List, [], Global, All, length, map, sym, ap, subst, ◌∙◌, arith}
use Rattle.std.specs.Prelude.{String}
use Rattle.std.specs.String.{string_bytes}
use Rattle.std.proofs.lemmas.Bool.Decides.{nat_tests}
use Rattle.std.proofs.lemmas.List.{append-nil, append_assoc, map-append}
use Rattle.mvt_layer.specs.Tile.{FeatureView}
use Rattle.mvt_write.specs.declared.layer_writer.LayerWriter.{LayerWriter}
use Rattle.mvt_write.specs.Written.{written}
use Rattle.mvt_write.proofs.LayerSteps.{layers_more}
use Rattle.feature_store.specs.Gathered.{HasWritten, layer_of}
use Rattle.feature_store.specs.Layers.{cuts_of}
use Rattle.feature_store.proofs.Finished.{all_here, bytes_of_none, bytes_of_some}
use Rattle.feature_store.proofs.Listed.{IsAscending, all_written, no_entries}
use Rattle.feature_store.proofs.layers.written.Goals as goal

pub returns-then-is_empty : goal.returns-then-is_empty
returns-then-is_empty c = λ m z x y gathers here.
    bytes_of_none m z x y c.args.gathered here gathers (no_entries c.args.gathered.entries (c.is_empty.ensures.0 c.if-is_empty.true))

pub loop-name-init : goal.loop-name-init
unfolding written
loop-name-init c = record {
  items = c.into_iter-name-iterator.ensures.into_iter_gives.0;
  bytes = λ fs has. c.new-out.ensures.items;
}

pub loop-name-preserved : goal.loop-name-preserved
loop-name-preserved c =
    let inv = c.loop-name.invariant in
    let done = c.loop-name.yielded in
    let e : String Global × LayerWriter = (c.in-Some._name, c.in-Some.writer) in
    let rest = c.next.new.self in
    let items : done ++ e ∷ rest ≡ c.args.gathered.entries = ap (λ es. done ++ es) (sym c.in-Some.ensures.steps) ∙ inv.items in
    record {
      items = append_assoc done (e ∷ []) rest ∙ items;
      bytes = λ fs has.
          layers_more c.loop-name.out.items c.finish.new.out.items (map (layer_of fs) done) (map (layer_of fs) (done ++ e ∷ [])) (layer_of fs e)
          (inv.bytes fs has)
          (c.in_ok-finish.ensures (string_bytes e.0) (fs (string_bytes e.0))
          (all_here (HasWritten fs) done e rest (subst (All (HasWritten fs)) (sym items) has)).1)
          (map-append (layer_of fs) done (e ∷ []));
    }

pub returns : goal.returns
returns c = λ m z x y gathers here.
    let g = c.args.gathered in
    let fs : List ℕ → List FeatureView = λ name. cuts_of m name z x y in
    let inv = c.loop-name.invariant in
    let done = c.loop-name.yielded in
    let ordered : IsAscending g = c.into_iter-name-iterator.ensures.into_iter_gives.5 in
    let some : 0 < length g.entries = grind (arith, nat_tests, c.is_empty.ensures, c.if-is_empty.false) in
    let all : done ≡ g.entries = sym (append-nil done) ∙ ap (λ es. done ++ es) (sym c.in-None.ensures.steps.0) ∙ inv.items in
    bytes_of_some m z x y g c.loop-name.out.items here gathers ordered some
    (inv.bytes fs (all_written g fs gathers ordered) ∙ ap (λ es. written (map (layer_of fs) es)) all)
