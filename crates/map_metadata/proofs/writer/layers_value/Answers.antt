use Rattle.std.proofs.Common.{length, ◌≡◌, ◌∙◌, [], ◌∷◌, ◌++◌, sym, ap, map, arith, append_assoc, append-nil}
use Rattle.std.specs.declared.alloc.Global.{Global}
use Rattle.std.specs.declared.string.String.{String}
use Rattle.serde_json.specs.Data.{array}
use Rattle.serde_json.specs.View.{view, items_of}
use Rattle.serde_json.proofs.Views.{view-Array}
use Rattle.std.proofs.lemmas.List.Elements.{All-push}
use Rattle.std.proofs.lemmas.Result.{IfOk-from_err}
use Rattle.map_metadata.specs.declared.summary.LayerSummary.{LayerSummary}
use Rattle.map_metadata.specs.Metadata.{layer_json}
use Rattle.map_metadata.specs.Summaries.{layer_data, layer_named, HasOrder}
use Rattle.map_metadata.proofs.Written.{layers_next}
use Rattle.map_metadata.proofs.writer.layers_value.Goals as goal

pub loop-name-preserved : goal.loop-name-preserved
loop-name-preserved c = record {
  room = omega (arith, c.loop-name.invariant.room, ap length c.in-Some.ensures.steps, c.push_reserved.ensures.len, c.push_reserved.ensures.capacity);
  items =
      append_assoc c.loop-name.yielded ((c.in-Some.name, c.in-Some.summary) ∷ []) c.next.new.self
      ∙ ap (λ es. c.loop-name.yielded ++ es) (sym c.in-Some.ensures.steps) ∙ c.loop-name.invariant.items;
  values =
      layers_next c.loop-name.list.items c.push_reserved.new.self.items c.in_ok-layer.layer c.loop-name.yielded (c.in-Some.name, c.in-Some.summary)
      c.push_reserved.ensures.items
      (c.in_ok-layer.ensures.value ∙ ap (λ n. layer_json (layer_named n c.in-Some.summary)) c.as_str.ensures.value) c.loop-name.invariant.values;
  fields =
      All-push (λ (e : String Global × LayerSummary). HasOrder e.1.fields) c.loop-name.yielded (c.in-Some.name, c.in-Some.summary)
      c.loop-name.invariant.fields c.in_ok-layer.ensures.ordered;
}

pub returns-in_err-list-clause-value : goal.returns-in_err-list-clause-value
returns-in_err-list-clause-value c = IfOk-from_err _ _ c.from_residual.ensures.0

pub returns-in_err-list-clause-fields : goal.returns-in_err-list-clause-fields
returns-in_err-list-clause-fields c = IfOk-from_err _ _ c.from_residual.ensures.0

pub returns-in_err-list-clause-ordered : goal.returns-in_err-list-clause-ordered
returns-in_err-list-clause-ordered c = IfOk-from_err _ _ c.from_residual.ensures.0

pub returns-in_err-layer-clause-value : goal.returns-in_err-layer-clause-value
returns-in_err-layer-clause-value c = IfOk-from_err _ _ c.from_residual-in_err-layer.ensures.0

pub returns-in_err-layer-clause-fields : goal.returns-in_err-layer-clause-fields
returns-in_err-layer-clause-fields c = IfOk-from_err _ _ c.from_residual-in_err-layer.ensures.0

pub returns-in_err-layer-clause-ordered : goal.returns-in_err-layer-clause-ordered
returns-in_err-layer-clause-ordered c = IfOk-from_err _ _ c.from_residual-in_err-layer.ensures.0

-- the loop has had each layer
all_yielded : (c : goal.After-drop-name-iterator-2) → c.loop-name.yielded ≡ c.args.layers.entries
all_yielded c =
    let done = c.loop-name.yielded in
    sym (append-nil done) ∙ ap (λ es. done ++ es) (sym c.in-None.ensures.steps.0) ∙ c.loop-name.invariant.items

pub returns-clause-value : goal.returns-clause-value
returns-clause-value c =
    view-Array c.loop-name.list ∙ ap (λ l. array (items_of l)) c.loop-name.invariant.values
    ∙ ap (λ es. array (items_of (map layer_json (map layer_data es)))) (all_yielded c)

pub returns-clause-fields : goal.returns-clause-fields
returns-clause-fields c = rw (← all_yielded c) c.loop-name.invariant.fields

pub returns-clause-ordered : goal.returns-clause-ordered
returns-clause-ordered c = c.into_iter-name-iterator.ensures.into_iter_gives.5

pub loop-name-init : goal.loop-name-init
loop-name-init c = record {
  room = omega (
    arith,
    c.in_ok-list.ensures.len,
    c.in_ok-list.ensures.capacity,
    c.len.ensures,
    ap length c.into_iter-name-iterator.ensures.into_iter_gives.0,
  );
  items = c.into_iter-name-iterator.ensures.into_iter_gives.0;
  values = ap (map view) c.in_ok-list.ensures.items;
  fields = λ k d lt. absurd (omega (arith, lt));
}

pub push_reserved-requires : goal.push_reserved-requires
push_reserved-requires c = omega (arith, c.loop-name.invariant.room, ap length c.in-Some.ensures.steps)
