use Rattle.std.proofs.Common.{◌≡◌, ◌∷◌, ◌++◌, [], append_assoc, append-nil, sym, ap, ◌∙◌}
use Rattle.std.proofs.lemmas.Result.{IfOk-from_err}
use Rattle.serde_json.specs.Data.{object, put, string}
use Rattle.serde_json.specs.View.{view, members_view}
use Rattle.serde_json.proofs.Views.{view-Object}
use Rattle.map_metadata.specs.Metadata.{fields_json}
use Rattle.map_metadata.specs.Summaries.{fields_data}
use Rattle.map_metadata.proofs.Written.{put_next}
use Rattle.map_metadata.proofs.writer.fields_value.Goals as goal

pub loop-key-preserved : goal.loop-key-preserved
loop-key-preserved c = record {
  items =
      append_assoc c.loop-key.yielded ((c.in-Some.key, c.in-Some.kind) ∷ []) c.next.new.self
      ∙ ap (λ l. c.loop-key.yielded ++ l) (sym c.in-Some.ensures.steps) ∙ c.loop-key.invariant.items;
  members =
      put_next c.args.fields c.loop-key.yielded c.next.new.self c.loop-key.key-iterator (c.in-Some.key, c.in-Some.kind) (view c.in_ok-try_from_str.field-0)
      (members_view c.loop-key.members.entries) (members_view c.put.new.map.entries) c.into_iter-key-iterator.ensures.into_iter_gives.5
      c.in-Some.ensures.steps c.loop-key.invariant.items (c.in_ok-try_from_str.ensures ∙ ap string c.name.ensures) c.loop-key.invariant.members
      (c.in_ok-put.ensures.ok ∙ ap (λ n. put n (view c.in_ok-try_from_str.field-0) (members_view c.loop-key.members.entries)) c.as_str.ensures.value);
}

pub returns-in_err-try_from_str-clause-value : goal.returns-in_err-try_from_str-clause-value
returns-in_err-try_from_str-clause-value c = IfOk-from_err _ _ c.from_residual.ensures.0

pub returns-in_err-try_from_str-clause-ordered : goal.returns-in_err-try_from_str-clause-ordered
returns-in_err-try_from_str-clause-ordered c = IfOk-from_err _ _ c.from_residual.ensures.0

pub returns-in_err-put-clause-value : goal.returns-in_err-put-clause-value
returns-in_err-put-clause-value c = IfOk-from_err _ _ c.from_residual-in_err-put.ensures.0

pub returns-in_err-put-clause-ordered : goal.returns-in_err-put-clause-ordered
returns-in_err-put-clause-ordered c = IfOk-from_err _ _ c.from_residual-in_err-put.ensures.0

pub loop-key-init : goal.loop-key-init
loop-key-init c = record {
  items = c.into_iter-key-iterator.ensures.into_iter_gives.0;
  members = ap members_view c.new-members.ensures.empty;
}

pub returns-clause-value : goal.returns-clause-value
returns-clause-value c =
    let done = c.loop-key.yielded in
    let all : done ≡ c.args.fields.entries =
    sym (append-nil done) ∙ ap (λ es. done ++ es) (sym c.in-None.ensures.steps.0) ∙ c.loop-key.invariant.items in
    view-Object c.loop-key.members ∙ ap object (c.loop-key.invariant.members ∙ ap (λ es. fields_json (fields_data es)) all)

pub returns-clause-ordered : goal.returns-clause-ordered
returns-clause-ordered c = c.into_iter-key-iterator.ensures.into_iter_gives.5
