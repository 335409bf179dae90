use Rattle.std.proofs.Common.{◌≡◌, Result, Ok, Err, IsErrAnd, IfErr, MatchResult, refl}
use Rattle.feature_model.specs.declared.fault.EditFault.{EditFault}
use Rattle.feature_model.specs.declared.fault.EditFault.TheVariants as faults
use Rattle.feature_model.specs.declared.feature.Feature.{Feature}
use Rattle.std.proofs.lemmas.Str.{IsUtf8-string_bytes}
use Rattle.std.proofs.lemmas.Result.{err_from_is_err_and}
use Rattle.serde_json.specs.Data.{Data}
use Rattle.serde_json.specs.View.{view}
use Rattle.feature_model.specs.Data.{FeatureData, geometry_data, feature_data}
use Rattle.edit_json.specs.Faults.{IsFeature, IsFirstJsonFault}
use Rattle.edit_json.specs.Outline.{outline_data}
use Rattle.edit_json.proofs.FaultLaws.{feature-one, feature-faultless, has_geometry, geometry-refused, tags-refused, feature-found}
use Rattle.edit_json.proofs.reading.feature_from_json.Goals as goal

-- a result that is a fault of the value reads back what the value says, since no feature's value has a fault
refused-reads_back : (Q : EditFault → Type 0) (d : Data) (r : Result Feature EditFault) → IsErrAnd r Q → IfErr r (IsFirstJsonFault d)
    → (f : FeatureData) → IsFeature d f → MatchResult r (λ g. feature_data g ≡ f) (λ e. e ≡ faults.Memory)
refused-reads_back Q d (Ok g) is fault = absurd is
refused-reads_back Q d (Err e) is fault = λ f a. feature-faultless d f e a fault

pub returns-in_err-outline-clause-refused : goal.returns-in_err-outline-clause-refused
returns-in_err-outline-clause-refused c =
    let p = err_from_is_err_and c.from_residual.result c.from_residual.ensures.1 in
    rw (p.1, p.2) c.in_err-outline.ensures.refused.1

pub returns-in_err-outline-clause-reads_back : goal.returns-in_err-outline-clause-reads_back
returns-in_err-outline-clause-reads_back c =
    refused-reads_back _ (view c.args.value.now) c.from_residual.result c.from_residual.ensures.1 (returns-in_err-outline-clause-refused c)

pub returns-in_err-geometry-clause-refused : goal.returns-in_err-geometry-clause-refused
returns-in_err-geometry-clause-refused c =
    let p = err_from_is_err_and c.from_residual-in_err-geometry.result c.from_residual-in_err-geometry.ensures.1 in
    rw (p.1, p.2) (geometry-refused (view c.args.value.now) (outline_data c.in_ok-outline.outline) c.in_err-geometry.field-0.0
    c.in_ok-outline.ensures.is c.in_ok-outline.ensures.name c.in_ok-outline.ensures.range c.in_err-geometry.ensures)

pub returns-in_err-geometry-clause-reads_back : goal.returns-in_err-geometry-clause-reads_back
returns-in_err-geometry-clause-reads_back c =
    refused-reads_back _ (view c.args.value.now) c.from_residual-in_err-geometry.result c.from_residual-in_err-geometry.ensures.1
    (returns-in_err-geometry-clause-refused c)

pub returns-in_err-check_tags-clause-refused : goal.returns-in_err-check_tags-clause-refused
returns-in_err-check_tags-clause-refused c =
    let p = err_from_is_err_and c.from_residual-in_err-check_tags.result c.from_residual-in_err-check_tags.ensures.1 in
    let o = outline_data c.in_ok-outline.outline in
    let is : IsFirstJsonFault (view c.args.value.now) faults.Tags = (
      o,
      c.in_ok-outline.ensures.is,
      (
        c.in_ok-outline.ensures.name,
        c.in_ok-outline.ensures.range,
        has_geometry o (geometry_data c.in_ok-geometry.geometry) c.in_ok-geometry.ensures,
        c.in_err-check_tags.ensures.fault.1,
      ),
    ) in
    rw (p.1, p.2, c.in_err-check_tags.ensures.fault.0) is

pub returns-in_err-check_tags-clause-reads_back : goal.returns-in_err-check_tags-clause-reads_back
returns-in_err-check_tags-clause-reads_back c =
    refused-reads_back _ (view c.args.value.now) c.from_residual-in_err-check_tags.result c.from_residual-in_err-check_tags.ensures.1
    (returns-in_err-check_tags-clause-refused c)

pub returns-in_err-tags-clause-refused : goal.returns-in_err-tags-clause-refused
returns-in_err-tags-clause-refused c =
    let p = err_from_is_err_and c.from_residual-in_err-tags.result c.from_residual-in_err-tags.ensures.1 in
    let o = outline_data c.in_ok-outline.outline in
    rw (p.1, p.2) (tags-refused (view c.args.value.now) o c.in_err-tags.field-0.0 c.in_ok-outline.ensures.is
    c.in_ok-outline.ensures.name c.in_ok-outline.ensures.range (has_geometry o (geometry_data c.in_ok-geometry.geometry) c.in_ok-geometry.ensures)
    c.in_ok-check_tags.ensures.ok c.in_err-tags.ensures.tags)

pub returns-in_err-tags-clause-reads_back : goal.returns-in_err-tags-clause-reads_back
returns-in_err-tags-clause-reads_back c =
    refused-reads_back _ (view c.args.value.now) c.from_residual-in_err-tags.result c.from_residual-in_err-tags.ensures.1
    (returns-in_err-tags-clause-refused c)

pub returns-clause-found : goal.returns-clause-found
returns-clause-found c =
    feature-found (view c.args.value.now) (outline_data c.in_ok-outline.outline) _ c.in_ok-outline.ensures.is c.in_ok-outline.ensures.name
    c.in_ok-outline.ensures.range c.in_ok-geometry.ensures c.in_ok-check_tags.ensures.ok c.check_tags.ensures.ascending
    c.in_ok-tags.ensures.tags c.in_ok-from_str.ensures.ok refl refl

pub returns-clause-reads_back : goal.returns-clause-reads_back
returns-clause-reads_back c = λ f a. feature-one (view c.args.value.now) _ f (returns-clause-found c) a

pub returns-clause-types : goal.returns-clause-types
returns-clause-types c = record {
  layer = IsUtf8-string_bytes c.in_ok-from_str.field-0;
  geometry = (returns-clause-found c).world;
  tags = c.in_ok-tags.ensures.types;
}
