use Rattle.std.proofs.Common.{refl, arith}
use Rattle.feature_model.proofs.Tests.{broken, refused}
use Rattle.feature_model.proofs.limits.check_fields.Goals as goal

pub returns-then-id-ge-NUMBER_END-clause-ok : goal.returns-then-id-ge-NUMBER_END-clause-ok
returns-then-id-ge-NUMBER_END-clause-ok c = refused (λ fits. omega (arith, c.if-id-ge-NUMBER_END.true, fits.0))

pub returns-then-id-ge-NUMBER_END-clause-first : goal.returns-then-id-ge-NUMBER_END-clause-first
returns-then-id-ge-NUMBER_END-clause-first c = λ fits. omega (arith, c.if-id-ge-NUMBER_END.true, fits)

pub returns-then-not-is_name-clause-ok : goal.returns-then-not-is_name-clause-ok
returns-then-not-is_name-clause-ok c =
    let breaks = rw c.as_str.ensures.value at (broken c.is_name.result c.is_name.ensures c.if-not-is_name.true) in
    refused (λ fits. breaks fits.1.layer)

pub returns-then-not-is_name-clause-first : goal.returns-then-not-is_name-clause-first
returns-then-not-is_name-clause-first c = (
  c.if-id-ge-NUMBER_END.false,
  rw c.as_str.ensures.value at (broken c.is_name.result c.is_name.ensures c.if-not-is_name.true),
)

pub returns-then-not-zooms_fit-clause-ok : goal.returns-then-not-zooms_fit-clause-ok
returns-then-not-zooms_fit-clause-ok c =
    let breaks = broken c.zooms_fit.result c.zooms_fit.ensures c.if-not-zooms_fit.true in
    refused (λ fits. breaks fits.1.zooms)

pub returns-then-not-zooms_fit-clause-first : goal.returns-then-not-zooms_fit-clause-first
returns-then-not-zooms_fit-clause-first c = (
  c.if-id-ge-NUMBER_END.false,
  rw c.as_str.ensures.value at (c.is_name.ensures.0 c.if-not-is_name.false),
  broken c.zooms_fit.result c.zooms_fit.ensures c.if-not-zooms_fit.true,
)

pub returns-then-not-geometry_fits-clause-ok : goal.returns-then-not-geometry_fits-clause-ok
returns-then-not-geometry_fits-clause-ok c =
    let breaks = broken c.geometry_fits.result c.geometry_fits.ensures c.if-not-geometry_fits.true in
    refused (λ fits. breaks fits.1.geometry)

pub returns-then-not-geometry_fits-clause-first : goal.returns-then-not-geometry_fits-clause-first
returns-then-not-geometry_fits-clause-first c = (
  c.if-id-ge-NUMBER_END.false,
  rw c.as_str.ensures.value at (c.is_name.ensures.0 c.if-not-is_name.false),
  c.zooms_fit.ensures.0 c.if-not-zooms_fit.false,
  broken c.geometry_fits.result c.geometry_fits.ensures c.if-not-geometry_fits.true,
)

pub returns-then-not-tags_fit-clause-ok : goal.returns-then-not-tags_fit-clause-ok
returns-then-not-tags_fit-clause-ok c =
    let breaks = rw c.deref.ensures.value at (broken c.tags_fit.result c.tags_fit.ensures c.if-not-tags_fit.true) in
    refused (λ fits. breaks fits.1.tags)

pub returns-then-not-tags_fit-clause-first : goal.returns-then-not-tags_fit-clause-first
returns-then-not-tags_fit-clause-first c = (
  c.if-id-ge-NUMBER_END.false,
  rw c.as_str.ensures.value at (c.is_name.ensures.0 c.if-not-is_name.false),
  c.zooms_fit.ensures.0 c.if-not-zooms_fit.false,
  c.geometry_fits.ensures.0 c.if-not-geometry_fits.false,
  rw c.deref.ensures.value at (broken c.tags_fit.result c.tags_fit.ensures c.if-not-tags_fit.true),
)

pub returns-then-not-values_fit-clause-ok : goal.returns-then-not-values_fit-clause-ok
returns-then-not-values_fit-clause-ok c =
    let breaks = rw c.deref-2.ensures.value at (broken c.values_fit.result c.values_fit.ensures c.if-not-values_fit.true) in
    refused (λ fits. breaks fits.1.values)

pub returns-then-not-values_fit-clause-first : goal.returns-then-not-values_fit-clause-first
returns-then-not-values_fit-clause-first c = (
  c.if-id-ge-NUMBER_END.false,
  rw c.as_str.ensures.value at (c.is_name.ensures.0 c.if-not-is_name.false),
  c.zooms_fit.ensures.0 c.if-not-zooms_fit.false,
  c.geometry_fits.ensures.0 c.if-not-geometry_fits.false,
  rw c.deref.ensures.value at (c.tags_fit.ensures.0 c.if-not-tags_fit.false),
  rw c.deref-2.ensures.value at (broken c.values_fit.result c.values_fit.ensures c.if-not-values_fit.true),
)

pub returns-clause-ok : goal.returns-clause-ok
returns-clause-ok c = (
  λ _. (
    c.if-id-ge-NUMBER_END.false,
    record {
      layer = rw c.as_str.ensures.value at (c.is_name.ensures.0 c.if-not-is_name.false);
      zooms = c.zooms_fit.ensures.0 c.if-not-zooms_fit.false;
      geometry = c.geometry_fits.ensures.0 c.if-not-geometry_fits.false;
      tags = rw c.deref.ensures.value at (c.tags_fit.ensures.0 c.if-not-tags_fit.false);
      values = rw c.deref-2.ensures.value at (c.values_fit.ensures.0 c.if-not-values_fit.false);
    },
  ),
  λ _. refl,
)
