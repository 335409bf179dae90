use Rattle.std.proofs.Common.{[], refl, arith}
use Rattle.std.proofs.lemmas.Result.{IfOk-from_err}
use Rattle.tile_cache.specs.declared.cached_tiles.Origin.TheVariants.{Cut, Read}
use Rattle.cached_map.proofs.Kept.{nothing_kept}
use Rattle.cached_map.proofs.cached_map.CachedMap.new.Goals as goal

pub invariant_of-result : goal.invariant_of-result
invariant_of-result c = record {
  cut = nothing_kept Cut c.args.store.features c.in_ok-touched.touched c.args.last c.in_ok-kept.kept c.in_ok-touched.ensures c.in_ok-kept.ensures;
  hand = tt;
}

pub returns-clause-now : goal.returns-clause-now
returns-clause-now c = record {
  marks = [];
  remembers = c.in_ok-touched.ensures;
  number = omega arith;
  tiles = λ z x y all. refl;
}

pub returns-clause-reads : goal.returns-clause-reads
returns-clause-reads c = nothing_kept Read c.args.store.features c.in_ok-touched.touched c.args.last c.in_ok-kept.kept c.in_ok-touched.ensures c.in_ok-kept.ensures

pub returns-in_err-kept-clause-features : goal.returns-in_err-kept-clause-features
returns-in_err-kept-clause-features c = IfOk-from_err _ _ c.from_residual.ensures.0

pub returns-in_err-kept-clause-spare : goal.returns-in_err-kept-clause-spare
returns-in_err-kept-clause-spare c = IfOk-from_err _ _ c.from_residual.ensures.0

pub returns-in_err-kept-clause-last : goal.returns-in_err-kept-clause-last
returns-in_err-kept-clause-last c = IfOk-from_err _ _ c.from_residual.ensures.0

pub returns-in_err-kept-clause-untouched : goal.returns-in_err-kept-clause-untouched
returns-in_err-kept-clause-untouched c = IfOk-from_err _ _ c.from_residual.ensures.0

pub returns-in_err-kept-clause-now : goal.returns-in_err-kept-clause-now
returns-in_err-kept-clause-now c = IfOk-from_err _ _ c.from_residual.ensures.0

pub returns-in_err-kept-clause-nothing_kept : goal.returns-in_err-kept-clause-nothing_kept
returns-in_err-kept-clause-nothing_kept c = IfOk-from_err _ _ c.from_residual.ensures.0

pub returns-in_err-kept-clause-reads : goal.returns-in_err-kept-clause-reads
returns-in_err-kept-clause-reads c = IfOk-from_err _ _ c.from_residual.ensures.0

pub returns-in_err-touched-clause-features : goal.returns-in_err-touched-clause-features
returns-in_err-touched-clause-features c = IfOk-from_err _ _ c.from_residual-in_err-touched.ensures.0

pub returns-in_err-touched-clause-spare : goal.returns-in_err-touched-clause-spare
returns-in_err-touched-clause-spare c = IfOk-from_err _ _ c.from_residual-in_err-touched.ensures.0

pub returns-in_err-touched-clause-last : goal.returns-in_err-touched-clause-last
returns-in_err-touched-clause-last c = IfOk-from_err _ _ c.from_residual-in_err-touched.ensures.0

pub returns-in_err-touched-clause-untouched : goal.returns-in_err-touched-clause-untouched
returns-in_err-touched-clause-untouched c = IfOk-from_err _ _ c.from_residual-in_err-touched.ensures.0

pub returns-in_err-touched-clause-now : goal.returns-in_err-touched-clause-now
returns-in_err-touched-clause-now c = IfOk-from_err _ _ c.from_residual-in_err-touched.ensures.0

pub returns-in_err-touched-clause-nothing_kept : goal.returns-in_err-touched-clause-nothing_kept
returns-in_err-touched-clause-nothing_kept c = IfOk-from_err _ _ c.from_residual-in_err-touched.ensures.0

pub returns-in_err-touched-clause-reads : goal.returns-in_err-touched-clause-reads
returns-in_err-touched-clause-reads c = IfOk-from_err _ _ c.from_residual-in_err-touched.ensures.0
