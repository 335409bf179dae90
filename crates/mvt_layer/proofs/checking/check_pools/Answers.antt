use Rattle.std.proofs.Common.{◌≡◌, ℕ, List, Ok, sym, ap, ◌∙◌}
use Rattle.std.specs.Borrow.{Bor}
use Rattle.reader.proofs.Steps.{done}
use Rattle.geometry_commands.proofs.Past.{ok_on}
use Rattle.mvt_layer.specs.declared.fault.TileFault.{TileFault}
use Rattle.mvt_layer.specs.declared.tile.TagValue.{TagValue}
use Rattle.mvt_layer.specs.Tile.{bytes_of, tag_views}
use Rattle.mvt_layer.proofs.Checked.{pools_checked}
use Rattle.mvt_layer.proofs.checking.check_pools.Goals as goal

pub returns-clause-found : goal.returns-clause-found
returns-clause-found c = λ name version extent.
    let keys = c.in_ok-keys.ensures ∙ ap (λ (ts : List (Bor (List ℕ))). done {Fault = TileFault} (bytes_of ts)) (sym c.deref.ensures.value) in
    let values = c.in_ok-values.ensures ∙ ap (λ (vs : List TagValue). done {Fault = TileFault} (tag_views vs)) (sym c.deref-2.ensures.value) in
    ok_on c.check_features.result (pools_checked name version extent c.args.fields.now (bytes_of c.deref.result.now) (tag_views c.deref-2.result.now) keys
    values) c.check_features.ensures.found
