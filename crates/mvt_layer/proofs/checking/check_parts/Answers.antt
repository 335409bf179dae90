use Rattle.std.proofs.Common.{◌≡◌, List, ℕ, sym, subst, Err}
use Rattle.std.specs.Prelude.{◌≢◌, IsOk, OnOk, IfErr}
use Rattle.mvt_layer.specs.declared.fault.TileFault.TheVariants.{Memory}
use Rattle.mvt_layer.specs.Reading.{layers_in}
use Rattle.mvt_layer.proofs.Checked.{only_part}
use Rattle.mvt_layer.proofs.checking.check_parts.Goals as goal

pub returns-then-raw-eq1-clause-found : goal.returns-then-raw-eq1-clause-found
returns-then-raw-eq1-clause-found c =
    subst (λ (parts : List (List ℕ)). OnOk c.check_only.result (IsOk (layers_in parts)))
    (sym (only_part c.args.raw.now c.if-raw-eq1.true)) c.check_only.ensures.found

pub returns-then-raw-eq1-clause-fault : goal.returns-then-raw-eq1-clause-fault
returns-then-raw-eq1-clause-fault c =
    subst (λ (parts : List (List ℕ)). IfErr c.check_only.result (λ d. d ≢ Memory → layers_in parts ≡ Err d))
    (sym (only_part c.args.raw.now c.if-raw-eq1.true)) c.check_only.ensures.fault
