use Rattle.std.proofs.Common.{ℕ, List, sym, subst, ◌∙◌}
use Rattle.std.specs.Result.{IfOk}
use Rattle.std.proofs.lemmas.Result.{IfOk-weaker}
use Rattle.pm_build.specs.Built.{archive_bytes}
use Rattle.area_content.specs.Content.{ContentView}
use Rattle.area_content.specs.Faults.{IsBuiltFor}
use Rattle.area_content.proofs.Written.{all_built}
use Rattle.area_content.proofs.draft.content_with.Goals as goal

pub archive_of-requires : goal.archive_of-requires
archive_of-requires c = record { metadata = c.requires }

pub returns-clause-built : goal.returns-clause-built
returns-clause-built c m is_map all short =
    let metadata = c.args.metadata.now in
    let built = subst (λ r. IfOk r (λ a. IsBuiltFor m metadata (archive_bytes a))) c.in-Ok.is
    (all_built m metadata c.archive_of.result c.args.builder.tiles is_map all short c.archive_of.ensures.of_tiles c.archive_of.ensures.bounded) in
    let archive = subst (λ (bs : List ℕ). IsBuiltFor m metadata bs) (sym c.of.ensures.archive) built in
    IfOk-weaker c.within.result _ _
    (λ (v : ContentView) is. subst (λ (w : ContentView). IsBuiltFor m metadata w.archive) (sym is.0) archive) c.within.ensures.fits

pub returns-clause-fault : goal.returns-clause-fault
returns-clause-fault c m is_map text all short =
    let metadata = c.args.metadata.now in
    let built = subst (λ r. IfOk r (λ a. IsBuiltFor m metadata (archive_bytes a))) c.in-Ok.is
    (all_built m metadata c.archive_of.result c.args.builder.tiles is_map all short c.archive_of.ensures.of_tiles c.archive_of.ensures.bounded) in
    c.within.ensures.full m metadata (c.of.ensures.snapshot ∙ text)
    (subst (λ (bs : List ℕ). IsBuiltFor m metadata bs) (sym c.of.ensures.archive) built)
