use Rattle.std.proofs.Common.{◌*◌, ◌-◌, length, take, drop, ◌∙◌, ap, arith}
use Rattle.std.proofs.lemmas.List.{length-drop, take_min, take_all}
use Rattle.box_index.specs.declared.runs.TheConstants.{RUN}
use Rattle.box_index.proofs.runs.run_of.Goals as goal

pub returns : goal.returns
returns c =
    let bs = c.args.blocks.now in
    let first = c.args.run * RUN in
    let rest = take (length bs - first) (drop first bs) in
    ap (λ n. take n rest) c.min.ensures ∙ take_min RUN rest ∙ ap (take RUN) (take_all (length bs - first) (drop first bs) (omega (arith, length-drop first bs)))
