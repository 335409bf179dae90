use Rattle.std.proofs.Common.{length, sym, ◌∙◌, ap, arith}
use Rattle.box_index.specs.Shown.{ids_shown}
use Rattle.box_index.proofs.Shown.{none_shown}
use Rattle.box_index.proofs.Reach.{few_shown}
use Rattle.box_index.proofs.block.IndexBlock.reach.Goals as goal

pub returns-then-shows-clause-least : goal.returns-then-shows-clause-least
returns-then-shows-clause-least c =
    omega (arith, few_shown c.args.bounds.now c.args.zoom c.args.self.now, ap length c.self.view_is, c.len.ensures, c.self.inside.entries.ok.0)

pub returns-else-shows-clause-least : goal.returns-else-shows-clause-least
returns-else-shows-clause-least c =
    omega (
      arith,
      ap length (ap (ids_shown c.args.bounds.now c.args.zoom) (sym c.self.view_is)
          ∙ none_shown c.args.bounds.now c.args.zoom c.self.inside.span c.self.inside.entries.items c.self.invariant.within
          (sym c.shows.ensures ∙ c.if-shows.false)),
    )
