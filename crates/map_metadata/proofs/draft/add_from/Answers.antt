use Rattle.std.proofs.Common.{sym, ap, subst, ◌∙◌, arith}
use Rattle.std.specs.Option.{option_map}
use Rattle.edit_text.specs.Views.{feature_view}
use Rattle.feature_model.specs.declared.limits.TheConstants.{NUMBER_END}
use Rattle.feature_store.specs.Reading.{below, entry_of}
use Rattle.feature_store.proofs.Reading.{all_below}
use Rattle.map_metadata.specs.Summaries.{SumsUp}
use Rattle.map_metadata.proofs.Added.{read_more}
use Rattle.map_metadata.proofs.draft.add_from.Goals as goal

pub returns-in_default-clause-sums : goal.returns-in_default-clause-sums
returns-in_default-clause-sums c sums =
    let m = c.args.moment.now.features in
    subst (SumsUp c.loop.layers) (c.in_default.ensures.none ∙ sym (all_below m NUMBER_END c.requires.as_of.is_map (omega arith))) (c.loop.invariant.sums sums)

pub loop-preserved : goal.loop-preserved
loop-preserved c =
    let m = c.args.moment.now.features in
    record {
      further = omega (arith, c.loop.invariant.further, c.in-Some.ensures.further);
      within = omega (arith, c.in-Some.ensures.within);
      sums = λ sums. read_more c.loop.layers c.add_had.new.layers m c.loop.end c.in-Some.number
          (entry_of c.in-Some.number (option_map feature_view c.in-Some.had))
          c.in-Some.ensures.found (c.loop.invariant.sums sums) (c.in_ok-add_had.ensures c.in-Some.number);
    }
