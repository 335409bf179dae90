use Rattle.std.proofs.Common.{false, refl, sym, subst}
use Rattle.std.specs.Prelude.{All}
use Rattle.feature_model.specs.Limits.{CountFits}
use Rattle.edit_text.specs.declared.lists.Lines.{Lines}
use Rattle.edit_text.specs.Views.{points_view, lines_view}
use Rattle.tile_cutter.specs.Cut.{line_cut, lines_cut}
use Rattle.tile_cutter.proofs.Each.{first_keeps, rest_keeps}
use Rattle.tile_cutter.proofs.PutLists.{ListsGo, lists_begin, lists_item, lists_over}
use Rattle.tile_cutter.proofs.lines.put_all.Goals as goal

pub loop-line-init : goal.loop-line-init
unfolding lines_cut
loop-line-init c =
    let at = c.args.at in
    let lines = lines_view c.args.lines in
    let starts = sym c.into_iter-line-iterator.ensures.into_iter_gives in
    record {
      chains =
          subst (λ (s : Lines). ListsGo false at.x at.y (line_cut at.z at.x at.y) (lines_view s) (lines_cut at.z at.x at.y lines) c.args.out.now c.args.out.now)
          starts (lists_begin false at.x at.y (line_cut at.z at.x at.y) lines (lines_cut at.z at.x at.y lines) c.args.out.now refl c.requires.cursor);
      limits = subst (λ (s : Lines). All (CountFits 2) (lines_view s)) starts c.requires.limits;
    }

pub put_line-requires-clause-limits : goal.put_line-requires-clause-limits
put_line-requires-clause-limits c =
    first_keeps (CountFits 2) (lines_view c.loop-line.line-iterator) (lines_view c.next.new.self) (points_view c.in-Some.line) c.in-Some.ensures.steps
    c.loop-line.invariant.limits

pub loop-line-preserved : goal.loop-line-preserved
loop-line-preserved c =
    let at = c.args.at in
    let left = lines_view c.loop-line.line-iterator in
    let rest = lines_view c.next.new.self in
    let line = points_view c.in-Some.line in
    let first = c.in-Some.ensures.steps in
    record {
      chains =
          lists_item false at.x at.y (line_cut at.z at.x at.y) left rest line (lines_cut at.z at.x at.y (lines_view c.args.lines)) c.args.out.now
          c.loop-line.out c.put_line.new.out c.loop-line.invariant.chains first c.in_ok-put_line.ensures.chains c.in_ok-put_line.ensures.drawable;
      limits = rest_keeps (CountFits 2) left rest line first c.loop-line.invariant.limits;
    }

pub returns-clause-chains : goal.returns-clause-chains
returns-clause-chains c =
    let at = c.args.at in
    (lists_over false at.x at.y (line_cut at.z at.x at.y) (lines_view c.loop-line.line-iterator) (lines_cut at.z at.x at.y (lines_view c.args.lines))
    c.args.out.now c.loop-line.out c.loop-line.invariant.chains c.in-None.ensures.steps.0).0

pub returns-clause-drawable : goal.returns-clause-drawable
returns-clause-drawable c =
    let at = c.args.at in
    (lists_over false at.x at.y (line_cut at.z at.x at.y) (lines_view c.loop-line.line-iterator) (lines_cut at.z at.x at.y (lines_view c.args.lines))
    c.args.out.now c.loop-line.out c.loop-line.invariant.chains c.in-None.ensures.steps.0).1
