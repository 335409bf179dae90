use Rattle.std.proofs.Common.{map, All}
use Rattle.feature_model.specs.Spelled.{spelled_list, spelled_line}
use Rattle.feature_model.specs.Types.{IsOfWorld}
use Rattle.edit_text.proofs.Texts.{IsPut-more, text_all, types_all}
use Rattle.edit_text.proofs.encoding.put_polygons.Goals as goal

pub loop-rings-preserved : goal.loop-rings-preserved
loop-rings-preserved c = IsPut-more (spelled_list spelled_line) (All (All IsOfWorld))
    (λ p. map (λ r. r.items) p.items) c.args.polygons.now c.loop-rings.rings-index c.rings-item.result _ _ _ _ c.loop-rings-test.true c.loop-rings.invariant
    (cc) c.in_ok-put_lines.ensures.text c.in_ok-put_lines.ensures.types

pub returns-clause-text : goal.returns-clause-text
returns-clause-text c = text_all (spelled_list spelled_line) (All (All IsOfWorld))
    (λ p. map (λ r. r.items) p.items) c.args.polygons.now c.loop-rings.rings-index _ _ _ c.loop-rings-test.false c.in_ok-put_count.ensures
    c.loop-rings.invariant

pub returns-clause-types : goal.returns-clause-types
returns-clause-types c = types_all (spelled_list spelled_line) (All (All IsOfWorld))
    (λ p. map (λ r. r.items) p.items) c.args.polygons.now c.loop-rings.rings-index _ _ c.loop-rings-test.false c.loop-rings.invariant
