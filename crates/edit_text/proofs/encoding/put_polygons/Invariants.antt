use Rattle.std.proofs.Common.{map, All}
use Rattle.feature_model.specs.Spelled.{spelled_list, spelled_line}
use Rattle.feature_model.specs.Types.{IsOfWorld}
use Rattle.edit_text.proofs.Texts.{IsPut}
use Rattle.edit_text.proofs.encoding.put_polygons.Given as goal

abbrev pub invariant-loop-rings : goal.invariant-loop-rings
invariant-loop-rings l = IsPut (spelled_list spelled_line) (All (All IsOfWorld))
    (λ p. map (λ r. r.items) p.items) l.polygons l.rings-index l.initial.out.items l.out.items
