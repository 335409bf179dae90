use Rattle.std.proofs.Common.{◌-◌, ◌++◌, length, take, drop, sym, ap, ◌∙◌, arith}
use Rattle.feature_store.specs.Chosen.{chosen}
use Rattle.feature_store.specs.Layers.{cuts_of}
use Rattle.feature_store.proofs.Chosen.{cuts_parted, next_part, parted}
use Rattle.feature_store.proofs.Gathers.{gathers_same}
use Rattle.feature_store.proofs.tile_parts.TileParts.add_features.Goals as goal

pub returns-clause-making : goal.returns-clause-making
returns-clause-making c =
    let m = c.args.moment.now.features in
    let old = c.args.self.now in
    let at = old.at in
    let making = c.requires.making in
    let numbers = old.numbers.items in
    let count = c.min-count.result in
    let start = length numbers - old.left in
    let added = take start numbers in
    let part = take count (drop start numbers) in
    record {
      zoom = making.zoom;
      shown = making.shown;
      left = omega (arith, making.left);
      gathers = λ none. gathers_same c.add_numbers.new.gathered _ _
          (λ name. ap (λ ns. cuts_of (chosen m added) name at.z at.x at.y ++ cuts_of (chosen m ns) name at.z at.x at.y)
          (next_part numbers c.deref.result.now c.len.result old.left count (c.len.ensures ∙ old.numbers.ok.0) c.deref.ensures.value)
          ∙ cuts_parted m added part name at.z at.x at.y
          ∙ ap (λ ns. cuts_of (chosen m ns) name at.z at.x at.y) (sym (parted numbers old.left count (omega (arith, c.min-count.ensures)) making.left)))
          (c.in_ok-add_numbers.ensures _ (making.gathers c.requires.gathered));
      ends = making.ends;
    }
