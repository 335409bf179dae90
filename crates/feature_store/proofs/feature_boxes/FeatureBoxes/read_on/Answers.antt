use Rattle.std.proofs.Common.{◌≡◌, ◌+◌, ◌-◌, ℕ, length, map, take, drop, ap, ◌∙◌, arith}
use Rattle.std.proofs.lemmas.List.{length-map}
use Rattle.feature_store.specs.Indexed.{index_entry}
use Rattle.feature_store.specs.Store.{FeatureMap}
use Rattle.feature_store.proofs.Boxes.{next_boxes}
use Rattle.feature_store.proofs.feature_boxes.FeatureBoxes.read_on.Goals as goal

pub returns-clause-first : goal.returns-clause-first
returns-clause-first c =
    let m = c.args.self.now in
    let first = c.requires.first in
    let within = first.within in
    let start = c.args.first.read in
    let count = c.min-count.result in
    let own = c.self.invariant ∙ ap (λ (n : FeatureMap). map index_entry n) c.self.view_is in
    let size : c.len.result ≡ length m = c.len.ensures ∙ c.self.inside.boxes.ok.0 ∙ ap length own ∙ length-map m index_entry in
    let part : start + count - start ≡ count = omega arith in
    record {
      few = omega (arith, within, size, c.min-count.ensures, c.len.type_inv);
      within = omega (arith, within, size, c.min-count.ensures);
      tiles = next_boxes c.args.zoom start count m c.deref.result.now (take (start + count - start) (drop start c.deref.result.now)) c.args.first.tiles.items
          c.append_boxes.new.tiles.items (c.deref.ensures.value ∙ own) (ap (λ (n : ℕ). take n (drop start c.deref.result.now)) part) first.tiles
          c.in_ok-append_boxes.ensures;
    }
