use Rattle.std.proofs.Common.{◌≡◌, inl, ℕ, List, [], length, Option, sym, ap, subst, ◌∙◌}
use Rattle.feature_store.specs.Store.{IsMap, snapshot}
use Rattle.pm_build.specs.Building.{BuilderView}
use Rattle.pm_build.specs.Tiles.{Tile}
use Rattle.area_content.specs.Faults.{AreAdded}
use Rattle.area_content.specs.Room.{AreBeyondIf, added_so_far}
use Rattle.area_content.proofs.Drafts.{going_not_made}
use Rattle.area_content.proofs.MapTiles.{none_added}
use Rattle.area_content.proofs.Steps.{none_waits}
use Rattle.area_content.proofs.draft.ContentDraft.of.Goals as goal

pub invariant_of-result : goal.invariant_of-result
invariant_of-result c =
    let finished = c.in_ok-text.ensures in
    let same = finished.map in
    let m = c.in_ok-text.tiles.features in
    let metadata = c.args.metadata.items in
    let none : added_so_far c.new.result.kept.tiles c.new.result.counted ≡ [] =
    ap (λ (o : Option (List Tile)). added_so_far c.new.result.kept.tiles o) c.new.ensures.counted ∙ ap (λ (v : BuilderView). v.tiles) c.new.ensures.kept in
    record {
      is_map = subst IsMap (sym same) c.finish.ensures.is_map;
      text = finished.text ∙ ap snapshot (sym same);
      metadata = c.requires.metadata;
      area = c.requires.area;
      going = λ going. none_waits m metadata c.args.area c.in_ok-text.tiles.from c.new.result
          (record {
            added = subst (λ (ts : List Tile). AreAdded m c.in_ok-text.tiles.from ts) (sym none)
                (subst (λ (n : ℕ). AreAdded m n []) (sym finished.start) (none_added m));
            within = inl (ap (λ (v : BuilderView). v.tiles) c.new.ensures.kept);
            beyond = subst (λ (o : Option (List Tile)). AreBeyondIf m metadata c.args.area o) (sym c.new.ensures.counted) tt;
          })
          c.new.ensures.waiting (ap (λ (v : BuilderView). v.ahead) c.new.ensures.kept);
      count = λ going. sym (ap (λ (ts : List Tile). length ts) none);
      made = λ made. absurd (going_not_made made);
    }
