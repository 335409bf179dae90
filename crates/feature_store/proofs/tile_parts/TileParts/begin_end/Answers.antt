use Rattle.std.proofs.Common.{sym, subst}
use Rattle.feature_store.specs.Gathered.{Gathered, Gathers}
use Rattle.feature_store.specs.Layers.{cuts_of}
use Rattle.feature_store.proofs.Chosen.{all_shown}
use Rattle.feature_store.proofs.Unique.{a_tile}
use Rattle.feature_store.proofs.tile_parts.TileParts.begin_end.Goals as goal

pub returns-clause-making : goal.returns-clause-making
returns-clause-making c = λ m is_map making.
    let at = c.args.self.now.at in
    let gathers = all_shown m c.args.self.now is_map making c.requires.gathered c.requires.none in
    record {
      zoom = making.zoom;
      shown = making.shown;
      left = making.left;
      gathers = λ none. absurd (cc);
      ends = c.of.ensures.ends m at.z at.x at.y
          (subst (λ (g : Gathered). Gathers g (λ name. cuts_of m name at.z at.x at.y)) (sym c.replace-gathered.ensures.value) gathers)
          (a_tile at.z at.x at.y making.zoom at.column at.row);
    }
