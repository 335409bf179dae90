use Rattle.std.proofs.Common.{◌≤◌, Some, ap, subst, sym, ◌∙◌}
use Rattle.serde_json.specs.Data.{Data, depth}
use Rattle.serde_json.specs.Read.{max_depth}
use Rattle.serde_json.specs.Written.{has_float, compact_text}
use Rattle.edit_text.specs.Views.{feature_view}
use Rattle.map_replies.proofs.Texts.{feature_whole, feature_shallow}
use Rattle.map_replies.proofs.showing.feature_text.Goals as goal

pub returns-clause-text : goal.returns-clause-text
returns-clause-text c =
    c.in_ok-to_vec.ensures.text (ap has_float c.in_ok-value.ensures ∙ feature_whole (feature_view c.args.feature))
    ∙ ap compact_text c.in_ok-value.ensures

pub returns-clause-reads : goal.returns-clause-reads
returns-clause-reads c = (
  c.in_ok-to_vec.ensures.utf8,
  c.in_ok-to_vec.ensures.reads_back
      (subst (λ (d : Data). depth d ≤ max_depth) (sym c.in_ok-value.ensures) (feature_shallow (feature_view c.args.feature)))
      ∙ ap (λ (d : Data). Some d) c.in_ok-value.ensures,
)
