use Rattle.std.proofs.Common.{◌≡◌, ap, map, ◌∙◌}
use Rattle.serde_json.specs.View.{view}
use Rattle.serde_json.specs.Written.{has_float, compact_text}
use Rattle.edit_json.specs.Numbered.{numbered_json, numbered_edit}
use Rattle.feature_store.specs.Prepared.{prepared_data}
use Rattle.map_replies.specs.Feed.{listed_edit}
use Rattle.map_replies.proofs.Texts.{edit_whole}
use Rattle.map_replies.proofs.feed.changes_text.Goals as goal

pub returns : goal.returns
unfolding listed_edit
returns c =
    let is : view c.in_ok-value.value ≡ numbered_edit c.args.number (map prepared_data c.args.changes.now) =
    c.in_ok-value.ensures ∙ ap (numbered_json c.args.number) c.in_ok-changes.ensures in
    c.in_ok-to_vec.ensures.text (ap has_float is ∙ edit_whole c.args.number (map prepared_data c.args.changes.now)) ∙ ap compact_text is
