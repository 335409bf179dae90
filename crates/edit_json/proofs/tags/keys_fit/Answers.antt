use Rattle.std.proofs.Common.{All, refl, ◌∙◌}
use Rattle.serde_json.specs.View.{members_view}
use Rattle.feature_model.specs.Limits.{IsName}
use Rattle.edit_json.specs.Faults.{names_of}
use Rattle.edit_json.proofs.TagLemmas.{keys_start, keys_more}
use Rattle.edit_json.proofs.tags.keys_fit.Goals as goal

pub loop-key-init : goal.loop-key-init
loop-key-init c = keys_start c.into_iter-key-iterator.result c.args.tags.now.entries
    (c.into_iter-key-iterator.ensures.into_iter_gives ∙ c.keys-key-items.ensures.rest)

pub loop-key-preserved : goal.loop-key-preserved
loop-key-preserved c =
    keys_more (All IsName (names_of (members_view c.args.tags.now.entries))) c.loop-key.key-iterator c.next.new.self c.in-Some.key.now c.in-Some.ensures.steps
    (rw (← c.as_str.ensures.value) (c.if-not-is_name.ensures.0 refl)) c.loop-key.invariant
