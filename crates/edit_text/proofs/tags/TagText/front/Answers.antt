use Rattle.edit_text.specs.Trusted.{tag_in}
use Rattle.edit_text.proofs.TagTexts.{key_is_text, value_is_text}
use Rattle.edit_text.proofs.tags.TagText.front.Goals as goal

pub name_in-requires : goal.name_in-requires
unfolding tag_in
name_in-requires c = key_is_text (tag_in c.args.bytes.now).0 c.requires

pub front-requires : goal.front-requires
unfolding tag_in
front-requires c = rw (c.name_in.ensures.rest) (value_is_text (tag_in c.args.bytes.now).0 c.requires)
