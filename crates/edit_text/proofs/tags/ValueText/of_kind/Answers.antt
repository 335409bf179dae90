use Rattle.edit_text.proofs.TagTexts.{long_text_is}
use Rattle.edit_text.proofs.tags.ValueText.of_kind.Goals as goal

pub long_text_in-requires : goal.long_text_in-requires
long_text_in-requires c = long_text_is c.args.kind c.args.bytes.now c.in-1.is c.requires
