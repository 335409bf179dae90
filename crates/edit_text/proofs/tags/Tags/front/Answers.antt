use Rattle.edit_text.specs.Trusted.{tags_in}
use Rattle.edit_text.proofs.TagTexts.{tags_fit}
use Rattle.edit_text.proofs.tags.Tags.front.Goals as goal

pub invariant_of-result : goal.invariant_of-result
unfolding tags_in
invariant_of-result c = record { texts = rw (c.byte_in-count.ensures.number, c.byte_in-count.ensures.rest) (tags_fit (tags_in c.args.bytes.now).0 c.requires) }
