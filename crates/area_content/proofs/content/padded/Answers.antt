use Rattle.std.proofs.lemmas.List.{drop-replicate}
use Rattle.area_content.proofs.content.padded.Goals as goal

pub returns : goal.returns
returns c = let copied = c.copy_from_slice.ensures.after in simp (copied, drop-replicate)
