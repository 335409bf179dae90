use Rattle.std.proofs.Common.{sym, ◌∙◌}
use Rattle.tile_routes.proofs.Texts.{ascii-text}
use Rattle.tile_routes.proofs.routes.ascii_text.Goals as goal

pub from_utf8_unchecked-requires : goal.from_utf8_unchecked-requires
from_utf8_unchecked-requires c = ascii-text c.args.bytes.now (sym c.are_ascii.ensures ∙ c.if-not-are_ascii.false)
