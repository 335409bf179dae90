use Rattle.std.proofs.Common.{sym, ap, ◌∙◌}
use Rattle.pm_build.specs.TileContents.{bytes_of}
use Rattle.pm_build.specs.declared.tile_content.TileContent.{TileContent}
use Rattle.pm_build.proofs.contents.Contents.bytes_of.Goals as goal

pub returns-in-Given : goal.returns-in-Given
returns-in-Given c = sym (ap (λ (t : TileContent). bytes_of t c.args.self.now.ahead) c.in-Given.is)

pub returns-in-Ahead : goal.returns-in-Ahead
returns-in-Ahead c = c.ahead.ensures ∙ sym (ap (λ (t : TileContent). bytes_of t c.args.self.now.ahead) c.in-Ahead.is)
