-- A law of what is written, for the crates above.
use Rattle.std.specs.Prelude.{◌<◌, ◌^◌, List, length, All}
use Rattle.mvt_layer.specs.Tile.{LayerView}
use Rattle.mvt_layer.specs.Reads.{ReadsAs}
use Rattle.mvt_write.specs.CanWrite.{CanWriteAll}
use Rattle.mvt_write.specs.Fits.{FitsLayer}
use Rattle.mvt_write.specs.Written.{written}
use Rattle.mvt_write.proofs.LayersRead as layers

-- What is written for layers that can be written reads as these layers, where 64 bits hold its length.
pub written_reads : (ls : List LayerView) → CanWriteAll ls → All FitsLayer ls → length (written ls) < 2 ^ 64 → ReadsAs (written ls) ls
written_reads = layers.written_reads
