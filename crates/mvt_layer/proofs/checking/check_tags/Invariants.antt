use Rattle.std.proofs.Common.{List, [], length}
use Rattle.mvt_layer.specs.Tile.{bytes_of, tag_views, Tagged}
use Rattle.mvt_layer.specs.Reading.{tags_at}
use Rattle.mvt_layer.proofs.Tags.{TagsSoFar}
use Rattle.mvt_layer.proofs.checking.check_tags.Given as goal

-- there are tags after which the rest is
abbrev pub invariant-loop-rest : goal.invariant-loop-rest
invariant-loop-rest l = (before : List Tagged)
    × TagsSoFar (bytes_of l.keys) (tag_views l.values) l.used before l.rest (tags_at (bytes_of l.keys) (tag_views l.values) [] [] l.indices)

abbrev pub decreases-loop-rest : goal.decreases-loop-rest
decreases-loop-rest l = length l.rest
