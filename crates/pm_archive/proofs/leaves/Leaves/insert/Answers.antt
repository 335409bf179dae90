use Rattle.std.proofs.Common.{◌∙◌, ap, arith}
use Rattle.pm_archive.specs.Entries.{LiesIn}
use Rattle.pm_archive.specs.Lookup.{LeafView, IsLeafOf, IsCachedBeside, bytes_of, left_beside}
use Rattle.pm_archive.proofs.CachedLeaves.{beside_fits, cached_beside, all_beside}
use Rattle.pm_archive.proofs.leaves.Leaves.insert.Goals as goal
use Rattle.pm_archive.proofs.leaves.Leaves.insert.Goals.{After-push}

pub push-requires-clause-fits : goal.push-requires-clause-fits
push-requires-clause-fits c =
    let fits = beside_fits c.len-length.result c.args.self.now (omega (arith, c.if-length-gt-MAX_CACHED_LEAF_BYTES.false)) in
    omega (arith, fits, ap bytes_of c.make_room.ensures, c.len-length.ensures)

beside : (c : After-push) → IsCachedBeside c.args.leaf c.args.self.now c.push.new.self
beside c = cached_beside c.args.leaf c.args.self.now c.make_room.new.self c.push.new.self
    (c.make_room.ensures ∙ ap (λ n. left_beside n c.args.self.now) c.len-length.ensures) c.push.ensures.cached

pub returns-clause-cached : goal.returns-clause-cached
returns-clause-cached c = λ small. beside c

pub returns-clause-still : goal.returns-clause-still
returns-clause-still c = λ bytes h. all_beside (IsLeafOf bytes h) c.args.leaf c.args.self.now c.push.new.self (beside c)

pub returns-clause-inside : goal.returns-clause-inside
returns-clause-inside c = λ h. all_beside (λ (leaf : LeafView). LiesIn h.leaves leaf.entry) c.args.leaf c.args.self.now c.push.new.self (beside c)
