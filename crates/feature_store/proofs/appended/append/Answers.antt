use Rattle.std.proofs.Common.{◌∙◌, arith}
use Rattle.feature_store.proofs.Snapshots.{with_behind}
use Rattle.feature_store.proofs.Texts.{with_takes}
use Rattle.feature_store.proofs.appended.append.Goals as goal

pub place-requires-clause-texts : goal.place-requires-clause-texts
place-requires-clause-texts c =
    rw c.in_ok-room.ensures.map (omega (arith, with_takes c.args.store.now.features c.args.stored.0 c.args.stored.1, c.requires.texts))

pub returns : goal.returns
returns c =
    c.place.ensures.map ∙ rw c.in_ok-room.ensures.map (with_behind c.args.store.now.features c.args.stored.0 c.args.stored.1 c.requires.behind)
