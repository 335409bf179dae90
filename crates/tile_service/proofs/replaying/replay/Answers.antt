use Rattle.std.proofs.Common.{◌≡◌, ℕ, List, Result, Ok, Err, OnOk, sym, subst}
use Rattle.cached_map.specs.Cached.{CachedView}
use Rattle.edit_journal.specs.Records.{RecordData, records_of}
use Rattle.tile_service.specs.Replayed.{AreMade}
use Rattle.tile_service.proofs.replaying.replay.Goals as goal

-- what holds, holds at a success
whenever : {T E P : Type 0} (r : Result T E) → P → OnOk r P
whenever (Ok v) p = p
whenever (Err e) p = tt

-- the memory that a map has reserved is no part of what edits made of it
still_made : (rs : List RecordData) (old made new : CachedView) (n : ℕ) → new ≡ record made { spare = n } → AreMade rs old made → AreMade rs old new
still_made rs old made new n same m =
    subst (AreMade rs old) (sym same) (record { edits = m.edits; are_records = m.are_records; map_is = m.map_is; were = m.were })

pub returns-in-Ok-clause-made : goal.returns-in-Ok-clause-made
returns-in-Ok-clause-made c =
    whenever c.index.result
    (still_made (records_of c.args.records.items) c.args.map.now c.replay_each.new.map c.index.new.map c.index.new.map.spare c.index.ensures.same
    c.in-Ok.ensures.made)
