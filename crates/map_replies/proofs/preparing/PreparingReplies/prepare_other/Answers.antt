use Rattle.std.proofs.Common.{false, inl, refl}
use Rattle.map_replies.proofs.ReadyLemmas.{tile_at}
use Rattle.map_replies.proofs.preparing.PreparingReplies.prepare_other.Goals as goal

pub returns-then-not-is_large : goal.returns-then-not-is_large
returns-then-not-is_large g c = inl (refl, refl)

pub returns-in-Some : goal.returns-in-Some
returns-in-Some g c =
    let d = g.D.Sectors in
    tile_at d.sectors d.honest d.history d.faults c.args.self.now _ false c.prepare_asked.ensures

pub returns-then-is_for_metadata : goal.returns-then-is_for_metadata
returns-then-is_for_metadata g c = inl (c.prepare_metadata.ensures.same, c.prepare_metadata.ensures.whole)

pub returns-then-is_for_edit : goal.returns-then-is_for_edit
returns-then-is_for_edit g c = inl (c.prepare_edit.ensures.same, c.prepare_edit.ensures.whole)

pub returns : goal.returns
returns g c = inl (refl, refl)
