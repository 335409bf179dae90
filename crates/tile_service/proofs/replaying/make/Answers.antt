use Rattle.std.proofs.Common.{◌≤◌, ◌∙◌, List, length, map, refl, sym, ap, subst, arith}
use Rattle.cached_map.specs.Cached.{WasMap, AreReadRight}
use Rattle.feature_store.specs.Prepared.{prepared_data}
use Rattle.feature_store.specs.Store.{edited, puts_in, snapshot}
use Rattle.feature_store.specs.declared.prepared.Prepared.{Prepared}
use Rattle.tile_service.proofs.replaying.make.Goals as goal

pub overflow_add-number : goal.overflow_add-number
overflow_add-number c = omega (arith, c.requires.number, c.last-number.ensures)

pub returns-in-Err-clause-fault : goal.returns-in-Err-clause-fault
returns-in-Err-clause-fault c = refl

pub make_edit-requires-clause-changes : goal.make_edit-requires-clause-changes
make_edit-requires-clause-changes c = c.requires.edit.changes

pub make_edit-requires-clause-room : goal.make_edit-requires-clause-room
make_edit-requires-clause-room c =
    subst (λ (cs : List Prepared). puts_in (map prepared_data cs) ≤ c.room_for.new.self.spare) c.deref.ensures.value c.in-Ok.ensures.room

pub make_edit-requires-clause-texts : goal.make_edit-requires-clause-texts
make_edit-requires-clause-texts c = omega (arith, c.requires.texts, ap (λ m. length (snapshot m.features)) c.room_for.ensures.same)

pub make_edit-requires-clause-later : goal.make_edit-requires-clause-later
make_edit-requires-clause-later c = omega (arith, ap (λ m. m.last) c.room_for.ensures.same, c.last-number.ensures)

pub returns-clause-map : goal.returns-clause-map
returns-clause-map c = c.make_edit.ensures.map ∙ ap (λ m. edited m.features (map prepared_data c.args.changes.items)) c.room_for.ensures.same

pub returns-clause-last : goal.returns-clause-last
returns-clause-last c = omega (arith, c.make_edit.ensures.last, c.last-number.ensures)

pub returns-clause-now : goal.returns-clause-now
returns-clause-now c = c.make_edit.ensures.now

pub returns-clause-since : goal.returns-clause-since
returns-clause-since c = λ n was is. c.make_edit.ensures.since n was (subst (λ m. WasMap m.features m.touched m.last n was) (sym c.room_for.ensures.same) is)

pub returns-clause-reads : goal.returns-clause-reads
returns-clause-reads c = λ right. c.make_edit.ensures.reads (subst (λ m. AreReadRight m.features m.touched m.last m.kept) (sym c.room_for.ensures.same) right)
