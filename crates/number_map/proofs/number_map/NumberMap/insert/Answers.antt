use Rattle.std.proofs.Common.{◌≡◌, ◌<◌, ◌⊎◌, [], IsSome, length, not, sym, ap, subst, ◌∙◌, arith}
use Rattle.std.specs.Option.{is_some}
use Rattle.std.specs.Ordering.{nat_cmp}
use Rattle.std.specs.BTreeMap.{is_at, insert_entry}
use Rattle.std.specs.Map.{lookup}
use Rattle.std.proofs.lemmas.List.Elements.{All-pop}
use Rattle.number_map.specs.Blocks.{joined, Ascends, AreInOrder, IsHome}
use Rattle.number_map.specs.Inside.{map_view}
use Rattle.number_map.proofs.Entries.{ascends_set, length_set_new, length_set_same}
use Rattle.number_map.proofs.Firsts.{firsts_ascend}
use Rattle.number_map.proofs.Home.{home_at}
use Rattle.number_map.proofs.Places.{room_where_absent}
use Rattle.number_map.proofs.number_map.NumberMap.insert.Given as given
use Rattle.number_map.proofs.number_map.NumberMap.insert.Goals as goal
use Rattle.number_map.proofs.number_map.NumberMap.insert.Goals.{After-pop}

pub home_of-at-requires : goal.home_of-at-requires
home_of-at-requires g c =
    firsts_ascend c.self.inside.blocks.items c.deref.result.now c.self.invariant.order (c.deref.ensures.value ∙ c.self.invariant.firsts)

pub put-requires-clause-home : goal.put-requires-clause-home
put-requires-clause-home g c =
    home_at c.self.inside.blocks.items c.deref.result.now c.args.number c.home_of-at.result c.self.invariant.order
    (c.deref.ensures.value ∙ c.self.invariant.firsts) c.home_of-at.ensures

-- ---- the block has a place

-- the number had no value
pub invariant_of-self : goal.invariant_of-self
invariant_of-self g c =
    let es = joined c.self.inside.blocks.items in
    let n = c.args.number in
    let facts = c.in-Ok.ensures in
    let none = ap is_some (sym facts.before) ∙ c.is_none.ensures ∙ ap not c.if-is_none.true in
    record {
      order =
          record { ascending = subst Ascends (sym facts.entries) (ascends_set es n c.args.value c.self.invariant.order.ascending); filled = facts.filled };
      firsts = facts.firsts;
      count = omega (arith, ap length facts.entries, length_set_new es n c.args.value none, c.self.invariant.count);
      spare = c.self.invariant.spare;
    }

-- it had one
pub invariant_of-self-else-is_none : goal.invariant_of-self-else-is_none
invariant_of-self-else-is_none g c =
    let es = joined c.self.inside.blocks.items in
    let n = c.args.number in
    let facts = c.in-Ok.ensures in
    let up = c.self.invariant.order.ascending in
    let some = ap is_some (sym facts.before) ∙ c.is_none.ensures ∙ ap not c.if-is_none.false in
    record {
      order = record { ascending = subst Ascends (sym facts.entries) (ascends_set es n c.args.value up); filled = facts.filled };
      firsts = facts.firsts;
      count = omega (arith, ap length facts.entries, length_set_same es n c.args.value up some, c.self.invariant.count);
      spare = c.self.invariant.spare;
    }

-- ---- the block is full, or there is no block

-- so there is room for it
room_there : (g : given.Over) (c : After-pop g) → 0 < (map_view c.self.inside).spare
room_there g c = room_where_absent (map_view c.self.inside) c.args.number c.in-Err.ensures.absent
    (subst (λ m. (0 < m.spare) ⊎ IsSome (lookup (is_at (nat_cmp c.args.number)) m.entries)) (sym c.self.view_is) c.requires)

pub unwrap-spare-requires : goal.unwrap-spare-requires
unwrap-spare-requires g c =
    let room = room_there g (goal.at.unwrap-spare-requires g c).After-pop in
    c.pop.ensures.variant.1 (omega (arith, room))

pub put_beside-requires-clause-empty : goal.put_beside-requires-clause-empty
put_beside-requires-clause-empty g c =
    let popped = All-pop (λ b. b ≡ []) c.self.inside.spare.items c.pop.new.self.items c.pop.result c.pop.ensures.items c.self.invariant.spare in
    rw c.unwrap-spare.ensures at popped.1

pub put_beside-requires-clause-order : goal.put_beside-requires-clause-order
put_beside-requires-clause-order g c = subst AreInOrder (sym c.in-Err.ensures.unchanged) c.self.invariant.order

pub put_beside-requires-clause-home : goal.put_beside-requires-clause-home
put_beside-requires-clause-home g c =
    let home = home_at c.self.inside.blocks.items c.deref.result.now c.args.number c.home_of-at.result c.self.invariant.order
    (c.deref.ensures.value ∙ c.self.invariant.firsts) c.home_of-at.ensures in
    subst (λ bs. IsHome bs c.args.number c.home_of-at.result) (sym c.in-Err.ensures.unchanged) home

pub put_beside-requires-clause-room : goal.put_beside-requires-clause-room
put_beside-requires-clause-room g c =
    let room = room_there g (goal.at.put_beside-requires-clause-room g c).After-pop in
    omega (arith, room)

pub put_beside-requires-clause-firsts_room : goal.put_beside-requires-clause-firsts_room
put_beside-requires-clause-firsts_room g c =
    let room = room_there g (goal.at.put_beside-requires-clause-firsts_room g c).After-pop in
    omega (arith, room)

pub overflow_add-self-in-Err : goal.overflow_add-self-in-Err
overflow_add-self-in-Err g c =
    let room = room_there g (goal.at.overflow_add-self-in-Err g c).After-pop in
    omega (arith, room)

pub invariant_of-self-in-Err : goal.invariant_of-self-in-Err
invariant_of-self-in-Err g c =
    let es = joined c.self.inside.blocks.items in
    let n = c.args.number in
    let absent = c.in-Err.ensures.absent in
    let popped = All-pop (λ b. b ≡ []) c.self.inside.spare.items c.pop.new.self.items c.pop.result c.pop.ensures.items c.self.invariant.spare in
    let facts = c.put_beside.ensures in
    let set = facts.entries ∙ ap (λ bs. insert_entry nat_cmp (joined bs) n c.in-Err.value) c.in-Err.ensures.unchanged in
    record {
      order = record { ascending = subst Ascends (sym set) (ascends_set es n c.in-Err.value c.self.invariant.order.ascending); filled = facts.filled };
      firsts = facts.firsts;
      count = omega (arith, ap length set, length_set_new es n c.in-Err.value (ap is_some absent), c.self.invariant.count);
      spare = popped.0;
    }

pub returns-then-is_none-clause-entries : goal.returns-then-is_none-clause-entries
returns-then-is_none-clause-entries g c = rw (← c.self.view_is) c.in-Ok.ensures.entries

pub returns-then-is_none-clause-before : goal.returns-then-is_none-clause-before
returns-then-is_none-clause-before g c = rw (← c.self.view_is) c.in-Ok.ensures.before

pub returns-else-is_none-clause-entries : goal.returns-else-is_none-clause-entries
returns-else-is_none-clause-entries g c = rw (← c.self.view_is) c.in-Ok.ensures.entries

pub returns-else-is_none-clause-before : goal.returns-else-is_none-clause-before
returns-else-is_none-clause-before g c = rw (← c.self.view_is) c.in-Ok.ensures.before

pub put_beside-requires-clause-full : goal.put_beside-requires-clause-full
put_beside-requires-clause-full g c = c.in-Err.ensures.full
