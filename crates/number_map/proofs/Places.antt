-- Where there is room for a number.
use Rattle.std.proofs.Common.{◌≡◌, ℕ, ◌<◌, ◌≤◌, ◌⊎◌, vec_len, vec_capacity, Result, Ok, Err, OnOk, OnErr, None, IsSome, ap, inl, inr, arith}
use Rattle.std.specs.Option.{is_some}
use Rattle.std.specs.Ordering.{nat_cmp}
use Rattle.std.specs.BTreeMap.{is_at}
use Rattle.std.specs.Map.{lookup}
use Rattle.number_map.specs.MapView.{MapView}
use Rattle.number_map.specs.Inside.{map_view}
use Rattle.number_map.specs.declared.number_map.NumberMap.TheInside.{Inside}
use Rattle.number_map.proofs.Entries.{not_both}

-- what fails only in a full block succeeds in one that isn't full
pub ok_where_room : {X Y P : Type 0} (r : Result X Y) (most count : ℕ) → OnOk r P → OnErr r (most ≤ count) → count < most → P
ok_where_room (Ok x) most count done full room = done
ok_where_room (Err y) most count done full room = absurd (omega (arith, full, room))

-- where a number has no value, room for it is room for one number more
pub room_where_absent : {T : Type 0} (m : MapView T) (n : ℕ) → lookup (is_at (nat_cmp n)) m.entries ≡ None
    → (0 < m.spare) ⊎ IsSome (lookup (is_at (nat_cmp n)) m.entries) → 0 < m.spare
room_where_absent m n none (inl room) = room
room_where_absent m n none (inr there) = not_both n m.entries (ap is_some none) there

-- ---- room after a change

pub at_most : {a b : ℕ} → a ≡ b → a ≤ b
at_most e = omega (arith, e)

-- no list takes more of its memory
pub record IsAsRoomy {T : Type 0} (old new : Inside T) : Type 0 where
  pub spare : vec_len old.spare ≤ vec_len new.spare
  pub firsts_len : vec_len new.firsts ≤ vec_len old.firsts
  pub firsts_capacity : vec_capacity old.firsts ≤ vec_capacity new.firsts
  pub len : vec_len new.blocks ≤ vec_len old.blocks
  pub capacity : vec_capacity old.blocks ≤ vec_capacity new.blocks

pub room_stays : {T : Type 0} (old new : Inside T) → IsAsRoomy old new → new.len ≤ old.len → (map_view old).spare ≤ (map_view new).spare
room_stays old new is count = omega (arith, is.spare, is.firsts_len, is.firsts_capacity, is.len, is.capacity, count)
