use Rattle.std.proofs.Common.{◌≡◌, ℕ, suc, ◌+◌, ◌<◌, false, get_or, set, List, ◌∷◌, ◌++◌, [], rules, length, refl, ◌∙◌, sym, ap, arith}
use Rattle.std.specs.Prelude.{None}
use Rattle.mvt_write.specs.Entries.{entries_of}
use Rattle.mvt_write.specs.Pools.{has_entry}
use Rattle.mvt_write.specs.Slots.{slot_index, code_index, bytes_index, named, led}
use Rattle.mvt_write.proofs.Pooled.{placed_last, with_new}
use Rattle.mvt_write.proofs.Slotted.{absent_if_none, slot_names, first_led, first_free, found_more, same_led, named_within, still_within}
use Rattle.mvt_write.proofs.pool.Pool.add_first.Goals as goal

pub invariant_of-self : goal.invariant_of-self
invariant_of-self c =
    let before = c.args.self.now in
    let same = c.reserve.ensures.same in
    record {
      looked = λ q. rw same (before.looked q);
      free = λ q. rw same (before.free q);
      coded = before.coded;
      first = λ q. rw same (before.first q);
      second = λ q. rw same (before.second q);
    }

pub invariant_of-self-2 : goal.invariant_of-self-2
invariant_of-self-2 c =
    let before = c.args.self.now in
    let pool = entries_of before.entries in
    let entry = c.args.entry.now in
    let pushed : entries_of c.push.new.self ≡ pool ++ entry ∷ [] = c.push.ensures ∙ ap (λ (p : List (List ℕ)). p ++ entry ∷ []) c.in_ok-reserve.ensures.same in
    let slots = before.slots.value in
    let number : c.len-index.result + 1 ≡ suc (length pool) = omega (arith, c.len-index.ensures) in
    let after : set c.deref_mut.result.now c.args.place (c.len-index.result + 1) ≡ set slots c.args.place (suc (length pool)) =
    rw (number, c.deref_mut.ensures.value) refl in
    let inside : c.args.place < length slots = search rules in
    let names = slot_names pool entry slots c.args.place inside c.requires.place c.requires.free in
    let code = code_index before.codes in
    let others = bytes_index before.others in
    let beside = λ (q : List ℕ). led pool (code q) q (others q) in
    let beside_after = λ (q : List ℕ). led (pool ++ entry ∷ []) (code q) q (others q) in
    let same = same_led pool entry code others others before.second (λ q. refl) in
    let own : slot_index slots entry ≡ None = ap named (ap (λ (p : ℕ). get_or slots p 0) (sym c.requires.place) ∙ c.requires.free) in
    let absent : has_entry pool entry ≡ false = absent_if_none pool entry (rw own at (before.looked entry)) in
    let steps = first_led pool entry (slot_index slots) (slot_index (set slots c.args.place (suc (length pool)))) beside beside_after before.first
    before.free same names in
    record {
      looked = λ q. rw (pushed, after) (found_more pool entry _ _ absent before.looked steps q);
      free = λ q. rw (pushed, after) (first_free pool entry _ _ beside beside_after before.free same names q);
      coded = before.coded;
      first = λ q. rw (pushed, after) (named_within pool entry _ _ before.first names q);
      second = λ q. rw pushed (still_within pool entry code before.second q);
    }

pub returns-clause-index : goal.returns-clause-index
returns-clause-index c =
    let before = c.args.self.now in
    let pool = entries_of before.entries in
    let entry = c.args.entry.now in
    let pushed : entries_of c.push.new.self ≡ pool ++ entry ∷ [] = c.push.ensures ∙ ap (λ (p : List (List ℕ)). p ++ entry ∷ []) c.in_ok-reserve.ensures.same in
    let own : slot_index before.slots.value entry ≡ None = ap named (ap (λ (p : ℕ). get_or before.slots.value p 0) (sym c.requires.place) ∙ c.requires.free) in
    let absent : has_entry pool entry ≡ false = absent_if_none pool entry (rw own at (before.looked entry)) in
    rw pushed (placed_last pool entry absent ∙ sym c.len-index.ensures)

pub returns-clause-entries : goal.returns-clause-entries
returns-clause-entries c =
    let before = c.args.self.now in
    let pool = entries_of before.entries in
    let entry = c.args.entry.now in
    let pushed : entries_of c.push.new.self ≡ pool ++ entry ∷ [] = c.push.ensures ∙ ap (λ (p : List (List ℕ)). p ++ entry ∷ []) c.in_ok-reserve.ensures.same in
    let own : slot_index before.slots.value entry ≡ None = ap named (ap (λ (p : ℕ). get_or before.slots.value p 0) (sym c.requires.place) ∙ c.requires.free) in
    let absent : has_entry pool entry ≡ false = absent_if_none pool entry (rw own at (before.looked entry)) in
    pushed ∙ sym (with_new pool entry absent)
