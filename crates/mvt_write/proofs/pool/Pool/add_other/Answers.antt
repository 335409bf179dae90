use Rattle.std.proofs.Common.{◌≡◌, ℕ, false, List, ◌∷◌, ◌++◌, [], ◌∙◌, sym, ap}
use Rattle.std.specs.Prelude.{Some}
use Rattle.mvt_write.specs.Entries.{entries_of}
use Rattle.mvt_write.specs.Pools.{has_entry}
use Rattle.mvt_write.specs.Slots.{slot_index, code_index, bytes_index, led}
use Rattle.mvt_write.proofs.Pooled.{placed_last, with_new}
use Rattle.mvt_write.proofs.Slotted.{Extends, absent_if_none, others_tell, bytes_after, next_led, next_free, found_more, still_within}
use Rattle.mvt_write.proofs.pool.Pool.add_other.Goals as goal

pub invariant_of-self : goal.invariant_of-self
invariant_of-self c =
    let before = c.args.self.now in
    let same = c.reserve.ensures.same in
    record {
      looked = λ q. rw same (before.looked q);
      free = λ q. rw same (before.free q);
      coded = before.coded;
      first = λ q. rw same (before.first q);
      second = λ q. rw same (before.second q);
    }

pub invariant_of-self-in-Break-branch-3 : goal.invariant_of-self-in-Break-branch-3
invariant_of-self-in-Break-branch-3 c =
    let before = c.args.self.now in
    let same = c.reserve.ensures.same in
    let kept : c.insert.new.self.entries ≡ before.others.entries = c.in_err-insert.ensures.err in
    record {
      looked = λ q. rw (same, kept) (before.looked q);
      free = λ q. rw (same, kept) (before.free q);
      coded = λ q. rw kept (before.coded q);
      first = λ q. rw same (before.first q);
      second = λ q. rw (same) (before.second q);
    }

pub invariant_of-self-2 : goal.invariant_of-self-2
invariant_of-self-2 c =
    let before = c.args.self.now in
    let pool = entries_of before.entries in
    let entry = c.args.entry.now in
    let pushed : entries_of c.push.new.self ≡ pool ++ entry ∷ [] =
    c.push.ensures ∙ ap (λ (p : List (List ℕ)). p ++ entry ∷ []) c.in_ok-reserve.ensures.same in
    let slot = slot_index before.slots.value in
    let code = code_index before.codes in
    let others = bytes_index before.others in
    let others_after = bytes_index c.insert.new.self in
    let steps : Extends pool entry others others_after =
    λ q. rw (← c.in_ok-key.ensures, ← c.len-index.ensures) (bytes_after c.in_ok-key.key.items before.others c.insert.new.self
    (Some c.len-index.result) c.in_ok-insert.ensures.updates q) in
    let beside = λ (q : List ℕ). led pool (code q) q (others q) in
    let beside_after = λ (q : List ℕ). led (pool ++ entry ∷ []) (code q) q (others_after q) in
    let more : Extends pool entry beside beside_after = next_led pool entry code others others_after before.second c.requires.code steps in
    let absent : has_entry pool entry ≡ false = absent_if_none pool entry (sym c.requires.free
    ∙ others_tell pool (slot entry) (code entry) (others entry) entry c.requires.slot c.requires.code (before.looked entry)) in
    record {
      looked = λ q. rw pushed (found_more pool entry _ _ absent before.looked
          (next_led pool entry slot beside beside_after before.first c.requires.slot more) q);
      free = λ q. rw pushed (next_free pool entry slot beside beside_after before.free c.requires.slot more q);
      coded = next_free pool entry code others others_after before.coded c.requires.code steps;
      first = λ q. rw pushed (still_within pool entry slot before.first q);
      second = λ q. rw pushed (still_within pool entry code before.second q);
    }

pub returns-clause-index : goal.returns-clause-index
returns-clause-index c =
    let before = c.args.self.now in
    let pool = entries_of before.entries in
    let entry = c.args.entry.now in
    let pushed : entries_of c.push.new.self ≡ pool ++ entry ∷ [] =
    c.push.ensures ∙ ap (λ (p : List (List ℕ)). p ++ entry ∷ []) c.in_ok-reserve.ensures.same in
    let absent : has_entry pool entry ≡ false = absent_if_none pool entry (sym c.requires.free
    ∙ others_tell pool (slot_index before.slots.value entry) (code_index before.codes entry) (bytes_index before.others entry) entry
    c.requires.slot c.requires.code (before.looked entry)) in
    rw pushed (placed_last pool entry absent ∙ sym c.len-index.ensures)

pub returns-clause-entries : goal.returns-clause-entries
returns-clause-entries c =
    let before = c.args.self.now in
    let pool = entries_of before.entries in
    let entry = c.args.entry.now in
    let absent : has_entry pool entry ≡ false = absent_if_none pool entry (sym c.requires.free
    ∙ others_tell pool (slot_index before.slots.value entry) (code_index before.codes entry) (bytes_index before.others entry) entry
    c.requires.slot c.requires.code (before.looked entry)) in
    c.push.ensures ∙ ap (λ (p : List (List ℕ)). p ++ entry ∷ []) c.in_ok-reserve.ensures.same ∙ sym (with_new pool entry absent)
