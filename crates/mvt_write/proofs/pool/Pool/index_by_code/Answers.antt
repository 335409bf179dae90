use Rattle.std.proofs.Common.{◌≡◌, ℕ, true, false, cond, get_or, List, ◌∷◌, ◌++◌, [], length, is_eq, refl, ◌∙◌, sym, ap}
use Rattle.std.specs.Prelude.{Some, None}
use Rattle.std.specs.BTreeMap.{get}
use Rattle.std.specs.Ordering.{nat_cmp}
use Rattle.std.specs.Str.{bytes_eq}
use Rattle.mvt_write.specs.Codes.{text_code}
use Rattle.mvt_write.specs.Entries.{entries_of}
use Rattle.mvt_write.specs.Pools.{has_entry}
use Rattle.mvt_write.specs.Slots.{slot_index, code_index, bytes_index, led}
use Rattle.mvt_write.proofs.Pooled.{placed_last, with_new, with_held}
use Rattle.mvt_write.proofs.Slotted.{unseen_code, code_names, next_is_new, other_is_old, code_kept, second_held, is_other}
use Rattle.mvt_write.proofs.Slotted.{first_led, first_free, next_led, next_free, found_more, named_within, still_within}
use Rattle.mvt_write.proofs.pool.Pool.index_by_code.Goals as goal

pub invariant_of-self : goal.invariant_of-self
invariant_of-self c =
    let before = c.args.self.now in
    let same = c.reserve.ensures.same in
    record {
      looked = λ q. rw same (before.looked q);
      free = λ q. rw same (before.free q);
      coded = before.coded;
      first = λ q. rw same (before.first q);
      second = λ q. rw same (before.second q);
    }

pub invariant_of-self-in-Break-branch-2 : goal.invariant_of-self-in-Break-branch-2
invariant_of-self-in-Break-branch-2 c =
    let before = c.args.self.now in
    let same = c.reserve.ensures.same in
    let kept : c.number_of.new.numbers.entries ≡ before.codes.entries = c.in_err-index.ensures.err in
    record {
      looked = λ q. rw (same, kept) (before.looked q);
      free = λ q. rw (same, kept) (before.free q);
      coded = λ q. rw kept (before.coded q);
      first = λ q. rw same (before.first q);
      second = λ q. rw (same, kept) (before.second q);
    }

pub invariant_of-self-then-index-next : goal.invariant_of-self-then-index-next
invariant_of-self-then-index-next c =
    let before = c.args.self.now in
    let pool = entries_of before.entries in
    let entry = c.args.entry.now in
    let pushed : entries_of c.push.new.self ≡ pool ++ entry ∷ [] =
    c.push.ensures ∙ ap (λ (p : List (List ℕ)). p ++ entry ∷ []) c.in_ok-reserve.ensures.same in
    let slot = slot_index before.slots.value in
    let code = code_index before.codes in
    let code_after = code_index c.number_of.new.numbers in
    let others = bytes_index before.others in
    let last : c.in_ok-index.index ≡ length pool = c.if-index-next.true ∙ c.len-next.ensures in
    let none : code entry ≡ None = next_is_new (code entry) c.in_ok-index.index (length pool) (before.second entry)
    (rw (← c.requires.code, ← c.len-next.ensures) c.in_ok-index.ensures.number) last in
    let updates : (k : ℕ) → get nat_cmp c.number_of.new.numbers k ≡ cond (is_eq (nat_cmp (text_code entry) k)) (Some (length pool))
    (get nat_cmp before.codes k) =
    λ k. rw (← c.requires.code, ← last) (c.in_ok-index.ensures.updates.0 k) in
    let names = code_names pool entry before.codes c.number_of.new.numbers none updates in
    let steps = first_led pool entry code code_after others others before.second before.coded (λ q. refl) names in
    let beside = λ (q : List ℕ). led pool (code q) q (others q) in
    let beside_after = λ (q : List ℕ). led (pool ++ entry ∷ []) (code_after q) q (others q) in
    let absent : has_entry pool entry ≡ false = unseen_code pool (slot entry) (code entry) (others entry) entry c.requires.slot none (before.looked entry) in
    record {
      looked = λ q. rw pushed (found_more pool entry _ _ absent before.looked
          (next_led pool entry slot beside beside_after before.first c.requires.slot steps) q);
      free = λ q. rw pushed (next_free pool entry slot beside beside_after before.free c.requires.slot steps q);
      coded = first_free pool entry code code_after others others before.coded (λ q. refl) names;
      first = λ q. rw pushed (still_within pool entry slot before.first q);
      second = λ q. rw pushed (named_within pool entry code code_after before.second names q);
    }

pub returns-then-index-next-clause-index : goal.returns-then-index-next-clause-index
returns-then-index-next-clause-index c =
    let before = c.args.self.now in
    let pool = entries_of before.entries in
    let entry = c.args.entry.now in
    let pushed : entries_of c.push.new.self ≡ pool ++ entry ∷ [] =
    c.push.ensures ∙ ap (λ (p : List (List ℕ)). p ++ entry ∷ []) c.in_ok-reserve.ensures.same in
    let last : c.in_ok-index.index ≡ length pool = c.if-index-next.true ∙ c.len-next.ensures in
    let none : code_index before.codes entry ≡ None = next_is_new (code_index before.codes entry) c.in_ok-index.index (length pool) (before.second entry)
    (rw (← c.requires.code, ← c.len-next.ensures) c.in_ok-index.ensures.number) last in
    let absent : has_entry pool entry ≡ false = unseen_code pool (slot_index before.slots.value entry) (code_index before.codes entry)
    (bytes_index before.others entry) entry c.requires.slot none (before.looked entry) in
    rw pushed (placed_last pool entry absent ∙ sym last)

pub returns-then-index-next-clause-entries : goal.returns-then-index-next-clause-entries
returns-then-index-next-clause-entries c =
    let before = c.args.self.now in
    let pool = entries_of before.entries in
    let entry = c.args.entry.now in
    let last : c.in_ok-index.index ≡ length pool = c.if-index-next.true ∙ c.len-next.ensures in
    let none : code_index before.codes entry ≡ None = next_is_new (code_index before.codes entry) c.in_ok-index.index (length pool) (before.second entry)
    (rw (← c.requires.code, ← c.len-next.ensures) c.in_ok-index.ensures.number) last in
    let absent : has_entry pool entry ≡ false = unseen_code pool (slot_index before.slots.value entry) (code_index before.codes entry)
    (bytes_index before.others entry) entry c.requires.slot none (before.looked entry) in
    c.push.ensures ∙ ap (λ (p : List (List ℕ)). p ++ entry ∷ []) c.in_ok-reserve.ensures.same ∙ sym (with_new pool entry absent)

pub invariant_of-self-else-index-next : goal.invariant_of-self-else-index-next
invariant_of-self-else-index-next c =
    let before = c.args.self.now in
    let entry = c.args.entry.now in
    let same = c.in_ok-reserve.ensures.same in
    let old : code_index before.codes entry ≡ Some c.in_ok-index.index = other_is_old (code_index before.codes entry) c.in_ok-index.index c.len-next.result
    (rw (← c.requires.code) c.in_ok-index.ensures.number) c.if-index-next.false in
    let kept = code_kept entry before.codes c.number_of.new.numbers c.in_ok-index.index old (λ k. rw (← c.requires.code) (c.in_ok-index.ensures.updates.0 k)) in
    record {
      looked = λ q. rw (same, kept q) (before.looked q);
      free = λ q. rw (same, kept q) (before.free q);
      coded = λ q. rw (kept q) (before.coded q);
      first = λ q. rw same (before.first q);
      second = λ q. rw (same, kept q) (before.second q);
    }

pub is_at-requires : goal.is_at-requires
is_at-requires c =
    let before = c.args.self.now in
    let entry = c.args.entry.now in
    let old : code_index before.codes entry ≡ Some c.in_ok-index.index = other_is_old (code_index before.codes entry) c.in_ok-index.index c.len-next.result
    (rw (← c.requires.code) c.in_ok-index.ensures.number) c.if-index-next.false in
    rw c.in_ok-reserve.ensures.same (before.second entry c.in_ok-index.index old)

pub returns-then-is_at-clause-index : goal.returns-then-is_at-clause-index
returns-then-is_at-clause-index c =
    let before = c.args.self.now in
    let entry = c.args.entry.now in
    let same = c.in_ok-reserve.ensures.same in
    let old : code_index before.codes entry ≡ Some c.in_ok-index.index = other_is_old (code_index before.codes entry) c.in_ok-index.index c.len-next.result
    (rw (← c.requires.code) c.in_ok-index.ensures.number) c.if-index-next.false in
    let alike : bytes_eq (get_or (entries_of before.entries) c.in_ok-index.index []) entry ≡ true = rw (← same) (sym c.is_at.ensures ∙ c.if-is_at.true) in
    rw same (second_held (entries_of before.entries) (slot_index before.slots.value entry) (code_index before.codes entry)
    (bytes_index before.others entry) entry
    c.in_ok-index.index c.requires.slot old alike (before.looked entry)).0

pub returns-then-is_at-clause-entries : goal.returns-then-is_at-clause-entries
returns-then-is_at-clause-entries c =
    let before = c.args.self.now in
    let entry = c.args.entry.now in
    let same = c.in_ok-reserve.ensures.same in
    let old : code_index before.codes entry ≡ Some c.in_ok-index.index = other_is_old (code_index before.codes entry) c.in_ok-index.index c.len-next.result
    (rw (← c.requires.code) c.in_ok-index.ensures.number) c.if-index-next.false in
    let alike : bytes_eq (get_or (entries_of before.entries) c.in_ok-index.index []) entry ≡ true = rw (← same) (sym c.is_at.ensures ∙ c.if-is_at.true) in
    let held = second_held (entries_of before.entries) (slot_index before.slots.value entry) (code_index before.codes entry)
    (bytes_index before.others entry) entry
    c.in_ok-index.index c.requires.slot old alike (before.looked entry) in
    same ∙ sym (with_held (entries_of before.entries) entry held.1)

pub index_by_bytes-requires-clause-slot : goal.index_by_bytes-requires-clause-slot
index_by_bytes-requires-clause-slot c = rw c.in_ok-reserve.ensures.same c.requires.slot

pub index_by_bytes-requires-clause-code : goal.index_by_bytes-requires-clause-code
index_by_bytes-requires-clause-code c =
    let before = c.args.self.now in
    let entry = c.args.entry.now in
    let old : code_index before.codes entry ≡ Some c.in_ok-index.index = other_is_old (code_index before.codes entry) c.in_ok-index.index c.len-next.result
    (rw (← c.requires.code) c.in_ok-index.ensures.number) c.if-index-next.false in
    let kept = code_kept entry before.codes c.number_of.new.numbers c.in_ok-index.index old (λ k. rw (← c.requires.code) (c.in_ok-index.ensures.updates.0 k)) in
    is_other (entries_of c.reserve.new.self) (code_index c.number_of.new.numbers entry) entry c.in_ok-index.index (kept entry ∙ old)
    (sym c.is_at.ensures ∙ c.if-is_at.false)
