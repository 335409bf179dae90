use Rattle.std.proofs.Common.{◌≡◌, ℕ, [], refl, sym, ◌∙◌, List}
use Rattle.std.specs.Prelude.{Some, None}
use Rattle.mvt_write.specs.Entries.{entries_of}
use Rattle.mvt_write.specs.Slots.{slot_index, code_index}
use Rattle.mvt_write.proofs.Slotted.{blank_index, none_held}
use Rattle.mvt_write.proofs.pool.Pool.new.Goals as goal

pub invariant_of-result : goal.invariant_of-result
invariant_of-result c =
    let none : entries_of c.in_ok-entries.entries ≡ [] = c.in_ok-entries.ensures in
    let slot : (q : List ℕ) → slot_index c.in_ok-slots.slots.value q ≡ None = λ q. rw c.in_ok-slots.ensures.ok (blank_index 128 q) in
    let code : (q : List ℕ) → code_index c.new-3.result q ≡ None = λ q. rw c.new-3.ensures.empty refl in
    record {
      looked = λ q. rw (slot q, none) (none_held q);
      free = λ q free. rw (code q) refl;
      coded = λ q free. rw c.new-4.ensures.empty refl;
      first = λ q i is. let no : None ≡ Some i = sym (slot q) ∙ is in absurd (cc);
      second = λ q i is. let no : None ≡ Some i = sym (code q) ∙ is in absurd (cc);
    }
