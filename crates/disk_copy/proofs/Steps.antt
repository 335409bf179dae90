-- Sectors that are copied one after the other.
use Rattle.std.proofs.Common.{◌≡◌, ◌⊎◌, inl, inr, ⊎_elim, ℕ, ◌≤◌, ◌<◌, ◌+◌, ◌-◌, ◌%◌, List, refl, sym, ◌∙◌, ap, subst, arith}
use Rattle.std.proofs.Common.{Result, Ok, Err}
use Rattle.std.specs.Prelude.{IfOk}
use Rattle.std.proofs.Math.Nat.{mod-eq_of_lt}
use Rattle.std.proofs.lemmas.Bool.{cases_eq, cases_lt}
use Rattle.sector_disk.specs.Disk.{History, Image, seen}
use Rattle.sector_disk.specs.Disk.History.{wrote}
use Rattle.sector_disk.proofs.History.{seen_same, seen_other}
use Rattle.edit_journal.specs.Ring.{Ring, sector_at}
use Rattle.generations.specs.declared.root.Root.{Root}
use Rattle.disk_copy.specs.Copies.{IsIn, ring_from, IsUsed, CopiesAs, IsFront, IsNamed, ring_in}
use Rattle.disk_copy.specs.Shared.{GoesOn, IsOf}

-- no sector is copied
copies_none : (is : ℕ → List ℕ → Type 0) (range : ℕ → Type 0) (old : Image) → ((at : ℕ) → range at → ⊥) → CopiesAs is range old old
copies_none is range old none at = inr (none at, refl)

-- one sector more is
one_more : (is : ℕ → List ℕ → Type 0) (range more : ℕ → Type 0) (old : Image) (before after : History) (sector : ℕ) (bytes : List ℕ)
    → ((at : ℕ) → range at → more at) → more sector → ((at : ℕ) → more at → range at ⊎ (at ≡ sector)) → is sector bytes
    → after ≡ wrote sector bytes before → CopiesAs is range old (seen before) → CopiesAs is more old (seen after)
one_more is range more old before after sector bytes grows has only right written copied at = ⊎_elim
    (λ (same : at ≡ sector). inl (
      subst more (sym same) has,
      subst (is at) (sym (ap (λ (h : History). seen h at) written ∙ seen_same sector bytes before at same))
          (subst (λ (x : ℕ). is x bytes) (sym same) right),
    ))
    (λ (apart : at ≡ sector → ⊥).
    let unchanged : seen after at ≡ seen before at = ap (λ (h : History). seen h at) written ∙ seen_other sector bytes before at apart in
    ⊎_elim
    (λ (there : range at × is at (seen before at)). inl (grows at there.0, subst (is at) (sym unchanged) there.1))
    (λ (other : (range at → ⊥) × (seen before at ≡ old at)). inr (λ is_more. ⊎_elim other.0 apart (only at is_more), unchanged ∙ other.1))
    (copied at))
    (cases_eq at sector)

-- some sectors, and then others
pub both : (is : ℕ → List ℕ → Type 0) (range then : ℕ → Type 0) (old middle new : Image) → CopiesAs is range old middle → CopiesAs is then middle new
    → CopiesAs is (λ at. range at ⊎ then at) old new
both is range then old middle new first second at = ⊎_elim
    (λ (there : then at × is at (new at)). inl (inr there.0, there.1))
    (λ (other : (then at → ⊥) × (new at ≡ middle at)). ⊎_elim
    (λ (there : range at × is at (middle at)). inl (inl there.0, subst (is at) (sym other.1) there.1))
    (λ (none : (range at → ⊥) × (middle at ≡ old at)). inr (λ is_one. ⊎_elim none.0 other.0 is_one, other.1 ∙ none.1))
    (first at))
    (second at)

-- the same where they are said to be as something else, which follows
pub copies_as : (is then : ℕ → List ℕ → Type 0) (range : ℕ → Type 0) (old new : Image) → ((at : ℕ) (bytes : List ℕ) → range at → is at bytes → then at bytes)
    → CopiesAs is range old new → CopiesAs then range old new
copies_as is then range old new follows copied at = ⊎_elim
    (λ (there : range at × is at (new at)). inl (there.0, follows at (new at) there.0 there.1))
    (λ (other : (range at → ⊥) × (new at ≡ old at)). inr other)
    (copied at)

-- and of a range that is another one
pub copies_in : (is : ℕ → List ℕ → Type 0) (range then : ℕ → Type 0) (old new : Image) → ((at : ℕ) → range at → then at) → ((at : ℕ) → then at → range at)
    → CopiesAs is range old new → CopiesAs is then old new
copies_in is range then old new to back copied at = ⊎_elim
    (λ (there : range at × is at (new at)). inl (to at there.0, there.1))
    (λ (other : (range at → ⊥) × (new at ≡ old at)). inr (λ there. other.0 (back at there), other.1))
    (copied at)

-- moments of a part of a time are moments of the whole
pub of_longer : (images : ℕ → Image) (from to first last at : ℕ) (bytes : List ℕ) → first ≤ from → to ≤ last → IsOf images from to at bytes
    → IsOf images first last at bytes
of_longer images from to first last at bytes early late is = (is.0, omega (arith, early, is.1), omega (arith, late, is.2), is.3)

-- ---- consecutive sectors

-- they are the places of a ring that has no others
pub ring_in_range : (first count at : ℕ) → IsUsed (ring_from first count) 0 count at → IsIn first count at
ring_in_range first count at is =
    let same : is.0 % count ≡ is.0 = mod-eq_of_lt is.1 in
    (omega (arith, is.2), omega (arith, is.1, is.2, same))

pub in_ring : (first count at : ℕ) → IsIn first count at → IsUsed (ring_from first count) 0 count at
in_ring first count at is =
    let small : at - first < count = omega (arith, is.0, is.1) in
    let from : 0 + (at - first) ≡ at - first = omega arith in
    let same : (0 + (at - first)) % count ≡ at - first = ap (λ (k : ℕ). k % count) from ∙ mod-eq_of_lt small in
    let back : first + (at - first) ≡ at = omega (arith, is.0) in (at - first, small, sym (ap (λ (k : ℕ). first + k) same ∙ back))

-- ---- places of a ring

pub used_none : (is : ℕ → List ℕ → Type 0) (ring : Ring) (place : ℕ) (old : Image) → CopiesAs is (IsUsed ring place 0) old old
used_none is ring place old = copies_none is (IsUsed ring place 0) old (λ at there. omega (arith, there.1))

pub used_more : (is : ℕ → List ℕ → Type 0) (ring : Ring) (place done : ℕ) (bytes : List ℕ) (old : Image) (before after : History)
    → is (sector_at ring (place + done)) bytes → after ≡ wrote (sector_at ring (place + done)) bytes before
    → CopiesAs is (IsUsed ring place done) old (seen before) → CopiesAs is (IsUsed ring place (done + 1)) old (seen after)
used_more is ring place done bytes old before after =
    one_more is (IsUsed ring place done) (IsUsed ring place (done + 1)) old before after (sector_at ring (place + done)) bytes
    (λ at there. (there.0, omega (arith, there.1), there.2))
    (done, omega arith, refl)
    (λ at there. ⊎_elim
    (λ (lt : there.0 < done). inl (there.0, lt, there.2))
    (λ (ge : done ≤ there.0).
    let same : there.0 ≡ done = omega (arith, ge, there.1) in inr (there.2 ∙ ap (λ (offset : ℕ). sector_at ring (place + offset)) same))
    (cases_lt there.0 done))

-- the places of some records, and then those of one more
used_both : (ring : Ring) (place used parts at : ℕ) → IsUsed ring place used at ⊎ IsUsed ring (place + used) parts at → IsUsed ring place (used + parts) at
used_both ring place used parts at (inl is) = (is.0, omega (arith, is.1), is.2)
used_both ring place used parts at (inr is) =
    let same : place + used + is.0 ≡ place + (used + is.0) = omega arith in
    (used + is.0, omega (arith, is.1), is.2 ∙ ap (sector_at ring) same)

used_back : (ring : Ring) (place used parts at : ℕ) → IsUsed ring place (used + parts) at → IsUsed ring place used at ⊎ IsUsed ring (place + used) parts at
used_back ring place used parts at is = ⊎_elim
    (λ (lt : is.0 < used). inl (is.0, lt, is.2))
    (λ (ge : used ≤ is.0).
    let same : place + is.0 ≡ place + used + (is.0 - used) = omega (arith, ge) in
    inr (is.0 - used, omega (arith, ge, is.1), is.2 ∙ ap (sector_at ring) same))
    (cases_lt is.0 used)

pub used_then : (is : ℕ → List ℕ → Type 0) (ring : Ring) (place used parts : ℕ) (old middle new : Image) → CopiesAs is (IsUsed ring place used) old middle
    → CopiesAs is (IsUsed ring (place + used) parts) middle new → CopiesAs is (IsUsed ring place (used + parts)) old new
used_then is ring place used parts old middle new first second =
    copies_in is (λ at. IsUsed ring place used at ⊎ IsUsed ring (place + used) parts at) (IsUsed ring place (used + parts)) old new
    (used_both ring place used parts) (used_back ring place used parts)
    (both is (IsUsed ring place used) (IsUsed ring (place + used) parts) old middle new first second)

-- ---- all that a root names

pub all_named : (is : ℕ → List ℕ → Type 0) (n : ℕ) (root : Root) (used : ℕ) (a b c : Image) → CopiesAs is (IsFront n root) a b
    → CopiesAs is (IsUsed (ring_in n) root.journal_at used) b c → CopiesAs is (IsNamed n root used) a c
all_named is n root used a b c front journal = both is (IsFront n root) (IsUsed (ring_in n) root.journal_at used) a b c front journal

-- ---- time

module _ {S : Type 0} {shared : S → Type 0} {now : S → ℕ} where
  pub goes_on : {old middle new : S} → GoesOn shared now old middle → GoesOn shared now middle new → GoesOn shared now old new
  goes_on first second = record {
    later = omega (arith, first.later, second.later);
    was_shared = λ is. first.was_shared (second.was_shared is);
  }

  pub goes_none : (disk : S) → GoesOn shared now disk disk
  goes_none disk = record { later = omega arith; was_shared = λ is. is }

-- what follows from success, of a call that is the last
pub if_ok : {T E : Type 0} {P Q : T → Type 0} → ((value : T) → P value → Q value) → (result : Result T E) → IfOk result P → IfOk result Q
if_ok f (Ok value) p = f value p
if_ok f (Err fault) p = tt
