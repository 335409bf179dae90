-- Bytes of a content that isn't added yet.
use Rattle.std.proofs.Common.{◌≡◌, ℕ, ◌-◌, ◌≤◌, List, ◌++◌, length, take, drop, sym, ap, subst, ◌∙◌, arith}
use Rattle.std.specs.List.{concat}
use Rattle.std.proofs.lemmas.List.{take_all, drop-append-le, length-drop}
use Rattle.pm_build.specs.Ahead.{AreStored}
use Rattle.pm_build.specs.Hashing.{IsHashed}
use Rattle.pm_build.proofs.Pieces.{first_within}
use Rattle.pm_build.proofs.Words.{hashed_front}

-- all bytes from an offset on
pub part_from : (from : ℕ) (bytes : List ℕ) → take (length bytes - from) (drop from bytes) ≡ drop from bytes
part_from from bytes = take_all (length bytes - from) (drop from bytes) (omega (arith, length-drop from bytes))

-- what is hashed of the part from there on
pub hashed_part : (from : ℕ) (bytes seen : List ℕ) (words hash : ℕ) → seen ≡ bytes → IsHashed (drop from bytes) words hash
    → IsHashed (take (length seen - from) (drop from seen)) words hash
hashed_part from bytes seen words hash same known =
    subst (λ (xs : List ℕ). IsHashed xs words hash) (ap (λ (xs : List ℕ). drop from xs) (sym same) ∙ sym (part_from from seen)) known

-- the bytes are the contents, and none are ahead
pub exactly_stored : (cs : List (List ℕ)) (bytes : List ℕ) → bytes ≡ concat cs → AreStored cs bytes
exactly_stored cs bytes is = take_all (length (concat cs)) bytes (omega (arith, ap (λ (xs : List ℕ). length xs) is)) ∙ is

module _ (cs : List (List ℕ)) (bytes : List ℕ) (is : AreStored cs bytes) where
  -- the contents are no more bytes than there are
  pub within : length (concat cs) ≤ length bytes
  within = first_within bytes (concat cs) is

  pub ahead_more : (part : List ℕ) → drop (length (concat cs)) (bytes ++ part) ≡ drop (length (concat cs)) bytes ++ part
  ahead_more part = drop-append-le (length (concat cs)) bytes part within

  -- what is hashed of those that are ahead is hashed
  pub hashed_more : (part : List ℕ) (words hash : ℕ) → IsHashed (drop (length (concat cs)) bytes) words hash
      → IsHashed (drop (length (concat cs)) (bytes ++ part)) words hash
  hashed_more part words hash known =
      subst (λ (xs : List ℕ). IsHashed xs words hash) (sym (ahead_more part)) (hashed_front (drop (length (concat cs)) bytes) part words hash known)

  -- without what is ahead they are still stored
  pub stored_less : AreStored cs (take (length (concat cs)) bytes)
  stored_less = exactly_stored cs (take (length (concat cs)) bytes) is
