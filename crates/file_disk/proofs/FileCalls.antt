-- Runs of sectors in a history.
use Rattle.std.proofs.Common.{◌≡◌, ◌⊎◌, ◌∙◌, ◌+◌, ◌*◌, ◌/◌, ◌<◌, ◌≤◌, ◌∷◌, ◌++◌, [], ℕ, List, suc, zero, inl, inr, ap, sym, refl, subst, arith}
use Rattle.std.proofs.Common.{length, get_or, take, set}
use Rattle.std.proofs.lemmas.List.{take_more_set, get_or-take, length-take-le}
use Rattle.sector_disk.specs.declared.disk.TheConstants.{SECTOR_BYTES}
use Rattle.file_disk.specs.Calls.{Call, replayed, IsHonest, GaveRun}
use Rattle.file_disk.specs.Calls.Call.{gave_run, took, refused}
use Rattle.sector_disk.specs.Disk.{History, seen}
use Rattle.sector_disk.specs.Disk.History.{wrote}
use Rattle.file_disk.specs.Runs.{wrote_run, wrote_first, Shows, Apart}
use Rattle.file_disk.specs.declared.run.TheConstants.{RUN_SECTORS}
use Rattle.sector_disk.proofs.History.{seen_same, seen_other}

-- a read of another sector gives what it gave before
pub seen_beside : (first : ℕ) (sectors : List (List ℕ)) (h : History) (at : ℕ) → (at < first) ⊎ (first + length sectors ≤ at)
    → seen (wrote_run first sectors h) at ≡ seen h at
seen_beside first [] h at beside = refl
seen_beside first (bytes ∷ rest) h at (inl before) =
    seen_beside (suc first) rest (wrote first bytes h) at (inl (omega (arith, before))) ∙ seen_other first bytes h at (λ is. omega (arith, before, is))
seen_beside first (bytes ∷ rest) h at (inr behind) =
    seen_beside (suc first) rest (wrote first bytes h) at (inr (omega (arith, behind))) ∙ seen_other first bytes h at (λ is. omega (arith, behind, is))

-- a read of one of them gives what was written
pub seen_among : (first : ℕ) (sectors : List (List ℕ)) (h : History) (index : ℕ) → index < length sectors
    → seen (wrote_run first sectors h) (first + index) ≡ get_or sectors index []
seen_among first [] h index within = absurd (omega (arith, within))
seen_among first (bytes ∷ rest) h zero within =
    seen_beside (suc first) rest (wrote first bytes h) (first + 0) (inl (omega arith)) ∙ seen_same first bytes h (first + 0) (omega arith)
seen_among first (bytes ∷ rest) h (suc index) within =
    subst (λ (at : ℕ). seen (wrote_run (suc first) rest (wrote first bytes h)) at ≡ get_or rest index []) (omega arith)
    (seen_among (suc first) rest (wrote first bytes h) index (omega (arith, within)))

-- one more is the last write
pub one_more : (first : ℕ) (sectors : List (List ℕ)) (bytes : List ℕ) (h : History)
    → wrote_run first (sectors ++ bytes ∷ []) h ≡ wrote (first + length sectors) bytes (wrote_run first sectors h)
one_more first [] bytes h = ap (λ (at : ℕ). wrote at bytes h) (omega arith)
one_more first (other ∷ rest) bytes h = one_more (suc first) rest bytes (wrote first other h)
    ∙ ap (λ (at : ℕ). wrote at bytes (wrote_run (suc first) rest (wrote first other h))) (omega arith)

-- the same of the first `len` of them
pub taken : (len : ℕ) (sectors : List (List ℕ)) → len ≤ length sectors → length (take len sectors) ≡ len
taken len sectors fits = length-take-le len sectors fits

pub first_beside : (first len : ℕ) (sectors : List (List ℕ)) (h : History) (at : ℕ) → len ≤ length sectors → (at < first) ⊎ (first + len ≤ at)
    → seen (wrote_first first len sectors h) at ≡ seen h at
first_beside first len sectors h at fits beside = seen_beside first (take len sectors) h at
    (subst (λ (n : ℕ). (at < first) ⊎ (first + n ≤ at)) (sym (taken len sectors fits)) beside)

pub first_among : (first len : ℕ) (sectors : List (List ℕ)) (h : History) (index at : ℕ) → len ≤ length sectors → index < len → first + index ≡ at
    → get_or sectors index [] ≡ seen (wrote_first first len sectors h) at
first_among first len sectors h index at fits within is = subst (λ (a : ℕ). get_or sectors index [] ≡ seen (wrote_first first len sectors h) a) is
    (sym (get_or-take len sectors index [] within)
    ∙ sym (seen_among first (take len sectors) h index (subst (λ (n : ℕ). index < n) (sym (taken len sectors fits)) within)))

pub pushed : (first len at : ℕ) (sectors : List (List ℕ)) (bytes : List ℕ) (h : History) → len < length sectors → at ≡ first + len
    → wrote_first first (len + 1) (set sectors len bytes) h ≡ wrote at bytes (wrote_first first len sectors h)
pushed first len at sectors bytes h room is = ap (λ (xs : List (List ℕ)). wrote_run first xs h) (take_more_set sectors len bytes room)
    ∙ one_more first (take len sectors) bytes h
    ∙ ap (λ (a : ℕ). wrote a bytes (wrote_first first len sectors h))
    (ap (λ (n : ℕ). first + n) (taken len sectors (omega (arith, room))) ∙ sym is)

-- a sector's number by its offset
pub by_offset : (at : ℕ) → (at * SECTOR_BYTES) / SECTOR_BYTES ≡ at
by_offset at = omega arith

-- what is known of a file beside these sectors stays known when it took them
pub after_took : (old new : List Call) (first len : ℕ) (sectors : List (List ℕ)) → new ≡ took (first * SECTOR_BYTES) (take len sectors) ∷ old
    → len ≤ length sectors → (found : History) → IsHonest found new
    → IsHonest found old × ((at : ℕ) → (at < first) ⊎ (first + len ≤ at) → seen (replayed found new) at ≡ seen (replayed found old) at)
after_took old new first len sectors is fits found honest = (
  (subst (λ (calls : List Call). IsHonest found calls) is honest).0,
  λ at beside. ap (λ (calls : List Call). seen (replayed found calls) at) is
      ∙ ap (λ (n : ℕ). seen (wrote_first n len sectors (replayed found old)) at) (by_offset first)
      ∙ first_beside first len sectors (replayed found old) at fits beside,
)

-- and when it refused them
pub after_refused : (old new : List Call) (offset : ℕ) (sectors : List (List ℕ)) → new ≡ refused offset sectors ∷ old → (found : History) → IsHonest found new
    → IsHonest found old × ((at : ℕ) → seen (replayed found new) at ≡ seen (replayed found old) at)
after_refused old new offset sectors is found honest = (
  (subst (λ (calls : List Call). IsHonest found calls) is honest).0,
  λ at. ap (λ (calls : List Call). seen (replayed found calls) at) is,
)

-- what a file gave is known
pub after_gave : (old new : List Call) (at : ℕ) (sectors : List (List ℕ)) → new ≡ gave_run (at * SECTOR_BYTES) sectors ∷ old → (found : History)
    → IsHonest found new → Shows (seen (replayed found new)) at (length sectors) sectors
after_gave old new at sectors is found honest =
    subst (λ (calls : List Call). IsHonest found calls → Shows (seen (replayed found calls)) at (length sectors) sectors)
    (sym is) (λ gives. subst (λ (n : ℕ). Shows (seen (replayed found old)) n (length sectors) sectors) (by_offset at) gives.1) honest

-- the same of the first `count` sectors
pub after_gave_first : (old new : List Call) (at count : ℕ) (sectors : List (List ℕ)) → new ≡ gave_run (at * SECTOR_BYTES) (take count sectors) ∷ old
    → count ≤ length sectors → (found : History) → IsHonest found new → Shows (seen (replayed found new)) at count sectors
after_gave_first old new at count sectors is fits found honest index within =
    sym (get_or-take count sectors index [] within)
    ∙ after_gave old new at (take count sectors) is found honest index (subst (λ (n : ℕ). index < n) (sym (taken count sectors fits)) within)

-- and it was a run of `count` sectors
pub gave_first : (old new : List Call) (at count first len : ℕ) (sectors : List (List ℕ)) → new ≡ gave_run (at * SECTOR_BYTES) (take count sectors) ∷ old
    → 0 < count → count ≤ RUN_SECTORS → length sectors ≡ RUN_SECTORS → Apart at count first len → GaveRun at first len old new
gave_first old new at count first len sectors is some few long apart =
    let size = sym (taken count sectors (subst (λ (n : ℕ). count ≤ n) (sym long) few)) in (
      take count sectors,
      subst (λ (n : ℕ). 0 < n) size some,
      subst (λ (n : ℕ). n ≤ RUN_SECTORS) size few,
      subst (λ (n : ℕ). Apart at n first len) size apart,
      is,
    )

-- which changes no history
pub after_reading : (old new : List Call) (at first len : ℕ) → (new ≡ old) ⊎ GaveRun at first len old new → (found : History)
    → replayed found new ≡ replayed found old
after_reading old new at first len (inl same) found = ap (λ (calls : List Call). replayed found calls) same
after_reading old new at first len (inr gave) found = ap (λ (calls : List Call). replayed found calls) gave.4

-- so that what is known of a sector that isn't still to be written is the history's
pub given_ahead : (old new : List Call) (at first len : ℕ) (sectors : List (List ℕ)) (found : History) (bytes : List ℕ)
    → bytes ≡ seen (replayed found new) at → (new ≡ old) ⊎ GaveRun at first len old new
    → ((h : History) → seen (wrote_first first len sectors h) at ≡ seen h at)
    → bytes ≡ seen (wrote_first first len sectors (replayed found old)) at
given_ahead old new at first len sectors found bytes known asks other =
    known ∙ ap (λ (h : History). seen h at) (after_reading old new at first len asks found) ∙ sym (other (replayed found old))
