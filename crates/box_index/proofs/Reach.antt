-- How many entries the blocks have that may show something in a box at a zoom.
use Rattle.std.proofs.Common.{◌≡◌, ℕ, ◌+◌, ◌*◌, ◌^◌, ◌<◌, ◌≤◌, Bool, true, false, List, [], ◌∷◌, ◌++◌, length, take, drop}
use Rattle.std.proofs.Common.{refl, ap, ◌∙◌, arith}
use Rattle.std.specs.Prelude.{◌-◌, min}
use Rattle.std.proofs.lemmas.List.{length-append}
use Rattle.std.proofs.lemmas.List.Concat.{flat_map-append}
use Rattle.feature_model.specs.declared.feature.WorldBox.{WorldBox}
use Rattle.box_index.specs.declared.entry.IndexEntry.{IndexEntry}
use Rattle.box_index.specs.declared.runs.TheConstants.{RUN}
use Rattle.box_index.specs.Blocks.{joined}
use Rattle.box_index.specs.Shown.{shows, ids_shown}
use Rattle.box_index.proofs.Shown.{ids_shown-append}
use Rattle.box_index.proofs.Skipped.{take_both}

-- a count that is at least the number of the entries that show, as far as 64 bits can count them, and at most that of all entries
pub record Reaches (bounds : WorldBox) (zoom : ℕ) (es : List IndexEntry) (count : ℕ) : Type 0 where
  pub least : length (ids_shown bounds zoom es) < 2 ^ 64 → length (ids_shown bounds zoom es) ≤ count
  pub most : count ≤ length es

module _ (bounds : WorldBox) (zoom : ℕ) where
  -- no more show than there are
  pub few_shown : (es : List IndexEntry) → length (ids_shown bounds zoom es) ≤ length es
  few_shown [] = omega arith
  few_shown (e ∷ es) = by (shows bounds zoom e.span) refl (few_shown es)
    where
      by : (b : Bool) → shows bounds zoom e.span ≡ b → length (ids_shown bounds zoom es) ≤ length es
          → length (ids_shown bounds zoom (e ∷ es)) ≤ length (e ∷ es)
      by true is rest = rw is (omega (arith, rest))
      by false is rest = rw is (omega (arith, rest))

  -- of no entries
  pub reaches_none : Reaches bounds zoom [] 0
  reaches_none = record { least = λ few. omega arith; most = omega arith }

  -- of two lists
  pub reaches_both : (xs ys : List IndexEntry) (m n sum : ℕ) → Reaches bounds zoom xs m → Reaches bounds zoom ys n → sum ≡ min (m + n) (2 ^ 64 - 1)
      → Reaches bounds zoom (xs ++ ys) sum
  reaches_both xs ys m n sum first second is =
      let len = ap length (ids_shown-append bounds zoom xs ys) ∙ length-append (ids_shown bounds zoom xs) (ids_shown bounds zoom ys) in
      record {
        least = λ few.
            let a = first.least (omega (arith, few, len)) in
            let b = second.least (omega (arith, few, len)) in
            omega (arith, few, len, a, b, is);
        most = omega (arith, is, first.most, second.most, length-append xs ys);
      }

  -- of a list, and one of which nothing shows
  pub reaches_first : (xs ys : List IndexEntry) (m : ℕ) → Reaches bounds zoom xs m → ids_shown bounds zoom ys ≡ [] → Reaches bounds zoom (xs ++ ys) m
  reaches_first xs ys m first none =
      let len = ap length (ids_shown-append bounds zoom xs ys) ∙ length-append (ids_shown bounds zoom xs) (ids_shown bounds zoom ys) in
      let nothing = ap length none in
      record {
        least = λ few. let a = first.least (omega (arith, few, len)) in omega (arith, len, a, nothing);
        most = omega (arith, first.most, length-append xs ys);
      }

-- the entries of one run more
pub joined_more : (bs : List (List IndexEntry)) (r : ℕ)
    → joined (take ((r + 1) * RUN) bs) ≡ joined (take (r * RUN) bs) ++ joined (take RUN (drop (r * RUN) bs))
joined_more bs r =
    let next : (r + 1) * RUN ≡ r * RUN + RUN = omega arith in
    ap (λ n. joined (take n bs)) next ∙ ap joined (take_both (r * RUN) RUN bs)
    ∙ flat_map-append (λ es. es) (take (r * RUN) bs) (take RUN (drop (r * RUN) bs))
