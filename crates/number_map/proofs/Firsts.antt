-- The first numbers of blocks.
use Rattle.std.proofs.Common.{◌≡◌, ℕ, zero, suc, ◌+◌, ◌-◌, ◌<◌, ◌≤◌, List, [], ◌∷◌, ◌++◌, length, get_or, set, take, drop, true, false}
use Rattle.std.proofs.Common.{refl, sym, ap, subst, ◌∙◌, arith}
use Rattle.std.specs.Prelude.{nat_le}
use Rattle.std.specs.List.{insert, remove}
use Rattle.std.specs.List.Sorted.{IsNonDecreasing, IsPartitionPoint}
use Rattle.std.proofs.lemmas.Bool.Decides.{nat_tests}
use Rattle.std.proofs.lemmas.List.{length-map, get_or-map, get_or-set_same, set-get_or, map-set, map-append, take-map, drop-map}
use Rattle.number_map.specs.Blocks.{first_number, firsts_of, AreInOrder}
use Rattle.number_map.specs.Positions.{IsLastUpTo}
use Rattle.number_map.proofs.Filled.{IsFilled}
use Rattle.number_map.proofs.Home.{firsts_rise}

at_most : (a b : ℕ) → nat_le a b ≡ true → a ≤ b
at_most a b h = grind (arith, nat_tests)

more_than : (a b : ℕ) → nat_le a b ≡ false → b < a
more_than a b h = grind (arith, nat_tests)

-- the number before the first one that is above n
pub last_up_to : (ns : List ℕ) (n p i : ℕ) → p ≤ length ns → IsPartitionPoint (λ k. nat_le k n ≡ true) (λ k. nat_le k n ≡ false) ns p → i ≡ p - 1
    → IsLastUpTo ns n i
last_up_to ns n zero i le parted is =
    record {
      within = λ some. absurd (omega (arith, some, is));
      up_to = λ d some. absurd (omega (arith, some, is));
      above = λ k d after lt. more_than (get_or ns k d) n (parted.1 k d (omega arith) lt);
    }
last_up_to ns n (suc p) i le parted is =
    record {
      within = λ some. omega (arith, some, is, le);
      up_to = λ d some. at_most (get_or ns i d) n (parted.0 i d (omega arith) (omega (arith, is)));
      above = λ k d after lt. more_than (get_or ns k d) n (parted.1 k d (omega (arith, is, after)) lt);
    }

module _ {T : Type 0} where
  -- they are as many as the blocks
  pub firsts_len : (bs : List (List (ℕ × T))) (ns : List ℕ) → ns ≡ firsts_of bs → length ns ≡ length bs
  firsts_len bs ns is = ap length is ∙ length-map bs first_number

  -- they ascend
  pub firsts_ascend : (bs : List (List (ℕ × T))) (ns : List ℕ) → AreInOrder bs → ns ≡ firsts_of bs → IsNonDecreasing ns
  firsts_ascend bs ns order is =
      subst IsNonDecreasing (sym is)
      (λ i j d le lt.
      let within : j < length bs = omega (arith, lt, length-map bs first_number) in
      let rise = firsts_rise bs order.ascending order.filled i j [] le within in
      omega (arith, get_or-map first_number bs i [] d (omega (arith, le, within)), get_or-map first_number bs j [] d within, rise))

  -- a block replaced, and its first number
  firsts_set : (bs : List (List (ℕ × T))) (ns : List ℕ) (i : ℕ) (b : List (ℕ × T)) → ns ≡ firsts_of bs → set ns i (first_number b) ≡ firsts_of (set bs i b)
  firsts_set bs ns i b is = ap (λ xs. set xs i (first_number b)) is ∙ sym (map-set first_number bs i b)

  pub firsts_written : (bs : List (List (ℕ × T))) (ns : List ℕ) (i r : ℕ) (b there : List (ℕ × T)) → i < length bs → ns ≡ firsts_of bs
      → there ≡ get_or (set bs i b) i there → r ≡ first_number there → set ns i r ≡ firsts_of (set bs i b)
  firsts_written bs ns i r b there lt is there_is r_is =
      ap (set ns i) (r_is ∙ ap first_number (there_is ∙ get_or-set_same bs i b there lt)) ∙ firsts_set bs ns i b is

  -- a block replaced by itself
  pub blocks_same : (bs : List (List (ℕ × T))) (i : ℕ) (b new : List (ℕ × T)) → b ≡ get_or bs i b → new ≡ b → set bs i new ≡ bs
  blocks_same bs i b new b_is new_is = ap (set bs i) (new_is ∙ b_is) ∙ set-get_or bs i b

  -- a block more
  pub firsts_inserted : (bs : List (List (ℕ × T))) (ns : List ℕ) (i r : ℕ) (b : List (ℕ × T)) → ns ≡ firsts_of bs → r ≡ first_number b
      → insert ns i r ≡ firsts_of (insert bs i b)
  firsts_inserted bs ns i r b is r_is =
      ap (insert ns i) r_is
      ∙ ap (λ xs. insert xs i (first_number b)) is
      ∙ ap (λ xs. xs ++ first_number b ∷ drop i (firsts_of bs)) (take-map first_number i bs)
      ∙ ap (λ xs. firsts_of (take i bs) ++ first_number b ∷ xs) (drop-map first_number i bs)
      ∙ sym (map-append first_number (take i bs) (b ∷ drop i bs))

  pub firsts_pushed : (bs : List (List (ℕ × T))) (ns : List ℕ) (r : ℕ) (b : List (ℕ × T)) → ns ≡ firsts_of bs → r ≡ first_number b
      → ns ++ r ∷ [] ≡ firsts_of (bs ++ b ∷ [])
  firsts_pushed bs ns r b is r_is =
      ap (λ x. ns ++ x ∷ []) r_is ∙ ap (λ xs. xs ++ first_number b ∷ []) is ∙ sym (map-append first_number bs (b ∷ []))

  -- a block less
  pub firsts_removed : (bs : List (List (ℕ × T))) (ns : List ℕ) (i : ℕ) → ns ≡ firsts_of bs → remove ns i ≡ firsts_of (remove bs i)
  firsts_removed bs ns i is =
      ap (λ xs. remove xs i) is
      ∙ ap (λ xs. xs ++ drop (suc i) (firsts_of bs)) (take-map first_number i bs)
      ∙ ap (λ xs. firsts_of (take i bs) ++ xs) (drop-map first_number (suc i) bs)
      ∙ sym (map-append first_number (take i bs) (drop (suc i) bs))

  -- two blocks replaced by one that has the entries of both
  first_left : (b c : List (ℕ × T)) → IsFilled b → first_number (b ++ c) ≡ first_number b
  first_left [] c some = absurd (omega (arith, some))
  first_left (e ∷ es) c some = refl

  pub firsts_joined : (bs rest : List (List (ℕ × T))) (ns : List ℕ) (i : ℕ) (b c new : List (ℕ × T)) → ns ≡ firsts_of bs → rest ≡ remove bs (i + 1)
      → b ≡ get_or rest i b → new ≡ b ++ c → IsFilled b → remove ns (i + 1) ≡ firsts_of (set rest i new)
  firsts_joined bs rest ns i b c new is rest_is b_is new_is some =
      firsts_removed bs ns (i + 1) is
      ∙ ap firsts_of (sym rest_is ∙ sym (set-get_or rest i b))
      ∙ map-set first_number rest i (get_or rest i b)
      ∙ ap (set (firsts_of rest) i) (ap first_number (sym b_is) ∙ sym (first_left b c some) ∙ ap first_number (sym new_is))
      ∙ sym (map-set first_number rest i new)
