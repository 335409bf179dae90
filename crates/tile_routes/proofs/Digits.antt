-- A number is read digit by digit.
use Rattle.std.proofs.Common.{◌≡◌, ℕ, ◌-◌, ◌^◌, ◌<◌, ◌≤◌, List, [], ◌∷◌, true, false, Option, Some, None, length, drop}
use Rattle.std.proofs.Common.{refl, ap, arith}
use native.Mathlib.Nat.{pow-le-pow_right}
use Rattle.std.specs.Prelude.{MatchOption, IfSome, nat_lt}
use Rattle.std.specs.List.{list_all}
use Rattle.std.specs.Char.{digit_value, is_ascii_digit}
use Rattle.std.specs.Str.Parse.{AllDigits, digits_value, digits_value_after}
use Rattle.std.proofs.lemmas.Bool.Decides.{nat_tests}
use Rattle.std.proofs.lemmas.Str.Parse.{IsNumeralModel, digits_value_short}
use Rattle.feature_model.specs.declared.limits.TheConstants.{NUMBER_END}
use Rattle.tile_routes.specs.Number.{begins_plain, number_of}

-- what is left to read, and the number so far
pub record IsReading (text : List ℕ) (i number : ℕ) : Type 0 where
  pub digits : list_all is_ascii_digit (drop i text) ≡ list_all is_ascii_digit text
  pub value : digits_value_after 10 number (drop i text) ≡ digits_value 10 text
  pub small : number < 10 ^ i

-- as long as more may follow, the number is small
pub fits-more : (text : List ℕ) (i number : ℕ) → IsReading text i number → i < length text → length text ≤ 18 → number < 10 ^ 17
fits-more text i number so_far within few =
    let before : i ≤ 17 = omega (arith, within, few) in
    let most : 10 ^ i ≤ 10 ^ 17 = pow-le-pow_right {n = 10} (omega arith) before in
    let below = so_far.small in
    omega (arith, below, most)

-- ---- the number of a text

all_digits : (bs : List ℕ) → list_all is_ascii_digit bs ≡ true → AllDigits 10 bs
all_digits [] is = tt
all_digits (b ∷ bs) is = let first = first_digit b bs is in (first.0, all_digits bs first.1)
  where
    first_digit : (b : ℕ) (bs : List ℕ) → list_all is_ascii_digit (b ∷ bs) ≡ true → (digit_value b < 10) × (list_all is_ascii_digit bs ≡ true)
    first_digit b bs is = (grind (arith, nat_tests), grind (arith, nat_tests))

own_model : IsNumeralModel (λ bs. AllDigits 10 bs) (λ bs. digits_value 10 bs)
own_model = record { to = λ ds all. all; from = λ ds all. all; same = λ ds all. refl }

-- few digits write less than the end of the numbers
pub few-digits : (text : List ℕ) → list_all is_ascii_digit text ≡ true → length text ≤ 18 → digits_value 10 text < NUMBER_END
few-digits text is few =
    let short : digits_value 10 text < 10 ^ 18 = digits_value_short own_model text 18 (all_digits text is) few in
    omega (arith, short)

-- what was read of few bytes is their number
pub short-is : (text : List ℕ) (o : Option ℕ) → begins_plain text ≡ true → length text ≤ 18
    → MatchOption o (list_all is_ascii_digit text ≡ false) (λ number. (list_all is_ascii_digit text ≡ true) × (number ≡ digits_value 10 text))
    → o ≡ number_of text
short-is text None plain few is = rw (plain, is) refl
short-is text (Some number) plain few is =
    let below : nat_lt (digits_value 10 text) NUMBER_END ≡ true = let less = few-digits text is.0 few in grind (arith, nat_tests) in
    rw (plain, is.0, below) (ap Some is.1)

-- and it is below their end
pub short-small : (text : List ℕ) (o : Option ℕ) → length text ≤ 18
    → MatchOption o (list_all is_ascii_digit text ≡ false) (λ number. (list_all is_ascii_digit text ≡ true) × (number ≡ digits_value 10 text))
    → IfSome o (λ number. number < NUMBER_END)
short-small text None few is = tt
short-small text (Some number) few is = rw is.1 (few-digits text is.0 few)
