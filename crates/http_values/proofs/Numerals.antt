-- Digits, as the standard library reads them.
use Rattle.std.proofs.Common.{◌≡◌, ℕ, zero, suc, ◌^◌, ◌<◌, ◌≤◌, List, [], ◌∷◌, true, length, Result, Ok, Err, refl, arith}
use Rattle.std.specs.Prelude.{MatchOption}
use Rattle.std.specs.List.{list_all}
use Rattle.std.specs.Result.{OkIff, result_ok}
use Rattle.std.specs.Char.{digit_value, is_ascii_digit}
use Rattle.std.specs.Str.{IsAscii, IsUtf8}
use Rattle.std.specs.Str.Parse.{AllDigits, ParsesUnsigned, digits_value}
use Rattle.std.proofs.lemmas.Bool.Decides.{nat_tests}
use Rattle.std.proofs.lemmas.Str.{IsUtf8-from_ascii}
use Rattle.std.proofs.lemmas.Str.Parse.{IsNumeralModel, parse_digits}

first-digit : (b : ℕ) (bs : List ℕ) → list_all is_ascii_digit (b ∷ bs) ≡ true → (b < 128) × (digit_value b < 10) × (list_all is_ascii_digit bs ≡ true)
first-digit b bs is = (grind (arith, nat_tests), grind (arith, nat_tests), grind (arith, nat_tests))

all_digits : (bs : List ℕ) → list_all is_ascii_digit bs ≡ true → AllDigits 10 bs
all_digits [] is = tt
all_digits (b ∷ bs) is = let first = first-digit b bs is in (first.1, all_digits bs first.2)

digits-ascii : (bs : List ℕ) → list_all is_ascii_digit bs ≡ true → IsAscii bs
digits-ascii [] is i = omega arith
digits-ascii (b ∷ bs) is zero = (first-digit b bs is).0
digits-ascii (b ∷ bs) is (suc i) = digits-ascii bs (first-digit b bs is).2 i

-- digits are text
pub digits-text : (bs : List ℕ) → list_all is_ascii_digit bs ≡ true → IsUtf8 bs
digits-text bs is = IsUtf8-from_ascii bs (digits-ascii bs is)

own_model : IsNumeralModel (λ bs. AllDigits 10 bs) (λ bs. digits_value 10 bs)
own_model = record { to = λ ds all. all; from = λ ds all. all; same = λ ds all. refl }

by_result : {E : Type 0} (n : ℕ) (some : Type 0) (r : Result ℕ E) → some → OkIff r (some × (n < 2 ^ 64)) n
    → MatchOption (result_ok r) (2 ^ 64 ≤ n) (λ number. number ≡ n)
by_result n some (Ok number) is given = given.1
by_result n some (Err e) is given = le_of_not-lt (λ below. given (is, below))
  where
    le_of_not-lt : ¬ (n < 2 ^ 64) → 2 ^ 64 ≤ n
    le_of_not-lt not_below = omega (arith, not_below)

-- what the standard library reads of digits
pub digits_read : {E : Type 0} (bs : List ℕ) (r : Result ℕ E) → 0 < length bs → list_all is_ascii_digit bs ≡ true → ParsesUnsigned 64 10 bs r
    → MatchOption (result_ok r) (2 ^ 64 ≤ digits_value 10 bs) (λ number. number ≡ digits_value 10 bs)
digits_read bs r some is given =
    by_result (digits_value 10 bs) (0 < length bs) r some (parse_digits own_model 64 bs r given (all_digits bs is))
