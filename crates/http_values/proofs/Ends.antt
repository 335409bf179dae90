-- The two positions of a range, before and after its dash.
use Rattle.std.proofs.Common.{◌≡◌, ℕ, suc, ◌+◌, ◌-◌, ◌<◌, ◌≤◌, ◌^◌, List, [], ◌∷◌, ◌++◌, true, false, length, take, drop, get_or}
use Rattle.std.proofs.Common.{drop-cons, length-append, length-drop, take_all, refl, sym, ◌∙◌, ap, subst, arith}
use Rattle.std.specs.Prelude.{Bool, cond, nat_lt, nat_eq, Option, Some, None, MatchOption, ◌↔◌, codes}
use Rattle.std.specs.Cmp.Lexicographic.{pointwise, same_text}
use Rattle.std.proofs.lemmas.List.{append_cancel_left, take-append-drop}
use Rattle.std.proofs.lemmas.List.Quantifiers.{position-Some}
use Rattle.std.specs.List.{list_all, position, position_or_len}
use Rattle.std.specs.Char.{is_ascii_digit, digit_value}
use Rattle.std.specs.Str.Parse.{AllDigits, digits_value}
use Rattle.std.proofs.lemmas.Bool.Decides.{nat_tests}
use Rattle.std.proofs.lemmas.Str.Parse.{IsNumeralModel, digits_value_short}
use Rattle.std.proofs.Math.Seq.{take-append_seam, drop-append-add}
use Rattle.http_values.specs.Ranges.{is_numeral, is_dash, IsPosition, AreAround, AreEnds, IsRange}
use Rattle.http_values.specs.declared.ranges.ByteRange.{ByteRange}
use Rattle.std.proofs.lemmas.Option.{none-some}

-- ---- digits

first_digit : (b : ℕ) (bs : List ℕ) → list_all is_ascii_digit (b ∷ bs) ≡ true
    → (digit_value b < 10) × (is_dash b ≡ false) × (list_all is_ascii_digit bs ≡ true)
first_digit b bs is = (grind (arith, nat_tests), grind (arith, nat_tests), grind (arith, nat_tests))

all_digits : (bs : List ℕ) → list_all is_ascii_digit bs ≡ true → AllDigits 10 bs
all_digits [] is = tt
all_digits (b ∷ bs) is = let first = first_digit b bs is in (first.0, all_digits bs first.2)

own_model : IsNumeralModel (λ bs. AllDigits 10 bs) (λ bs. digits_value 10 bs)
own_model = record { to = λ ds all. all; from = λ ds all. all; same = λ ds all. refl }

-- what a numeral is
pub of_numeral : (text : List ℕ) → is_numeral text ≡ true → (0 < length text) × (length text ≤ 18) × (list_all is_ascii_digit text ≡ true)
of_numeral text is = (grind (arith, nat_tests), grind (arith, nat_tests), grind (arith, nat_tests))

-- it fits
pub numeral_fits : (text : List ℕ) → is_numeral text ≡ true → digits_value 10 text < 2 ^ 64
numeral_fits text is =
    let numeral = of_numeral text is in
    let short : digits_value 10 text < 10 ^ 18 = digits_value_short own_model text 18 (all_digits text numeral.2) numeral.1 in
    omega (arith, short)

-- what the number of a numeral is
pub read_position : (text : List ℕ) (o : Option ℕ) → is_numeral text ≡ true
    → MatchOption o (2 ^ 64 ≤ digits_value 10 text) (λ number. number ≡ digits_value 10 text)
    → MatchOption o ((position : ℕ) → ¬ (IsPosition text position)) (IsPosition text)
read_position text (Some n) is read = (is, read)
read_position text None is read = absurd (omega (arith, read, numeral_fits text is))

-- ---- the dash

dash_behind : (digits rest : List ℕ) → list_all is_ascii_digit digits ≡ true → position_or_len is_dash (digits ++ 45 ∷ rest) ≡ length digits
dash_behind [] rest is = refl
dash_behind (d ∷ digits) rest is =
    let first = first_digit d digits is in
    let more = dash_behind digits rest first.2 in
    rw first.1 (omega (arith, more))

-- the index of the first dash, if there is one
dash_is : (text : List ℕ) (dash : ℕ) → position is_dash text ≡ Some dash → (position_or_len is_dash text ≡ dash) × (dash < length text)
dash_is text dash is = by_test (nat_lt (position_or_len is_dash text) (length text)) refl is
  where
    by_test : (b : Bool) → nat_lt (position_or_len is_dash text) (length text) ≡ b → cond b (Some (position_or_len is_dash text)) None ≡ Some dash
        → (position_or_len is_dash text ≡ dash) × (dash < length text)
    by_test true test same = let at : position_or_len is_dash text ≡ dash = cc in (at, subst (λ (n : ℕ). n < length text) at (grind (arith, nat_tests, test)))
    by_test false test same = absurd (none-some dash same)

dash_stands : (text : List ℕ) (dash : ℕ) → position is_dash text ≡ Some dash → text ≡ take dash text ++ 45 ∷ drop (dash + 1) text
dash_stands text dash is =
    let passes = position-Some is_dash text dash 0 is in
    let byte : get_or text dash 0 ≡ 45 = grind (arith, nat_tests, passes.1) in
    let next : suc dash ≡ dash + 1 = omega arith in
    let behind : drop dash text ≡ 45 ∷ drop (dash + 1) text =
    drop-cons text dash 0 passes.0 ∙ (ap (λ (b : ℕ). b ∷ drop (suc dash) text) byte ∙ ap (λ (n : ℕ). 45 ∷ drop n text) next) in
    sym (take-append-drop dash text) ∙ ap (λ (t : List ℕ). take dash text ++ t) behind

-- the texts before and after a dash
around_dash : (text before behind : List ℕ) → text ≡ before ++ 45 ∷ behind → list_all is_ascii_digit before ≡ true
    → (before ≡ take (position_or_len is_dash text) text) × (behind ≡ drop (position_or_len is_dash text + 1) text)
around_dash text before behind is digits =
    let at : position_or_len is_dash text ≡ length before = ap (position_or_len is_dash) is ∙ dash_behind before behind digits in (
      sym (ap (λ (n : ℕ). take n text) at ∙ (ap (take (length before)) is ∙ take-append_seam before (45 ∷ behind))),
      sym (ap (λ (n : ℕ). drop (n + 1) text) at ∙ (ap (drop (length before + 1)) is ∙ drop-append-add before (45 ∷ behind) 1)),
    )

ends_around : (text : List ℕ) (first last : ℕ) → AreEnds text first last
    → AreAround (take (position_or_len is_dash text) text) (drop (position_or_len is_dash text + 1) text) first last
ends_around text first last is =
    let same = around_dash text is.0 is.1 is.2 (of_numeral is.0 is.3.0.0).2 in
    subst (λ (t : List ℕ). AreAround t (drop (position_or_len is_dash text + 1) text) first last) same.0
    (subst (λ (t : List ℕ). AreAround is.0 t first last) same.1 is.3)

-- the texts before and after a dash, as the ends of a range
pub ends_at : (text : List ℕ) (dash : ℕ) (o : Option ByteRange) → position is_dash text ≡ Some dash
    → MatchOption o ((first last : ℕ) → ¬ (AreAround (take dash text) (drop (dash + 1) text) first last))
    (λ range. AreAround (take dash text) (drop (dash + 1) text) range.first range.last)
    → MatchOption o ((first last : ℕ) → ¬ (AreEnds text first last)) (λ range. AreEnds text range.first range.last)
ends_at text dash (Some range) is around =
    let at = dash_is text dash is in
    (take dash text, drop (dash + 1) text, dash_stands text dash is, around)
ends_at text dash None is around = λ first last ends.
    let at = dash_is text dash is in
    around first last (subst (λ (n : ℕ). AreAround (take n text) (drop (n + 1) text) first last) at.0 (ends_around text first last ends))

-- the slice from a place to the end is what the place leaves
pub rest_is : (text : List ℕ) (place : ℕ) → take (length text - place) (drop place text) ≡ drop place text
rest_is text place = take_all (length text - place) (drop place text) (omega (arith, length-drop place text))

-- a text without a dash has no ends
pub no_ends : (text : List ℕ) (first last : ℕ) → position is_dash text ≡ None → ¬ (AreEnds text first last)
no_ends text first last none ends =
    let at : position_or_len is_dash text ≡ length ends.0 = ap (position_or_len is_dash) ends.2 ∙ dash_behind ends.0 ends.1 (of_numeral ends.0 ends.3.0.0).2 in
    let size : length text ≡ length ends.0 + suc (length ends.1) = ap length ends.2 ∙ length-append ends.0 (45 ∷ ends.1) in
    by_test (nat_lt (position_or_len is_dash text) (length text)) refl none (omega (arith, at, size))
  where
    by_test : (b : Bool) → nat_lt (position_or_len is_dash text) (length text) ≡ b → cond b (Some (position_or_len is_dash text)) None ≡ None
        → position_or_len is_dash text < length text → ⊥
    by_test true test same within = none-some (position_or_len is_dash text) (sym same)
    by_test false test same within = grind (arith, nat_tests, test, within)

-- the same of a value that has the unit in front
pub behind_unit : (value text : List ℕ) → pointwise nat_eq (take 6 value) (codes "bytes=") ≡ true → text ≡ drop 6 value → value ≡ codes "bytes=" ++ text
behind_unit value text is rest =
    sym (take-append-drop 6 value) ∙ (ap (λ (t : List ℕ). t ++ drop 6 value) (same_text (take 6 value) (codes "bytes=") (sym is))
    ∙ ap (λ (t : List ℕ). codes "bytes=" ++ t) (sym rest))

-- ---- at most one

same_ends : (text : List ℕ) (a b c d : ℕ) → AreEnds text a b → AreEnds text c d → (a ≡ c) × (b ≡ d)
same_ends text a b c d is other =
    let one = ends_around text a b is in
    let two = ends_around text c d other in
    (one.0.1 ∙ sym two.0.1, one.1.1 ∙ sym two.1.1)

-- a value asks for at most one range
pub same_range : (value : List ℕ) (a b c d : ℕ) → IsRange value a b → IsRange value c d → (a ≡ c) × (b ≡ d)
same_range value a b c d is other =
    let same : is.0 ≡ other.0 = append_cancel_left (codes "bytes=") is.0 other.0 (sym is.1 ∙ other.1) in
    same_ends other.0 a b c d (subst (λ (t : List ℕ). AreEnds t a b) same is.2) other.2

same_bounds : (a b : ByteRange) → a.first ≡ b.first → a.last ≡ b.last → Some a ≡ Some b
same_bounds a b first last =
    ap (λ (n : ℕ). Some (record { first = n; last = a.last })) first ∙ ap (λ (n : ℕ). Some (record { first = b.first; last = n })) last

found_is : (found range : ByteRange) → Some found ≡ Some range → found ≡ range
found_is found range same = cc

-- the range that was found, or none, is what the value asks for
pub asks : (value text : List ℕ) (o : Option ByteRange) → value ≡ codes "bytes=" ++ text
    → MatchOption o ((first last : ℕ) → ¬ (AreEnds text first last)) (λ range. AreEnds text range.first range.last)
    → (range : ByteRange) → (o ≡ Some range) ↔ IsRange value range.first range.last
asks value text (Some found) is ends range = (
  λ same. (text, is, subst (λ (r : ByteRange). AreEnds text r.first r.last) (found_is found range same) ends),
  λ other. let same = same_range value found.first found.last range.first range.last (text, is, ends) other in
      same_bounds found range same.0 same.1,
)
asks value text None is ends range = (
  λ same. absurd (none-some range same),
  λ other. absurd (ends range.first range.last
      (subst (λ (t : List ℕ). AreEnds t range.first range.last) (append_cancel_left (codes "bytes=") other.0 text (sym other.1 ∙ is)) other.2)),
)
