-- Some conditions, and which entity tags they name.
use Rattle.std.proofs.Common.{◌≡◌, refl, true, false, List, [], ◌∷◌, ℕ}
use Rattle.std.specs.Prelude.{codes}
use Rattle.httparse.specs.Grammar.{trim_ows}
use Rattle.http_requests.specs.Fields.{NamedValue}
use Rattle.http_requests.specs.Conditions.{is_star, names_tag}

-- one field, in any case
one : List ℕ → List NamedValue
one value = (codes "If-Match", value) ∷ []

-- two fields of this name, and another between them
two : (first second : List ℕ) → List NamedValue
two first second = (codes "if-match", first) ∷ (codes "host", codes "\"3-42-1234\"") ∷ (codes "if-match", second) ∷ []

the_tag : names_tag false (codes "\"3-42-1234\"") (codes "if-match") (one (codes "\"3-42-1234\"")) ≡ true
unfolding one names_tag is_star trim_ows
the_tag = refl

another_tag : names_tag true (codes "\"3-42-1234\"") (codes "if-match") (one (codes "\"3-42-123\"")) ≡ false
unfolding one names_tag is_star trim_ows
another_tag = refl

one_of_three : names_tag false (codes "\"3-42-1234\"") (codes "if-match") (one (codes "\"a,b\" ,\"\",,\t\"3-42-1234\" , W/\"c\"")) ≡ true
unfolding one names_tag is_star trim_ows
one_of_three = refl

none_of_two : names_tag true (codes "\"3-42-1234\"") (codes "if-match") (one (codes "\"a\", \"x3-42-1234\"")) ≡ false
unfolding one names_tag is_star trim_ows
none_of_two = refl

weak_where_strong_count : names_tag false (codes "\"3-42-1234\"") (codes "if-match") (one (codes "W/\"3-42-1234\"")) ≡ false
unfolding one names_tag is_star trim_ows
weak_where_strong_count = refl

weak_where_weak_count : names_tag true (codes "\"3-42-1234\"") (codes "if-match") (one (codes "W/\"a\", W/\"3-42-1234\"")) ≡ true
unfolding one names_tag is_star trim_ows
weak_where_weak_count = refl

weak_by_a_small_letter : names_tag true (codes "\"3-42-1234\"") (codes "if-match") (one (codes "w/\"3-42-1234\"")) ≡ false
unfolding one names_tag is_star trim_ows
weak_by_a_small_letter = refl

without_marks : names_tag true (codes "\"3-42-1234\"") (codes "if-match") (one (codes "3-42-1234")) ≡ false
unfolding one names_tag is_star trim_ows
without_marks = refl

pieces_of_a_tag : names_tag true (codes "\"3-42-1234\"") (codes "if-match") (one (codes "\"a,3-42-1234,b\"")) ≡ false
unfolding one names_tag is_star trim_ows
pieces_of_a_tag = refl

asterisk : names_tag false (codes "\"3-42-1234\"") (codes "if-match") (one (codes "*")) ≡ true
unfolding one names_tag is_star
asterisk = refl

asterisk_in_a_list : names_tag false (codes "\"3-42-1234\"") (codes "if-match") (one (codes "*, *")) ≡ false
unfolding one names_tag is_star trim_ows
asterisk_in_a_list = refl

nothing : names_tag true (codes "\"3-42-1234\"") (codes "if-match") (one (codes "")) ≡ false
unfolding one names_tag is_star trim_ows
nothing = refl

of_another_name : names_tag false (codes "\"3-42-1234\"") (codes "if-none-match") (one (codes "\"3-42-1234\"")) ≡ false
unfolding one names_tag is_star trim_ows
of_another_name = refl

no_field : names_tag false (codes "\"3-42-1234\"") (codes "if-match") [] ≡ false
unfolding names_tag is_star
no_field = refl

in_the_second_field : names_tag false (codes "\"3-42-1234\"") (codes "if-match") (two (codes "\"a\"") (codes "\"b\", \"3-42-1234\"")) ≡ true
unfolding two names_tag is_star trim_ows
in_the_second_field = refl

in_neither_field : names_tag false (codes "\"3-42-1234\"") (codes "if-match") (two (codes "\"a\"") (codes "*")) ≡ false
unfolding two names_tag is_star trim_ows
in_neither_field = refl
