-- Comparisons of numbers.
use Rattle.std.proofs.Common.{◌≡◌, ◌≢◌, ℕ, ◌<◌, true, false, ap, sym, inl, inr, arith}
use Rattle.std.specs.Ordering.{nat_cmp, is_eq}
use Rattle.std.specs.declared.cmp.Ordering.TheVariants.{Less, Equal, Greater}
use Rattle.std.specs.BTreeMap.{is_at}
use Rattle.std.proofs.lemmas.Cmp.{ranked}
use Rattle.std.proofs.lemmas.Bool.{cases_lt, cases_eq}
use Rattle.std.proofs.lemmas.Bool.Decides.{nat_tests}

-- the order of two numbers, as their comparison
pub less : (a b : ℕ) → a < b → nat_cmp a b ≡ Less
less a b h = grind (arith, nat_tests)

pub equal : (a b : ℕ) → a ≡ b → nat_cmp a b ≡ Equal
equal a b h = grind (arith, nat_tests)

pub greater : (a b : ℕ) → b < a → nat_cmp a b ≡ Greater
greater a b h = grind (arith, nat_tests)

pub below : (a b : ℕ) → nat_cmp a b ≡ Less → a < b
below a b h = ranked a b Less (sym h)

-- a number is at itself, and at no other
pub at_same : (a b : ℕ) → a ≡ b → is_at (nat_cmp a) b ≡ true
at_same a b h = ap is_eq (equal a b h)

pub at_other : (a b : ℕ) → a ≢ b → is_at (nat_cmp a) b ≡ false
at_other a b h = grind (arith, nat_tests)

-- one of three cases
pub by_order : {G : Type 0} (a b : ℕ) → (a < b → G) → (a ≡ b → G) → (b < a → G) → G
by_order a b lower even higher = elim (cases_lt a b) [
  | inl h ↦ lower h
  | inr h ↦ elim (cases_eq a b) [ inl e ↦ even e | inr n ↦ higher (omega arith) ]
]
