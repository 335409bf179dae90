-- Texts that are added in sequence.
use Rattle.std.proofs.Common.{◌≡◌, ◌++◌, ◌∙◌, ap, append_assoc, sym, ℕ, List, Bool, true, false, cond}

-- two texts are added in sequence
pub two_added : (front a b x y : List ℕ) → x ≡ front ++ a → y ≡ x ++ b → y ≡ front ++ (a ++ b)
two_added front a b x y first second = second ∙ ap (λ (t : List ℕ). t ++ b) first ∙ append_assoc front a b

-- three texts are added in sequence
pub three_added : (front a b c x y z : List ℕ) → x ≡ front ++ a → y ≡ x ++ b → z ≡ y ++ c → z ≡ front ++ (a ++ b ++ c)
three_added front a b c x y z first second third =
    third ∙ ap (λ (t : List ℕ). t ++ c) (second ∙ ap (λ (t : List ℕ). t ++ b) first) ∙ simp append_assoc

-- four texts are added in sequence
pub four_added : (front a b c d w x y z : List ℕ) → w ≡ front ++ a → x ≡ w ++ b → y ≡ x ++ c → z ≡ y ++ d → z ≡ front ++ (a ++ b ++ c ++ d)
four_added front a b c d w x y z first second third fourth =
    fourth ∙ ap (λ (t : List ℕ). t ++ d) (three_added front a b c w x y first second third) ∙ simp append_assoc

-- five texts are added in sequence
pub five_added : (front a b c d e v w x y z : List ℕ) → v ≡ front ++ a → w ≡ v ++ b → x ≡ w ++ c → y ≡ x ++ d → z ≡ y ++ e
    → z ≡ front ++ (a ++ b ++ c ++ d ++ e)
five_added front a b c d e v w x y z first second third fourth fifth =
    fifth ∙ ap (λ (t : List ℕ). t ++ e) (four_added front a b c d v w x y first second third fourth) ∙ simp append_assoc

-- the first of two texts is added if a test holds
pub first_added : (b : Bool) (front x y z : List ℕ) → b ≡ true → z ≡ front ++ x → z ≡ front ++ cond b x y
first_added b front x y z holds is = is ∙ ap (λ (t : Bool). front ++ cond t x y) (sym holds)

-- the second of two texts is added if a test fails
pub others_added : (b : Bool) (front x y z : List ℕ) → b ≡ false → z ≡ front ++ y → z ≡ front ++ cond b x y
others_added b front x y z fails is = is ∙ ap (λ (t : Bool). front ++ cond t x y) (sym fails)
