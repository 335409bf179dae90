-- Texts that were added one after the other.
use Rattle.std.proofs.Common.{◌≡◌, ◌∙◌, ℕ, List, ◌++◌, ap, append_assoc}

-- text with one more after it
more : (t a b text : List ℕ) → text ≡ t ++ a → text ++ b ≡ t ++ (a ++ b)
more t a b text is = ap (λ (s : List ℕ). s ++ b) is ∙ append_assoc t a b

pub four_pushed : (t a b c d : List ℕ) → t ++ a ++ b ++ c ++ d ≡ t ++ (a ++ b ++ c ++ d)
four_pushed t a b c d = more t (a ++ b ++ c) d (t ++ a ++ b ++ c) (more t (a ++ b) c (t ++ a ++ b) (append_assoc t a b))

pub five_pushed : (t a b c d e : List ℕ) → t ++ a ++ b ++ c ++ d ++ e ≡ t ++ (a ++ b ++ c ++ d ++ e)
five_pushed t a b c d e = more t (a ++ b ++ c ++ d) e (t ++ a ++ b ++ c ++ d) (four_pushed t a b c d)

pub six_pushed : (t a b c d e f : List ℕ) → t ++ a ++ b ++ c ++ d ++ e ++ f ≡ t ++ (a ++ b ++ c ++ d ++ e ++ f)
six_pushed t a b c d e f = more t (a ++ b ++ c ++ d ++ e) f (t ++ a ++ b ++ c ++ d ++ e) (five_pushed t a b c d e)

pub seven_pushed : (t a b c d e f g : List ℕ) → t ++ a ++ b ++ c ++ d ++ e ++ f ++ g ≡ t ++ (a ++ b ++ c ++ d ++ e ++ f ++ g)
seven_pushed t a b c d e f g = more t (a ++ b ++ c ++ d ++ e ++ f) g (t ++ a ++ b ++ c ++ d ++ e ++ f) (six_pushed t a b c d e f)
