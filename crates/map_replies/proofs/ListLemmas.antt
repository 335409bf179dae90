-- Texts are added to a list, one after the other.
use Rattle.std.proofs.Common.{◌≡◌, ◌∙◌, ℕ, List, [], ◌∷◌, ◌++◌, Bool, true, false, refl, sym, ap, append_assoc}
use Rattle.std.proofs.lemmas.List.{append-nil}
use Rattle.map_replies.specs.Lists.{comma, comma_if, more_joined, joined}

more_after : (done : List (List ℕ)) (text : List ℕ) → more_joined (done ++ text ∷ []) ≡ more_joined done ++ (comma ++ text)
more_after [] text = ap (λ (t : List ℕ). comma ++ t) (append-nil text)
more_after (d ∷ done) text =
    ap (λ (t : List ℕ). comma ++ (d ++ t)) (more_after done text)
    ∙ ap (λ (t : List ℕ). comma ++ t) (sym (append_assoc d (more_joined done) (comma ++ text)))
    ∙ sym (append_assoc comma (d ++ more_joined done) (comma ++ text))

-- some were added before
abbrev pub are_some : {A : Type 0} → List A → Bool
are_some [] = false
are_some (x ∷ xs) = true

joined_after : (done : List (List ℕ)) (text : List ℕ) → joined (done ++ text ∷ []) ≡ joined done ++ (comma_if (are_some done) ++ text)
joined_after [] text = append-nil text
joined_after (d ∷ done) text =
    ap (λ (t : List ℕ). d ++ t) (more_after done text) ∙ sym (append_assoc d (more_joined done) (comma ++ text))

-- one text more
pub joined_on : (old now new : List ℕ) (more : Bool) (done : List (List ℕ)) (text : List ℕ) → now ≡ old ++ joined done → more ≡ are_some done
    → new ≡ now ++ (comma_if more ++ text) → new ≡ old ++ joined (done ++ text ∷ [])
joined_on old now new more done text now_is more_is new_is =
    new_is ∙ ap (λ (t : List ℕ). t ++ (comma_if more ++ text)) now_is ∙ append_assoc old (joined done) (comma_if more ++ text)
    ∙ ap (λ (b : Bool). old ++ (joined done ++ (comma_if b ++ text))) more_is ∙ ap (λ (t : List ℕ). old ++ t) (sym (joined_after done text))

pub some_after : {A : Type 0} (done : List A) (x : A) → are_some (done ++ x ∷ []) ≡ true
some_after [] x = refl
some_after (d ∷ done) x = refl
