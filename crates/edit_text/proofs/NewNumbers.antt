-- Numbers of which none of some changes is.
use Rattle.std.proofs.Common.{◌≡◌, ◌≢◌, ◌↔◌, ℕ, Bool, true, false, cond, eqb, List, [], ◌∷◌, IsTrue, refl, sym, ap, ◌∙◌}
use Rattle.std.proofs.lemmas.Bool.{false≢true, eq-eqb, ne_eqb}
use Rattle.std.proofs.lemmas.List.Elements.{All-nil, All-cons, All-head, All-tail}
use Rattle.feature_model.specs.Data.{ChangeData, number_of}
use Rattle.feature_model.specs.Limits.{IsNew}
use Rattle.edit_text.specs.Reading.{is_new}

abbrev Differs : ℕ → ChangeData → Type 0
Differs id c = number_of c ≢ id

new_by : (id : ℕ) (c : ChangeData) (cs : List ChangeData) (b : Bool) → eqb (number_of c) id ≡ b
    → (is_new cs id ≡ true → IsNew cs id) → cond b false (is_new cs id) ≡ true → IsNew (c ∷ cs) id
new_by id c cs true t others e = absurd (false≢true e)
new_by id c cs false t others e =
    All-cons (Differs id) c cs (λ same. false≢true (sym t ∙ eq-eqb (number_of c) id same)) (others e)

pub new_from : (cs : List ChangeData) (id : ℕ) → is_new cs id ≡ true → IsNew cs id
unfolding is_new
new_from [] id e = All-nil (Differs id)
new_from (c ∷ cs) id e = new_by id c cs (eqb (number_of c) id) refl (new_from cs id) e

pub is_new_from : (cs : List ChangeData) (id : ℕ) → IsNew cs id → is_new cs id ≡ true
unfolding is_new
is_new_from [] id new = refl
is_new_from (c ∷ cs) id new =
    ap (λ b. cond b false (is_new cs id)) (ne_eqb (number_of c) id (All-head (Differs id) c cs new))
    ∙ is_new_from cs id (All-tail (Differs id) c cs new)

told_by : (b c : Bool) → (b ≡ true → c ≡ true) → (c ≡ true → b ≡ true) → b ≡ c
told_by true true to from = refl
told_by true false to from = absurd (false≢true (to refl))
told_by false true to from = absurd (false≢true (from refl))
told_by false false to from = refl

-- a test of it is the same
pub told_new : (cs : List ChangeData) (id : ℕ) (b : Bool) → IsTrue b ↔ IsNew cs id → b ≡ is_new cs id
told_new cs id b tells = told_by b (is_new cs id) (λ t. is_new_from cs id (tells.0 t)) (λ t. tells.1 (new_from cs id t))
