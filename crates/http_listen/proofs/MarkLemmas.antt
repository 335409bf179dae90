-- What a log is told of the streams of connections.
use Rattle.std.proofs.Common.{◌≡◌, ◌≢◌, List, [], ◌∷◌, ◌++◌, Bool, true, false, cond, None, Some, ℕ, refl, sym, ap, ◌∙◌, append_assoc, append-nil}
use Rattle.std.proofs.lemmas.Bool.{eq-eqb, ne_eqb}
use Rattle.std.specs.Prelude.{nat_eq}
use Rattle.std.specs.declared.option.Option.{Option}
use Rattle.http_listen.specs.Marks.{Mark, number_of, marks_of, Adds}

module _ {S : Type 0} where
  -- It is told nothing, and one thing after the other.
  pub adds_none : (a : Option (List (Mark S))) → Adds a [] a
  adds_none None = tt
  adds_none (Some marks) = sym (append-nil marks)

  pub adds_both : (a b c : Option (List (Mark S))) (m n : List (Mark S)) → Adds a m b → Adds b n c → Adds a (m ++ n) c
  adds_both None b c m n p q = tt
  adds_both (Some a) None c m n p q = absurd p
  adds_both (Some a) (Some b) None m n p q = absurd q
  adds_both (Some a) (Some b) (Some c) m n p q = q ∙ ap (λ (l : List (Mark S)). l ++ n) p ∙ append_assoc a m n

  cons_more : (b : Bool) (mark : Mark S) (before after more : List (Mark S)) → after ≡ before ++ more
      → cond b (mark ∷ after) after ≡ cond b (mark ∷ before) before ++ more
  cons_more true mark before after more e = ap (λ (l : List (Mark S)). mark ∷ l) e
  cons_more false mark before after more e = e

  -- One more, of this connection.
  pub marks_of_here : (marks : List (Mark S)) (mark : Mark S) → marks_of (number_of mark) (marks ++ mark ∷ []) ≡ marks_of (number_of mark) marks ++ mark ∷ []
  marks_of_here [] mark = ap (λ (b : Bool). cond b (mark ∷ []) []) (eq-eqb (number_of mark) (number_of mark) refl)
  marks_of_here (one ∷ marks) mark =
      cons_more (nat_eq (number_of one) (number_of mark)) one (marks_of (number_of mark) marks) (marks_of (number_of mark) (marks ++ mark ∷ [])) (mark ∷ [])
      (marks_of_here marks mark)

  cons_as : (b : Bool) (mark : Mark S) (before after : List (Mark S)) → after ≡ before → cond b (mark ∷ after) after ≡ cond b (mark ∷ before) before
  cons_as true mark before after e = ap (λ (l : List (Mark S)). mark ∷ l) e
  cons_as false mark before after e = e

  -- Of another one.
  pub marks_of_other : (other : ℕ) (marks : List (Mark S)) (mark : Mark S) → number_of mark ≢ other → marks_of other (marks ++ mark ∷ []) ≡ marks_of other marks
  marks_of_other other [] mark n = ap (λ (b : Bool). cond b (mark ∷ []) []) (ne_eqb (number_of mark) other n)
  marks_of_other other (one ∷ marks) mark n =
      cons_as (nat_eq (number_of one) other) one (marks_of other marks) (marks_of other (marks ++ mark ∷ [])) (marks_of_other other marks mark n)
