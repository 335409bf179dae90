-- All conversations, as one of them goes on.
use Rattle.std.proofs.Common.{unwrap_or, ◌≡◌, ◌≢◌, ℕ, List, [], ◌∷◌, ◌++◌, Bool, true, false, cond, None, Some, Result, refl, sym, ap, subst, ◌∙◌, true≢false}
use Rattle.std.proofs.lemmas.Bool.{eq-eqb, ne_eqb}
use Rattle.std.specs.Prelude.{nat_eq, is_some}
use Rattle.std.specs.declared.option.Option.{Option}
use Rattle.http_requests.specs.Requests.{RequestView}
use Rattle.http_serve.specs.Reply.{ReplyView}
use Rattle.http_serve.specs.declared.handlers.RestFault.{RestFault}
use Rattle.http_serve.specs.declared.handlers.Ticket.{Ticket}
use Rattle.http_listen.specs.Conversations.{Act, Deed, acts_of, deeds_of, Runs}

cons_if : (b : Bool) (act : Act) (before after more : List Act) → after ≡ before ++ more → cond b (act ∷ after) after ≡ cond b (act ∷ before) before ++ more
cons_if true act before after more e = ap (λ (l : List Act). act ∷ l) e
cons_if false act before after more e = e

-- More deeds, of this connection.
pub acts_of_here : (number : ℕ) (deeds : List Deed) (acts : List Act) → acts_of number (deeds ++ deeds_of number acts) ≡ acts_of number deeds ++ acts
acts_of_here number [] [] = refl
acts_of_here number [] (act ∷ acts) =
    ap (λ (b : Bool). cond b (act ∷ acts_of number (deeds_of number acts)) (acts_of number (deeds_of number acts))) (eq-eqb number number refl)
    ∙ ap (λ (l : List Act). act ∷ l) (acts_of_here number [] acts)
acts_of_here number (deed ∷ deeds) acts =
    cons_if (nat_eq deed.number number) deed.act (acts_of number deeds) (acts_of number (deeds ++ deeds_of number acts)) acts (acts_of_here number deeds acts)

cons_same : (b : Bool) (act : Act) (before after : List Act) → after ≡ before → cond b (act ∷ after) after ≡ cond b (act ∷ before) before
cons_same true act before after e = ap (λ (l : List Act). act ∷ l) e
cons_same false act before after e = e

-- Of another one.
pub acts_of_other : (number other : ℕ) (deeds : List Deed) (acts : List Act) → number ≢ other
    → acts_of other (deeds ++ deeds_of number acts) ≡ acts_of other deeds
acts_of_other number other [] [] n = refl
acts_of_other number other [] (act ∷ acts) n =
    ap (λ (b : Bool). cond b (act ∷ acts_of other (deeds_of number acts)) (acts_of other (deeds_of number acts))) (ne_eqb number other n)
    ∙ acts_of_other number other [] acts n
acts_of_other number other (deed ∷ deeds) acts n =
    cons_same (nat_eq deed.number other) deed.act (acts_of other deeds) (acts_of other (deeds ++ deeds_of number acts))
    (acts_of_other number other deeds acts n)

module _ {S : Type 0} (replies : S → RequestView → ReplyView → S → Type 0)
    (reads : S → Ticket → (offset count : ℕ) → Result (List ℕ) RestFault → S → Type 0) (ticket_of : S → Ticket)
    (prepares : S → (connection : ℕ) → RequestView → S → Type 0) where
  -- Deeds, and then other ones.
  pub runs_both : (old middle new : S) (front back : List Deed) → Runs replies reads ticket_of prepares old front middle
      → Runs replies reads ticket_of prepares middle back new → Runs replies reads ticket_of prepares old (front ++ back) new
  runs_both old middle new [] back first then = subst (λ (s : S). Runs replies reads ticket_of prepares s back new) first then
  runs_both old middle new (deed ∷ front) back first then = (first.0, first.1, runs_both first.0 middle new front back first.2 then)

-- Equal values of two options.
pub some_same : {T : Type 0} {x y : T} → Some x ≡ Some y → x ≡ y
some_same {T} {x} {y} e = ap (λ (o : Option T). unwrap_or o x) e

-- Nothing isn't something.
pub none_some : {T : Type 0} {x : T} → None ≡ Some x → ⊥
none_some e = true≢false (ap is_some (sym e))
