-- Calls that ask for no edit are given.
use Rattle.std.proofs.Common.{◌≡◌, ℕ, zero, suc, ◌+◌, List, [], ◌∷◌, ◌++◌, length, take, refl, sym, ap, subst, ◌∙◌, arith, length-append}
use Rattle.edit_text.specs.Recorded.{RecordedEdit}
use Rattle.feature_model.specs.Data.{EditData}
use Rattle.tile_service.specs.Machine.{Happening, edit}
use Rattle.tile_service.specs.Runs.{edits_by, acknowledged}
use Rattle.map_replies.proofs.Quiet.{IsQuiet, AreQuiet}
use Rattle.two_machines.specs.Machines.{IsGiven, AreGiven}
use Rattle.two_machines.proofs.Counts.{acknowledged_both}
use Rattle.two_machines.proofs.Lists.{given_on}

no_edits : (h : Happening) → IsQuiet h → edits_by h ≡ []
no_edits (edit call e outcome) quiet = absurd quiet
no_edits h quiet = refl

pub none_acknowledged : (hs : List Happening) → AreQuiet hs → acknowledged hs ≡ []
none_acknowledged [] quiet = refl
none_acknowledged (h ∷ hs) quiet = ap (λ (l : List RecordedEdit). l ++ acknowledged hs) (no_edits h quiet.0) ∙ none_acknowledged hs quiet.1

-- an insertion of such calls acknowledges nothing more
pub as_many : (before quiet after : List Happening) → AreQuiet quiet
    → length (acknowledged (before ++ (quiet ++ after))) ≡ length (acknowledged (before ++ after))
as_many before quiet after are = omega (
  arith,
  ap length (acknowledged_both before (quiet ++ after)),
  ap length (acknowledged_both quiet after),
  ap length (acknowledged_both before after),
  ap length (none_acknowledged quiet are),
  length-append (acknowledged before) (acknowledged (quiet ++ after)),
  length-append (acknowledged quiet) (acknowledged after),
  length-append (acknowledged before) (acknowledged after),
)

module _ (first : ℕ) (edits : List EditData) where
  one_given : (last : ℕ) (h : Happening) → IsQuiet h → IsGiven first edits last h
  one_given last (edit call e outcome) quiet = absurd quiet
  one_given last h quiet = tt

  pub quiet_given : (last : ℕ) (hs : List Happening) → AreQuiet hs → AreGiven first edits last hs
  quiet_given last [] quiet = tt
  quiet_given last (h ∷ hs) quiet =
      let same : last ≡ last + length (edits_by h) = omega (arith, ap length (no_edits h quiet.0)) in
      (one_given last h quiet.0, subst (λ (n : ℕ). AreGiven first edits n hs) same (quiet_given last hs quiet.1))

  pub quiet_is_given : (last : ℕ) (hs are : List Happening) → hs ≡ are → AreQuiet are → AreGiven first edits last hs
  quiet_is_given last hs are is quiet = subst (AreGiven first edits last) (sym is) (quiet_given last are quiet)

  -- such calls between others
  pub quiet_between : (last : ℕ) (before quiet after : List Happening) → AreQuiet quiet → AreGiven first edits last (before ++ after)
      → AreGiven first edits last (before ++ (quiet ++ after))
  quiet_between last [] quiet after are given =
      let same : last ≡ last + length (acknowledged quiet) = omega (arith, ap length (none_acknowledged quiet are)) in
      given_on [] first edits last quiet after (quiet_given last quiet are) (subst (λ (n : ℕ). AreGiven first edits n after) same given)
  quiet_between last (h ∷ before) quiet after are given =
      (given.0, quiet_between (last + length (edits_by h)) before quiet after are given.1)

  -- the first of calls that are given
  pub first_given : (last n : ℕ) (hs : List Happening) → AreGiven first edits last hs → AreGiven first edits last (take n hs)
  first_given last zero hs given = tt
  first_given last (suc n) [] given = tt
  first_given last (suc n) (h ∷ hs) given = (given.0, first_given (last + length (edits_by h)) n hs given.1)
