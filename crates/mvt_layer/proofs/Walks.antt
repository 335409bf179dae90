-- One walk over a message, where each field number has a state of its own.
use Rattle.std.proofs.Common.{◌≡◌, ◌≢◌, List, [], ◌∷◌, Result, Ok, Err, refl, sym}
use Rattle.reader.specs.Reading.{Read, Gives, folded}
use Rattle.reader.proofs.Steps.{same_fault, not_both, folded_on, folded_stop, folded_done}
use Rattle.mvt_layer.specs.declared.fault.TileFault.{TileFault}
use Rattle.mvt_layer.specs.declared.fault.TileFault.TheVariants.{Memory}
use Rattle.mvt_layer.specs.Reading.{onward}

-- what a state says so far leads to the whole by what is left; its fault is the whole's
abbrev pub Leads : {X S A : Type 0} → (X → S) → Result X TileFault → (S → Read TileFault A) → Read TileFault A → Type 0
Leads view (Ok x) next whole = next (view x) ≡ whole
Leads view (Err d) next whole = d ≢ Memory → whole ≡ Err d

-- a state of which nothing is said stays
pub kept : {X S : Type 0} (view : X → S) (before : Result X TileFault) → Gives Memory view before (onward view before (λ s. Ok s))
kept view (Ok x) = refl
kept view (Err d) = λ _. refl

-- one item more, after which the state is seen another way
pub leads_to : {X S I : Type 0} (view later : X → S) (step : S → I → Read TileFault S)
    → (before next : Result X TileFault) (item : I) (left others : List I) (whole : Read TileFault S)
    → left ≡ item ∷ others → Leads view before (λ s. folded step s left) whole → Gives Memory later next (onward view before (λ s. step s item))
    → Leads later next (λ s. folded step s others) whole
leads_to view later step (Ok x) (Ok y) item left others whole first so_far e = folded_on step (view x) (later y) item left others whole first so_far e
leads_to view later step (Ok x) (Err d) item left others whole first so_far e = λ other.
    folded_stop step (view x) item left others d whole first so_far (e other)
leads_to view later step (Err c) (Ok y) item left others whole first so_far e = absurd (not_both (later y) c (sym e))
leads_to {X} {S} view later step (Err c) (Err d) item left others whole first so_far e = λ other.
    let same : c ≡ d = same_fault {A = S} c d (e other) in
    rw same at so_far other

module _ {X S I : Type 0} (view : X → S) (step : S → I → Read TileFault S) where
  -- one item more
  pub leads_on : (before next : Result X TileFault) (item : I) (left others : List I) (whole : Read TileFault S)
      → left ≡ item ∷ others → Leads view before (λ s. folded step s left) whole → Gives Memory view next (onward view before (λ s. step s item))
      → Leads view next (λ s. folded step s others) whole
  leads_on = leads_to view view step

  -- nothing is left
  pub leads_done : (state : Result X TileFault) (left : List I) (whole : Read TileFault S)
      → left ≡ [] → Leads view state (λ s. folded step s left) whole → Gives Memory view state whole
  leads_done (Ok x) left whole nothing so_far = folded_done step (view x) left whole nothing so_far
  leads_done (Err d) left whole nothing so_far = so_far
