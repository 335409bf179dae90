-- Requests that rest before they are answered.
use Rattle.std.specs.Prelude.{⊤}
use Rattle.http_serve.specs.declared.handlers.Preparation.{Preparation}
use Rattle.http_serve.specs.declared.handlers.Preparation.TheVariants.{Ready, GoesOn, Waits, Rests}

-- the request may rest
abbrev pub IsRest : Preparation → Type 0
IsRest Ready = ⊥
IsRest GoesOn = ⊥
IsRest Waits = ⊥
IsRest (Rests longest) = ⊤
