use Rattle.std.proofs.Common.{◌≡◌, ◌^◌, ◌≤◌, List, ℕ, Option, subst, sym}
use Rattle.std.specs.Prelude.{MatchOption}
use Rattle.std.specs.Str.Parse.{ParsesUnsigned, digits_value}
use Rattle.http_values.proofs.Numerals.{digits-text, digits_read}
use Rattle.http_values.proofs.digits.digits_number.Goals as goal

pub returns-in-Ok : goal.returns-in-Ok
returns-in-Ok c =
    let digits = c.args.digits.now in
    let read = subst (λ (text : List ℕ). ParsesUnsigned 64 10 text c.parse.result) c.in-Ok.ensures.cases.0 c.parse.ensures.value.0 in
    subst (λ (o : Option ℕ). MatchOption o (2 ^ 64 ≤ digits_value 10 digits) (λ number. number ≡ digits_value 10 digits)) (sym c.ok.ensures.value)
    (digits_read digits c.parse.result c.requires.some c.requires.digits read)

pub returns-in-Err : goal.returns-in-Err
returns-in-Err c = absurd (c.in-Err.ensures.cases.0 (digits-text c.args.digits.now c.requires.digits))
