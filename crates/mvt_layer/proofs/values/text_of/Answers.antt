use Rattle.std.proofs.Common.{◌≡◌, Bool, true, false, cond, List, ℕ, Ok, Err, refl}
use Rattle.std.specs.Str.{IsUtf8, is_utf8}
use Rattle.std.proofs.lemmas.Str.{is_utf8-from_IsUtf8, IsUtf8-from_is_utf8}
use Rattle.reader.specs.Reading.{Read}
use Rattle.mvt_layer.specs.declared.fault.TileFault.{TileFault}
use Rattle.mvt_layer.specs.declared.fault.TileFault.TheVariants as faults
use Rattle.mvt_layer.specs.Reading.{text_at}
use Rattle.mvt_layer.proofs.values.text_of.Goals as goal

is_text : (bytes text : List ℕ) → text ≡ bytes → IsUtf8 bytes → text_at bytes ≡ Ok text
is_text bytes text same h = rw (is_utf8-from_IsUtf8 bytes h, same) refl

abbrev read : List ℕ → Bool → Read TileFault (List ℕ)
read bytes b = cond b (Ok bytes) (Err faults.Utf8)

is_none : (bytes : List ℕ) → ¬ IsUtf8 bytes → text_at bytes ≡ Err faults.Utf8
is_none bytes h = go (is_utf8 bytes) refl
  where
    go : (b : Bool) → is_utf8 bytes ≡ b → read bytes b ≡ Err faults.Utf8
    go true e = absurd (h (IsUtf8-from_is_utf8 bytes e))
    go false e = refl

pub returns-in-Ok : goal.returns-in-Ok
returns-in-Ok c = is_text c.args.bytes.now c.in-Ok.text.now c.in-Ok.ensures.cases.0 c.in-Ok.ensures.cases.1

pub returns-in-Err : goal.returns-in-Err
returns-in-Err c = is_none c.args.bytes.now c.in-Err.ensures.cases.0
