-- Metadata has a byte or more.
use Rattle.std.proofs.Common.{◌≡◌, ℕ, ◌<◌, List, [], ◌∷◌, length, None, Some, refl, sym, ◌∙◌, arith}
use Rattle.std.proofs.lemmas.Option.{none-some}
use Rattle.serde_json.specs.Data.{Data}
use Rattle.serde_json.specs.Read.{read}
use Rattle.serde_json.proofs.OnLiterals.{serde_json_on_literals}

none_read : read [] ≡ None
unfolding serde_json_on_literals
none_read = refl

-- no bytes are no JSON text
pub some_read : (bytes : List ℕ) (d : Data) → read bytes ≡ Some d → 0 < length bytes
some_read [] d e = absurd (none-some d (sym none_read ∙ e))
some_read (b ∷ bs) d e = omega arith
