-- Bytes that are written piece by piece.
use Rattle.std.proofs.Common.{◌≡◌, ℕ, List, [], ◌∷◌, ◌++◌, length, Option, Some, None, sym, ap, subst, ◌∙◌}
use Rattle.std.proofs.Common.{append_assoc, append-nil, arith}
use Rattle.std.proofs.KnownBytes.{Appends-trans}
use Rattle.std.specs.Io.KnownBytes.{Appends}
use Rattle.whole_write.specs.Writes.{SoFar}

pub nothing_written : (old : Option (List ℕ)) → Appends old old []
nothing_written None = tt
nothing_written (Some o) = sym (append-nil o)

-- a prefix of the rest is written
pub written_on : (old mid new : Option (List ℕ)) (bytes rest left : List ℕ) → SoFar old mid bytes rest → SoFar mid new rest left → SoFar old new bytes left
written_on old mid new bytes rest left so_far more = (
  so_far.0 ++ more.0,
  so_far.1 ∙ ap (λ (r : List ℕ). so_far.0 ++ r) more.1 ∙ sym (append_assoc so_far.0 more.0 left),
  Appends-trans old mid new so_far.0 more.0 so_far.2 more.2,
)

-- nothing is left
pub written_all : (old now : Option (List ℕ)) (bytes rest : List ℕ) → SoFar old now bytes rest → length rest ≡ 0 → Appends old now bytes
written_all old now bytes [] so_far none = subst (Appends old now) (sym (so_far.1 ∙ append-nil so_far.0)) so_far.2
written_all old now bytes (b ∷ rest) so_far none = absurd (omega arith)
