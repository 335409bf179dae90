-- Text that is written piece by piece.
use Rattle.std.proofs.Common.{◌≡◌, ℕ, ◌+◌, ◌/◌, ◌%◌, ◌^◌, ◌<◌, ◌≤◌, decimal, List, [], ◌∷◌, ◌++◌, length, get_or, add-one, drop, Option}
use Rattle.std.proofs.Common.{Result, Ok, Err, refl, sym, ap, subst, ◌∙◌, append_assoc, arith}
use Rattle.std.proofs.Math.Seq.{drop-cons}
use Rattle.std.proofs.KnownBytes.{Appends-trans}
use Rattle.std.proofs.lemmas.List.{length-append}
use Rattle.std.proofs.lemmas.Fmt.{decimal_digit, decimal_step}
use Rattle.std.specs.Io.KnownBytes.{Appends}
use Rattle.whole_write.specs.Writes.{AppendsPart, WritesWhole, SoFar}
use Rattle.whole_write.proofs.Written.{written_on}
use Rattle.archive_commands.specs.Pieces.{piece_text, pieces_text}
use Rattle.archive_commands.specs.declared.putting.Piece.{Piece}

pub put_behind : (old mid new : Option (List ℕ)) (bytes xs ys : List ℕ) → SoFar old mid bytes (xs ++ ys) → Appends mid new xs → SoFar old new bytes ys
put_behind old mid new bytes xs ys so_far more = written_on old mid new bytes (xs ++ ys) ys so_far (xs, refl, more)

pub put_fault : (old mid new : Option (List ℕ)) (bytes xs ys : List ℕ) → SoFar old mid bytes (xs ++ ys) → AppendsPart mid new xs → AppendsPart old new bytes
put_fault old mid new bytes xs ys so_far part =
    let whole = ap (λ (r : List ℕ). r ++ ys) part.2 ∙ append_assoc part.0 part.1 ys in
    let all = written_on old mid new bytes (xs ++ ys) (part.1 ++ ys) so_far (part.0, whole, part.4) in
    (all.0, part.1 ++ ys, all.1, simp length-append (let some = part.3 in omega arith), all.2)

-- ---- one text after another

pub part_behind : (old mid new : Option (List ℕ)) (xs ys : List ℕ) → Appends old mid xs → AppendsPart mid new ys → AppendsPart old new (xs ++ ys)
part_behind old mid new xs ys front back = (
  xs ++ back.0,
  back.1,
  ap (λ (r : List ℕ). xs ++ r) back.2 ∙ sym (append_assoc xs back.0 back.1),
  back.3,
  Appends-trans old mid new xs back.0 front back.4,
)

pub part_before : (old new : Option (List ℕ)) (xs ys : List ℕ) → AppendsPart old new xs → AppendsPart old new (xs ++ ys)
part_before old new xs ys front = (
  front.0,
  front.1 ++ ys,
  ap (λ (r : List ℕ). r ++ ys) front.2 ∙ append_assoc front.0 front.1 ys,
  simp length-append (let some = front.3 in omega arith),
  front.4,
)

pub puts_behind : {X E : Type 0} (old mid new : Option (List ℕ)) (xs ys : List ℕ) (r : Result X E) → Appends old mid xs → WritesWhole mid new r ys
    → WritesWhole old new r (xs ++ ys)
puts_behind old mid new xs ys (Ok x) front back = Appends-trans old mid new xs ys front back
puts_behind old mid new xs ys (Err e) front back = part_behind old mid new xs ys front back

-- ---- a number

pub digit_put : (old new : Option (List ℕ)) (n : ℕ) {X E : Type 0} (r : Result X E) → n < 10 → WritesWhole old new r ((48 + n) ∷ [])
    → WritesWhole old new r (decimal n)
digit_put old new n r few puts = subst (WritesWhole old new r) (sym (decimal_digit n few)) puts

module _ (old mid new : Option (List ℕ)) (n : ℕ) (many : 10 ≤ n) (fits : n < 2 ^ 64) where
  pub digits_put : {X E : Type 0} (r : Result X E) → Appends old mid (decimal (n / 10)) → WritesWhole mid new r ((48 + n % 10) ∷ [])
      → WritesWhole old new r (decimal n)
  digits_put {X} {E} r front back = subst (λ (bytes : List ℕ). WritesWhole old new r bytes) (sym (decimal_step n many fits))
      (puts_behind old mid new (decimal (n / 10)) ((48 + n % 10) ∷ []) r front back)

  pub digits_fault : AppendsPart old new (decimal (n / 10)) → AppendsPart old new (decimal n)
  digits_fault part = subst (λ (bytes : List ℕ). AppendsPart old new bytes) (sym (decimal_step n many fits))
      (part_before old new (decimal (n / 10)) ((48 + n % 10) ∷ []) part)

-- ---- pieces

-- the text of the pieces from an index on
pieces_from : (ps : List Piece) (i : ℕ) (d : Piece) → i < length ps → pieces_text (drop i ps) ≡ piece_text (get_or ps i d) ++ pieces_text (drop (i + 1) ps)
pieces_from ps i d below =
    let e : drop i ps ≡ get_or ps i d ∷ drop (i + 1) ps = rw add-one (drop-cons ps i d below) in ap pieces_text e

module _ (old mid new : Option (List ℕ)) (bytes : List ℕ) (ps : List Piece) (i : ℕ) (d : Piece) (below : i < length ps)
    (so_far : SoFar old mid bytes (pieces_text (drop i ps))) where
  here : SoFar old mid bytes (piece_text (get_or ps i d) ++ pieces_text (drop (i + 1) ps))
  here = subst (SoFar old mid bytes) (pieces_from ps i d below) so_far

  pub pieces_on : Appends mid new (piece_text (get_or ps i d)) → SoFar old new bytes (pieces_text (drop (i + 1) ps))
  pieces_on = put_behind old mid new bytes (piece_text (get_or ps i d)) (pieces_text (drop (i + 1) ps)) here

  pub pieces_fault : AppendsPart mid new (piece_text (get_or ps i d)) → AppendsPart old new bytes
  pieces_fault = put_fault old mid new bytes (piece_text (get_or ps i d)) (pieces_text (drop (i + 1) ps)) here
