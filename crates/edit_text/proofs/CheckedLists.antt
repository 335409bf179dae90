-- Lists that are checked, and not kept.
use Rattle.std.proofs.Common.{◌≡◌, ℕ, zero, suc, ◌+◌, ◌*◌, ◌-◌, ◌<◌, ◌≤◌, List, [], ◌∷◌, ◌++◌, length, take, drop, Ok, Err, refl, sym, ap, ◌∙◌, arith}
use Rattle.std.proofs.lemmas.List.{drop-drop, length-drop, take_all}
use Rattle.reader.specs.Reading.{repeated}
use Rattle.feature_model.specs.declared.feature.World.{World}
use Rattle.edit_text.specs.declared.fault.TextFault.{TextFault}
use Rattle.edit_text.specs.Reading.{Part, many_at, point_at}
use Rattle.edit_text.proofs.Many.{many_step, many_stop, many_done}
use Rattle.edit_text.proofs.PointLists.{first_point, many_more}

-- some were read up to here, and the others follow
abbrev pub ManyAt : {A : Type 0} → (List A → List ℕ → Part A) → ℕ → ℕ → List ℕ → List ℕ → Type 0
ManyAt {A} read count i rest bytes = (done : List A) × (many_at read (count - i) done rest ≡ many_at read count [] bytes)

module _ {A : Type 0} (read : List ℕ → Part A) (count i : ℕ) (rest bytes : List ℕ) (so_far : ManyAt (λ _. read) count i rest bytes) where
  pub many_on : (after : List ℕ) → i < count → (x : A) × (read rest ≡ Ok (x, after)) → ManyAt (λ _. read) count (i + 1) after bytes
  many_on after h one = (so_far.0 ++ one.0 ∷ [], many_step (λ _. read) count i so_far.0 rest one.0 after _ h so_far.1 one.1)

  pub many_fault : (fault : TextFault) → i < count → read rest ≡ Err fault → many_at (λ _. read) count [] bytes ≡ Err fault
  many_fault fault h one = many_stop (λ _. read) count i so_far.0 rest fault _ h so_far.1 one

pub many_whole : {A : Type 0} (read : List A → List ℕ → Part A) (count i : ℕ) (rest bytes : List ℕ) → count ≤ i → ManyAt read count i rest bytes
    → (done : List A) × (many_at read count [] bytes ≡ Ok (done, rest))
many_whole read count i rest bytes h so_far = (so_far.0, many_done read count i so_far.0 rest _ h so_far.1)

drop_eight : (n : ℕ) (bytes : List ℕ) → drop n (drop 4 (drop 4 bytes)) ≡ drop (8 + n) bytes
drop_eight n bytes = drop-drop n 4 (drop 4 bytes) ∙ drop-drop (4 + n) 4 bytes ∙ ap (λ m. drop m bytes) (omega arith)

-- if the bytes of all points are there, the list ends after them
pub points_end : (count : ℕ) (done : List World) (bytes : List ℕ) → 8 * count ≤ length bytes
    → (points : List World) × (many_at (λ _. point_at) count done bytes ≡ Ok (points, drop (8 * count) bytes))
unfolding repeated
points_end zero done bytes l = (done, refl)
points_end (suc count) done bytes l =
    let others = points_end count (done ++ first_point bytes ∷ []) (drop 4 (drop 4 bytes)) (omega (arith, length-drop 4 bytes, length-drop 4 (drop 4 bytes))) in
    let rest : drop (8 * count) (drop 4 (drop 4 bytes)) ≡ drop (8 * suc count) bytes =
    drop_eight (8 * count) bytes ∙ ap (λ n. drop n bytes) (omega arith) in
    (others.0, many_more count done bytes (omega arith) ∙ others.1 ∙ ap (λ r. Ok (others.0, r)) rest)

-- the same, as a range of the bytes has it
pub points_rest : (count k : ℕ) (bytes : List ℕ) → k ≡ count → 8 * k ≤ length bytes
    → (points : List World) × (many_at (λ _. point_at) count [] bytes ≡ Ok (points, take (length bytes - 8 * k) (drop (8 * k) bytes)))
points_rest count k bytes e l =
    let end = points_end count [] bytes (omega (arith, e)) in
    let whole = take_all (length bytes - 8 * k) (drop (8 * k) bytes) (omega (arith, length-drop (8 * k) bytes)) in
    (end.0, end.1 ∙ ap (λ r. Ok (end.0, r)) (ap (λ n. drop (8 * n) bytes) (sym e) ∙ sym whole))
