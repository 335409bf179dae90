-- Values that differ are written otherwise.
use Rattle.std.proofs.Common.{◌≡◌, ℕ, zero, suc, ℤ, pos, negsuc, ◌+◌, ◌/◌, ◌%◌, Bool, true, false, cond, List, [], ◌∷◌, ◌++◌, ltb, refl, ap, arith}
use Rattle.std.proofs.lemmas.Bool.Decides.{nat_tests}
use Rattle.pb_wire.specs.Varint.{varint, shortest_in}
use Rattle.pb_wire.specs.Zigzag.{zigzagged}
use Rattle.mvt_layer.specs.Tile.{TagView, text, natural, negative, truth, float, double}
use Rattle.mvt_write.specs.CanWrite.{CanWriteValue}
use Rattle.mvt_write.specs.Written.{value_written}

abbrev spelled_in : ℕ → ℕ → Bool → List ℕ
spelled_in more n small = cond small (n ∷ []) ((128 + n % 128) ∷ shortest_in more (n / 128))

-- one byte more in front
first_apart : (more a b : ℕ) (xs ys : List ℕ) (s t : Bool) → ltb a 128 ≡ s → ltb b 128 ≡ t
    → ((ws zs : List ℕ) → shortest_in more (a / 128) ++ ws ≡ shortest_in more (b / 128) ++ zs → (a / 128 ≡ b / 128) × (ws ≡ zs))
    → spelled_in more a s ++ xs ≡ spelled_in more b t ++ ys → (a ≡ b) × (xs ≡ ys)
first_apart more a b xs ys true true p q behind e = (cc, cc)
first_apart more a b xs ys true false p q behind e = let head : a ≡ 128 + b % 128 = cc in absurd (grind (arith, nat_tests))
first_apart more a b xs ys false true p q behind e = let head : 128 + a % 128 ≡ b = cc in absurd (grind (arith, nat_tests))
first_apart more a b xs ys false false p q behind e =
    let head : 128 + a % 128 ≡ 128 + b % 128 = cc in
    let rest : shortest_in more (a / 128) ++ xs ≡ shortest_in more (b / 128) ++ ys = cc in
    let same = behind xs ys rest in
    (omega (arith, same.0), same.1)

-- two numbers followed by bytes are encoded alike only if they are equal
shortest_apart : (more a b : ℕ) (xs ys : List ℕ) → shortest_in more a ++ xs ≡ shortest_in more b ++ ys → (a ≡ b) × (xs ≡ ys)
unfolding shortest_in
shortest_apart zero a b xs ys e = (cc, cc)
shortest_apart (suc more) a b xs ys e =
    first_apart more a b xs ys (ltb a 128) (ltb b 128) refl refl (λ ws zs. shortest_apart more (a / 128) (b / 128) ws zs) e

varint_apart : (a b : ℕ) (xs ys : List ℕ) → varint a ++ xs ≡ varint b ++ ys → (a ≡ b) × (xs ≡ ys)
unfolding varint
varint_apart a b xs ys e = shortest_apart 9 a b xs ys e

numbers_apart : (key a b : ℕ) → varint key ++ varint a ≡ varint key ++ varint b → a ≡ b
numbers_apart key a b e = (varint_apart a b [] [] (ap (λ (bytes : List ℕ). bytes ++ []) (varint_apart key key (varint a) (varint b) e).1)).0

texts_apart : (key : ℕ) (s t : List ℕ) (m n : ℕ) → varint key ++ (varint m ++ s) ≡ varint key ++ (varint n ++ t) → s ≡ t
texts_apart key s t m n e = (varint_apart m n s t (varint_apart key key (varint m ++ s) (varint n ++ t) e).1).1

zigzagged_apart : (a b : ℤ) → zigzagged a ≡ zigzagged b → a ≡ b
zigzagged_apart (pos a) (pos b) e = ap pos (omega arith)
zigzagged_apart (negsuc a) (negsuc b) e = ap negsuc (omega arith)
zigzagged_apart (pos a) (negsuc b) e = absurd (omega arith)
zigzagged_apart (negsuc a) (pos b) e = absurd (omega arith)

truths_apart : (a b : Bool) → ◌≡◌ {A = ℕ} (cond a 1 0) (cond b 1 0) → a ≡ b
truths_apart true true e = refl
truths_apart true false e = absurd (omega (arith, e))
truths_apart false true e = absurd (omega (arith, e))
truths_apart false false e = refl

-- fields with different keys aren't written alike
keys_apart : (j k : ℕ) (xs ys : List ℕ) → (j ≡ k → ⊥) → varint j ++ xs ≡ varint k ++ ys → ⊥
keys_apart j k xs ys apart e = apart (varint_apart j k xs ys e).0

pub value_apart : (v w : TagView) → CanWriteValue v → CanWriteValue w → value_written v ≡ value_written w → v ≡ w
unfolding value_written
value_apart (text s) (text t) can_v can_w e = ap text (texts_apart 10 s t _ _ e)
value_apart (natural n) (natural m) can_v can_w e = ap natural (numbers_apart 40 n m e)
value_apart (negative n) (negative m) can_v can_w e = ap negative (zigzagged_apart n m (numbers_apart 48 (zigzagged n) (zigzagged m) e))
value_apart (truth a) (truth b) can_v can_w e = ap truth (truths_apart a b (numbers_apart 56 (cond a 1 0) (cond b 1 0) e))
value_apart (text s) (natural m) can_v can_w e = absurd (keys_apart 10 40 _ _ (λ k. omega (arith, k)) e)
value_apart (text s) (negative m) can_v can_w e = absurd (keys_apart 10 48 _ _ (λ k. omega (arith, k)) e)
value_apart (text s) (truth b) can_v can_w e = absurd (keys_apart 10 56 _ _ (λ k. omega (arith, k)) e)
value_apart (natural n) (text t) can_v can_w e = absurd (keys_apart 40 10 _ _ (λ k. omega (arith, k)) e)
value_apart (natural n) (negative m) can_v can_w e = absurd (keys_apart 40 48 _ _ (λ k. omega (arith, k)) e)
value_apart (natural n) (truth b) can_v can_w e = absurd (keys_apart 40 56 _ _ (λ k. omega (arith, k)) e)
value_apart (negative n) (text t) can_v can_w e = absurd (keys_apart 48 10 _ _ (λ k. omega (arith, k)) e)
value_apart (negative n) (natural m) can_v can_w e = absurd (keys_apart 48 40 _ _ (λ k. omega (arith, k)) e)
value_apart (negative n) (truth b) can_v can_w e = absurd (keys_apart 48 56 _ _ (λ k. omega (arith, k)) e)
value_apart (truth a) (text t) can_v can_w e = absurd (keys_apart 56 10 _ _ (λ k. omega (arith, k)) e)
value_apart (truth a) (natural m) can_v can_w e = absurd (keys_apart 56 40 _ _ (λ k. omega (arith, k)) e)
value_apart (truth a) (negative m) can_v can_w e = absurd (keys_apart 56 48 _ _ (λ k. omega (arith, k)) e)
value_apart (float b) w can_v can_w e = absurd can_v
value_apart (double b) w can_v can_w e = absurd can_v
value_apart v (float b) can_v can_w e = absurd can_w
value_apart v (double b) can_v can_w e = absurd can_w
