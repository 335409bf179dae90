-- What is trusted is what is read, where something is read: ways to read.
use Rattle.std.proofs.Common.{◌≡◌, ℕ, zero, suc, ◌≤◌, Bool, true, false, cond, List, [], ◌∷◌, ◌++◌, length, take, drop, Ok, Err}
use Rattle.std.proofs.Common.{sym, ap, subst, ◌∙◌, arith, append_assoc, append-nil, nat_lt}
use Rattle.std.proofs.lemmas.Bool.Decides.{nat_tests}
use Rattle.std.specs.Str.{is_utf8}
use Rattle.reader.specs.Reading.{repeated}
use Rattle.reader.proofs.Steps.{then_ok, pass_ok, guard_ok, same_value}
use Rattle.edit_text.specs.declared.fault.TextFault.TheVariants.{Cut, Bad}
use Rattle.edit_text.specs.Reading.{Part, then_read, read_as, read_if, next_at, many_at, front_at, text_at}
use Rattle.edit_text.specs.Trusted.{Front, each_in}

abbrev pub Trusts : {A : Type 0} → (List ℕ → Part A) → Front A → Type 0
Trusts {A = A} read part = (bytes : List ℕ) (x : A × List ℕ) → read bytes ≡ Ok x → part bytes ≡ x

pub passed_if : {A : Type 0} (test : A → Bool) (part : Part A) (y : A × List ℕ) → read_if test part ≡ Ok y → (part ≡ Ok y) × (test y.0 ≡ true)
passed_if test part y e =
    let t = then_ok part (λ x. cond (test x.0) (Ok x) (Err Bad)) y e in
    let p = pass_ok (test t.0.0) Bad (Ok t.0) y t.2 in
    (t.1 ∙ p.1, subst (λ z. test z.0 ≡ true) (same_value t.0 y p.1) p.0)

pub trust_if : {A : Type 0} (test : A → Bool) (read : List ℕ → Part A) (part : Front A) → Trusts read part → Trusts (λ bytes. read_if test (read bytes)) part
trust_if test read part h bytes x e = h bytes x (passed_if test (read bytes) x e).0

pub trust_as : {A B : Type 0} (make : A → B) (read : List ℕ → Part A) (part : Front A) → Trusts read part
    → Trusts (λ bytes. read_as make (read bytes)) (λ bytes. (make (part bytes).0, (part bytes).1))
trust_as make read part h bytes y e =
    let t = then_ok (read bytes) (λ x. Ok (make x.0, x.1)) y e in
    ap (λ r. (make r.0, r.1)) (h bytes t.0 t.1) ∙ same_value (make t.0.0, t.0.1) y t.2

pub trust_then : {A B : Type 0} (read : List ℕ → Part A) (part : Front A) (next : A → List ℕ → Part B) (then : A → Front B)
    → Trusts read part → ((a : A) → Trusts (next a) (then a))
    → Trusts (λ bytes. then_read (read bytes) next) (λ bytes. then (part bytes).0 (part bytes).1)
trust_then read part next then h on bytes y e =
    let t = then_ok (read bytes) (λ x. next x.0 x.1) y e in
    ap (λ r. then r.0 r.1) (h bytes t.0 t.1) ∙ on t.0.0 t.0.1 y t.2

-- one of two
pub trust_cond : {A : Type 0} (test : Bool) (read other : List ℕ → Part A) (part second : Front A) → Trusts read part → Trusts other second
    → Trusts (λ bytes. cond test (read bytes) (other bytes)) (λ bytes. cond test (part bytes) (second bytes))
trust_cond true read other part second h k bytes x e = h bytes x e
trust_cond false read other part second h k bytes x e = k bytes x e

-- the last of several
pub trust_last : {A : Type 0} (test : Bool) (read : List ℕ → Part A) (part : Front A) → Trusts read part
    → Trusts (λ bytes. cond test (read bytes) (Err Bad)) part
trust_last test read part h bytes x e = h bytes x (pass_ok test Bad (read bytes) x e).1

-- ---- `count` of a kind

abbrev many_found : {A : Type 0} → Front A → ℕ → List A → List ℕ → List A × List ℕ
many_found part count done bytes = (done ++ (each_in part count bytes).0, (each_in part count bytes).1)

many_from : {A : Type 0} (read : List A → List ℕ → Part A) (part : Front A) → ((done : List A) → Trusts (read done) part)
    → (count : ℕ) (done : List A) (bytes : List ℕ) (x : List A × List ℕ) → many_at read count done bytes ≡ Ok x → many_found part count done bytes ≡ x
unfolding repeated each_in
many_from read part h zero done bytes x e = ap (λ xs. (xs, bytes)) (append-nil done) ∙ same_value (done, bytes) x e
many_from read part h (suc more) done bytes x e =
    let step = then_ok (next_at read (done, bytes)) (repeated (next_at read) more) x e in
    let one = then_ok (read done bytes) (λ y. Ok (done ++ y.0 ∷ [], y.1)) step.0 step.1 in
    let first = h done bytes one.0 one.1 in
    let on = same_value (done ++ one.0.0 ∷ [], one.0.1) step.0 one.2 in
    let others = many_from read part h more (done ++ one.0.0 ∷ []) one.0.1 x (subst (λ s. repeated (next_at read) more s ≡ Ok x) (sym on) step.2) in
    ap (λ r. (done ++ (r.0 ∷ (each_in part more r.1).0), (each_in part more r.1).1)) first
    ∙ ap (λ xs. (xs, (each_in part more one.0.1).1)) (sym (append_assoc done (one.0.0 ∷ []) (each_in part more one.0.1).0))
    ∙ others

pub trust_many : {A : Type 0} (read : List A → List ℕ → Part A) (part : Front A) → ((done : List A) → Trusts (read done) part) → (count : ℕ)
    → Trusts (many_at read count []) (each_in part count)
trust_many read part h count bytes x e = many_from read part h count [] bytes x e

-- ---- `len` bytes

pub front_found : (n : ℕ) (bytes : List ℕ) (x : List ℕ × List ℕ) → front_at n bytes ≡ Ok x → (n ≤ length bytes) × ((take n bytes, drop n bytes) ≡ x)
unfolding front_at
front_found n bytes x e =
    let g = guard_ok (nat_lt (length bytes) n) Cut (Ok (take n bytes, drop n bytes)) x e in
    (enough (length bytes) n g.0, same_value (take n bytes, drop n bytes) x g.1)
  where
    enough : (a b : ℕ) → nat_lt a b ≡ false → b ≤ a
    enough a b e = grind (arith, nat_tests)

pub trust_text : (len : ℕ) → Trusts (text_at len) (λ bytes. (take len bytes, drop len bytes))
unfolding text_at
trust_text len bytes x e = (front_found len bytes x (passed_if is_utf8 (front_at len bytes) x e).0).1
