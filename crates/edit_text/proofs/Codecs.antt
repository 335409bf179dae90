-- Ways to read, each tied to what it reads: what is found is there, what is there is found, and bytes are cut
-- exactly where they end inside.
use Rattle.std.proofs.Common.{◌≡◌, ℕ, ◌+◌, ◌<◌, ◌≤◌, ◌⊎◌, inl, inr, Bool, true, false, List, ◌++◌}
use Rattle.std.proofs.Common.{length, get_or, Ok, Err, refl, sym, ap, subst, ◌∙◌, append_assoc, cond, lit<}
use Rattle.std.proofs.lemmas.List.{get_or-append-add, get_or_append_left, get_or_past}
use Rattle.std.proofs.lemmas.Bool.{cases_lt}
use Rattle.edit_text.specs.declared.fault.TextFault.TheVariants.{Cut, Bad}
use Rattle.edit_text.specs.Reading.{Part, then_read, read_as, read_if}
use Rattle.edit_text.specs.Cut.{EndsBehind}

-- each is a byte
abbrev pub AreBytes : List ℕ → Type 0
AreBytes bytes = (i : ℕ) → get_or bytes i 0 < 256

pub record Codec {A : Type 0} (read : List ℕ → Part A) (spell : A → List ℕ) (Is : A → Type 0) (Ends : List ℕ → Type 0) : Type 0 where
  pub found : (bytes : List ℕ) (x : A) (rest : List ℕ) → AreBytes bytes → read bytes ≡ Ok (x, rest) → Is x × (bytes ≡ spell x ++ rest)
  pub reads : (x : A) (rest : List ℕ) → Is x → read (spell x ++ rest) ≡ Ok (x, rest)
  pub cut : (bytes : List ℕ) → AreBytes bytes → read bytes ≡ Err Cut → Ends bytes
  pub ends : (bytes : List ℕ) → Ends bytes → read bytes ≡ Err Cut

pub bytes_behind : (front rest bytes : List ℕ) → bytes ≡ front ++ rest → AreBytes bytes → AreBytes rest
bytes_behind front rest bytes e h = λ i. subst (λ n. n < 256) (ap (λ b. get_or b (length front + i) 0) e ∙ get_or-append-add front rest i 0)
    (h (length front + i))

bytes_before_by : (front rest bytes : List ℕ) → bytes ≡ front ++ rest → AreBytes bytes → (i : ℕ) → (i < length front) ⊎ (length front ≤ i)
    → get_or front i 0 < 256
bytes_before_by front rest bytes e h i (inl l) = subst (λ n. n < 256) (ap (λ b. get_or b i 0) e ∙ get_or_append_left front rest 0 i l) (h i)
bytes_before_by front rest bytes e h i (inr l) = subst (λ n. n < 256) (sym (get_or_past front i 0 l)) (lit< tt)

pub bytes_before : (front rest bytes : List ℕ) → bytes ≡ front ++ rest → AreBytes bytes → AreBytes front
bytes_before front rest bytes e h = λ i. bytes_before_by front rest bytes e h i (cases_lt i (length front))

-- the same, in other words
pub codec_same : {A : Type 0} (read : List ℕ → Part A) (spell : A → List ℕ) (Is Is' : A → Type 0) (Ends Ends' : List ℕ → Type 0)
    → Codec read spell Is Ends → ((x : A) → Is x → Is' x) → ((x : A) → Is' x → Is x) → ((b : List ℕ) → Ends b → Ends' b) → ((b : List ℕ) → Ends' b → Ends b)
    → Codec read spell Is' Ends'
codec_same read spell Is Is' Ends Ends' c to from ends_to ends_from = record {
  found = λ bytes x rest h e. let f = c.found bytes x rest h e in (to x f.0, f.1);
  reads = λ x rest is. c.reads x rest (from x is);
  cut = λ bytes h e. ends_to bytes (c.cut bytes h e);
  ends = λ bytes h. c.ends bytes (ends_from bytes h);
}

-- ---- first this, then what it leads to

then_found : {A B : Type 0} (r1 : List ℕ → Part A) (s1 : A → List ℕ) (Is1 : A → Type 0) (E1 : List ℕ → Type 0)
    (r2 : A → List ℕ → Part B) (s2 : A → B → List ℕ) (Is2 : A → B → Type 0) (E2 : A → List ℕ → Type 0)
    → Codec r1 s1 Is1 E1 → ((a : A) → Is1 a → Codec (r2 a) (s2 a) (Is2 a) (E2 a))
    → (bytes : List ℕ) (y : B) (rest : List ℕ) → AreBytes bytes → (p : Part A) → r1 bytes ≡ p → then_read p r2 ≡ Ok (y, rest)
    → (a : A) × Is1 a × Is2 a y × (bytes ≡ (s1 a ++ s2 a y) ++ rest)
then_found r1 s1 Is1 E1 r2 s2 Is2 E2 c1 c2 bytes y rest h (Ok x) first second =
    let one = c1.found bytes x.0 x.1 h first in
    let two = (c2 x.0 one.0).found x.1 y rest (bytes_behind (s1 x.0) x.1 bytes one.1 h) second in
    (x.0, one.0, two.0, one.1 ∙ ap (λ r. s1 x.0 ++ r) two.1 ∙ sym (append_assoc (s1 x.0) (s2 x.0 y) rest))
then_found r1 s1 Is1 E1 r2 s2 Is2 E2 c1 c2 bytes y rest h (Err e) first second = absurd (cc)

then_cut : {A B : Type 0} (r1 : List ℕ → Part A) (s1 : A → List ℕ) (Is1 : A → Type 0) (E1 : List ℕ → Type 0)
    (r2 : A → List ℕ → Part B) (s2 : A → B → List ℕ) (Is2 : A → B → Type 0) (E2 : A → List ℕ → Type 0)
    → Codec r1 s1 Is1 E1 → ((a : A) → Is1 a → Codec (r2 a) (s2 a) (Is2 a) (E2 a))
    → (bytes : List ℕ) → AreBytes bytes → (p : Part A) → r1 bytes ≡ p → then_read p r2 ≡ Err Cut
    → E1 bytes ⊎ EndsBehind s1 Is1 E2 bytes
then_cut r1 s1 Is1 E1 r2 s2 Is2 E2 c1 c2 bytes h (Ok x) first second =
    let one = c1.found bytes x.0 x.1 h first in
    inr (x.0, x.1, one.0, one.1, (c2 x.0 one.0).cut x.1 (bytes_behind (s1 x.0) x.1 bytes one.1 h) second)
then_cut r1 s1 Is1 E1 r2 s2 Is2 E2 c1 c2 bytes h (Err e) first second = inl (c1.cut bytes h (cc))

then_ends : {A B : Type 0} (r1 : List ℕ → Part A) (s1 : A → List ℕ) (Is1 : A → Type 0) (E1 : List ℕ → Type 0)
    (r2 : A → List ℕ → Part B) (s2 : A → B → List ℕ) (Is2 : A → B → Type 0) (E2 : A → List ℕ → Type 0)
    → Codec r1 s1 Is1 E1 → ((a : A) → Is1 a → Codec (r2 a) (s2 a) (Is2 a) (E2 a))
    → (bytes : List ℕ) → E1 bytes ⊎ EndsBehind s1 Is1 E2 bytes → then_read (r1 bytes) r2 ≡ Err Cut
then_ends r1 s1 Is1 E1 r2 s2 Is2 E2 c1 c2 bytes (inl e) = ap (λ p. then_read p r2) (c1.ends bytes e)
then_ends r1 s1 Is1 E1 r2 s2 Is2 E2 c1 c2 bytes (inr e) =
    ap (λ b. then_read (r1 b) r2) e.3 ∙ ap (λ p. then_read p r2) (c1.reads e.0 e.1 e.2) ∙ (c2 e.0 e.2).ends e.1 e.4

pub codec_then : {A B : Type 0} (r1 : List ℕ → Part A) (s1 : A → List ℕ) (Is1 : A → Type 0) (E1 : List ℕ → Type 0)
    (r2 : A → List ℕ → Part B) (s2 : A → B → List ℕ) (Is2 : A → B → Type 0) (E2 : A → List ℕ → Type 0)
    (spell : B → List ℕ) (Is : B → Type 0)
    → Codec r1 s1 Is1 E1 → ((a : A) → Is1 a → Codec (r2 a) (s2 a) (Is2 a) (E2 a))
    → ((a : A) (y : B) → Is1 a → Is2 a y → Is y × (spell y ≡ s1 a ++ s2 a y))
    → ((y : B) → Is y → (a : A) × Is1 a × Is2 a y)
    → Codec (λ bytes. then_read (r1 bytes) r2) spell Is (λ bytes. E1 bytes ⊎ EndsBehind s1 Is1 E2 bytes)
codec_then r1 s1 Is1 E1 r2 s2 Is2 E2 spell Is c1 c2 join split = record {
  found = λ bytes y rest h e.
      let f = then_found r1 s1 Is1 E1 r2 s2 Is2 E2 c1 c2 bytes y rest h (r1 bytes) refl e in
      let whole = join f.0 y f.1 f.2 in
      (whole.0, f.3 ∙ ap (λ r. r ++ rest) (sym whole.1));
  reads = λ y rest is.
      let parts = split y is in
      let whole = join parts.0 y parts.1 parts.2 in
      ap (λ b. then_read (r1 (b ++ rest)) r2) whole.1 ∙ ap (λ b. then_read (r1 b) r2) (append_assoc (s1 parts.0) (s2 parts.0 y) rest)
      ∙ ap (λ p. then_read p r2) (c1.reads parts.0 (s2 parts.0 y ++ rest) parts.1) ∙ (c2 parts.0 parts.1).reads y rest parts.2;
  cut = λ bytes h e. then_cut r1 s1 Is1 E1 r2 s2 Is2 E2 c1 c2 bytes h (r1 bytes) refl e;
  ends = λ bytes e. then_ends r1 s1 Is1 E1 r2 s2 Is2 E2 c1 c2 bytes e;
}

-- ---- as something else

as_found : {A B : Type 0} (make : A → B) (p : Part A) (y : B) (rest : List ℕ) → read_as make p ≡ Ok (y, rest) → (x : A) × (p ≡ Ok (x, rest)) × (y ≡ make x)
as_found {B = B} make (Ok x) y rest e =
    let pair : ◌≡◌ {A = B × List ℕ} (make x.0, x.1) (y, rest) = cc in
    (x.0, ap (λ q. Ok (x.0, q.1)) pair, sym (ap (λ q. q.0) pair))
as_found make (Err f) y rest e = absurd (cc)

as_cut : {A B : Type 0} (make : A → B) (p : Part A) → read_as make p ≡ Err Cut → p ≡ Err Cut
as_cut make (Ok x) e = absurd (cc)
as_cut make (Err f) e = cc

pub codec_as : {A B : Type 0} (read : List ℕ → Part A) (s1 : A → List ℕ) (Is1 : A → Type 0) (Ends : List ℕ → Type 0) (make : A → B) (spell : B → List ℕ)
    (Is : B → Type 0)
    → Codec read s1 Is1 Ends
    → ((x : A) → AreBytes (s1 x) → Is1 x → Is (make x) × (spell (make x) ≡ s1 x))
    → ((y : B) → Is y → (x : A) × Is1 x × (y ≡ make x) × (spell y ≡ s1 x))
    → Codec (λ bytes. read_as make (read bytes)) spell Is Ends
codec_as read s1 Is1 Ends make spell Is c join split = record {
  found = λ bytes y rest h e.
      let f = as_found make (read bytes) y rest e in
      let g = c.found bytes f.0 rest h f.1 in
      let whole = join f.0 (bytes_before (s1 f.0) rest bytes g.1 h) g.0 in
      (subst Is (sym f.2) whole.0, g.1 ∙ ap (λ r. r ++ rest) (sym whole.1) ∙ ap (λ x. spell x ++ rest) (sym f.2));
  reads = λ y rest is.
      let one = split y is in
      ap (λ b. read_as make (read (b ++ rest))) one.3 ∙ ap (read_as make) (c.reads one.0 rest one.1) ∙ ap (λ x. Ok (x, rest)) (sym one.2);
  cut = λ bytes h e. c.cut bytes h (as_cut make (read bytes) e);
  ends = λ bytes e. ap (read_as make) (c.ends bytes e);
}

-- ---- where it passes a test

abbrev passed : {A : Type 0} → Bool → A × List ℕ → Part A
passed b y = cond b (Ok y) (Err Bad)

if_found_by : {A : Type 0} (test : A → Bool) (y : A × List ℕ) (b : Bool) (x : A) (rest : List ℕ) → test y.0 ≡ b → passed b y ≡ Ok (x, rest)
    → (y ≡ (x, rest)) × (test x ≡ true)
if_found_by test y true x rest t e = let pair : y ≡ (x, rest) = cc in (pair, sym (ap (λ q. test q.0) pair) ∙ t)
if_found_by test y false x rest t e = absurd (cc)

if_found : {A : Type 0} (test : A → Bool) (p : Part A) (x : A) (rest : List ℕ) → read_if test p ≡ Ok (x, rest) → (p ≡ Ok (x, rest)) × (test x ≡ true)
if_found test (Ok y) x rest e = let f = if_found_by test y (test y.0) x rest refl e in (ap (λ q. Ok q) f.0, f.1)
if_found test (Err f) x rest e = absurd (cc)

if_cut_by : {A : Type 0} (y : A × List ℕ) (b : Bool) → passed b y ≡ Err Cut → ⊥
if_cut_by y true e = cc
if_cut_by y false e = cc

if_cut : {A : Type 0} (test : A → Bool) (p : Part A) → read_if test p ≡ Err Cut → p ≡ Err Cut
if_cut test (Ok y) e = absurd (if_cut_by y (test y.0) e)
if_cut test (Err f) e = cc

pub codec_if : {A : Type 0} (read : List ℕ → Part A) (spell : A → List ℕ) (Is1 : A → Type 0) (Ends : List ℕ → Type 0) (test : A → Bool) (Is : A → Type 0)
    → Codec read spell Is1 Ends → ((x : A) → Is1 x → test x ≡ true → Is x) → ((x : A) → Is x → Is1 x × (test x ≡ true))
    → Codec (λ bytes. read_if test (read bytes)) spell Is Ends
codec_if read spell Is1 Ends test Is c join split = record {
  found = λ bytes x rest h e.
      let f = if_found test (read bytes) x rest e in
      let g = c.found bytes x rest h f.0 in
      (join x g.0 f.1, g.1);
  reads = λ x rest is.
      let one = split x is in
      ap (read_if test) (c.reads x rest one.0) ∙ ap (λ b. cond b (Ok (x, rest)) (Err Bad)) one.1;
  cut = λ bytes h e. c.cut bytes h (if_cut test (read bytes) e);
  ends = λ bytes e. ap (read_if test) (c.ends bytes e);
}
