-- A kind at the start, and what it leads to.
use Rattle.std.proofs.Common.{◌≡◌, ◌≢◌, ℕ, suc, ◌≤◌, ◌⊎◌, inl, inr, true, false, eqb, List, [], ◌∷◌, ◌++◌, Ok, Err, refl, sym, ap, ◌∙◌, cond, arith}
use Rattle.std.proofs.lemmas.Bool.{eq-eqb, ne_eqb}
use Rattle.std.proofs.lemmas.Bool.Decides.{eqb_tells}
use Rattle.edit_text.specs.declared.fault.TextFault.TheVariants.{Cut, Bad}
use Rattle.edit_text.specs.Reading.{Part, then_read, byte_at}
use Rattle.edit_text.specs.Cut.{EndsWithin, EndsBehindKind}
use Rattle.edit_text.proofs.Codecs.{AreBytes, Codec, bytes_behind}
use Rattle.edit_text.proofs.FieldCodecs.{codec_byte}

-- what is read after a kind of at least this, tied to what is read with the kind
pub record KindCodec {A : Type 0} (least : ℕ) (read : ℕ → List ℕ → Part A) (spell : A → List ℕ) (Is : A → Type 0) (Ends : List ℕ → Type 0) : Type 0 where
  pub found : (k : ℕ) (bytes : List ℕ) (x : A) (rest : List ℕ) → AreBytes bytes → read k bytes ≡ Ok (x, rest) → Is x × (k ∷ bytes ≡ spell x ++ rest)
  pub reads : (x : A) (rest : List ℕ) → Is x → (k : ℕ) × (bytes : List ℕ) × (least ≤ k) × (spell x ++ rest ≡ k ∷ bytes) × (read k bytes ≡ Ok (x, rest))
  pub cut : (k : ℕ) (bytes : List ℕ) → AreBytes bytes → read k bytes ≡ Err Cut → Ends (k ∷ bytes)
  pub ends : (whole : List ℕ) → Ends whole → (k : ℕ) × (bytes : List ℕ) × (least ≤ k) × (whole ≡ k ∷ bytes) × (read k bytes ≡ Err Cut)

-- this kind leads there, and others elsewhere
abbrev pub pick : {A : Type 0} → ℕ → (List ℕ → Part A) → (ℕ → List ℕ → Part A) → ℕ → List ℕ → Part A
pick n here others k bytes = cond (eqb k n) (here bytes) (others k bytes)

pick_same : {A : Type 0} (n : ℕ) (here : List ℕ → Part A) (others : ℕ → List ℕ → Part A) (k : ℕ) (bytes : List ℕ) → k ≡ n
    → pick n here others k bytes ≡ here bytes
pick_same n here others k bytes e = ap (λ b. cond b (here bytes) (others k bytes)) (eq-eqb k n e)

pick_other : {A : Type 0} (n : ℕ) (here : List ℕ → Part A) (others : ℕ → List ℕ → Part A) (k : ℕ) (bytes : List ℕ) → k ≢ n
    → pick n here others k bytes ≡ others k bytes
pick_other n here others k bytes e = ap (λ b. cond b (here bytes) (others k bytes)) (ne_eqb k n e)

-- no kind at all
pub kind_none : {A : Type 0} (least : ℕ) (spell : A → List ℕ) → KindCodec least (λ k bytes. Err Bad) spell (λ x. ⊥) (λ bytes. ⊥)
kind_none least spell = record {
  found = λ k bytes x rest h e. absurd (cc);
  reads = λ x rest is. absurd is;
  cut = λ k bytes h e. absurd (cc);
  ends = λ bytes e. absurd e;
}

or_found : {A : Type 0} (n : ℕ) (here : List ℕ → Part A) (s1 : A → List ℕ) (Is1 : A → Type 0) (E1 : List ℕ → Type 0) (others : ℕ → List ℕ → Part A)
    (spell : A → List ℕ) (Is2 : A → Type 0) (E2 : List ℕ → Type 0)
    → Codec here s1 Is1 E1 → KindCodec (suc n) others spell Is2 E2 → ((x : A) → Is1 x → spell x ≡ n ∷ s1 x)
    → (k : ℕ) (bytes : List ℕ) (x : A) (rest : List ℕ) → AreBytes bytes → ((eqb k n ≡ true) × (k ≡ n)) ⊎ ((eqb k n ≡ false) × (k ≢ n))
    → pick n here others k bytes ≡ Ok (x, rest) → (Is1 x ⊎ Is2 x) × (k ∷ bytes ≡ spell x ++ rest)
or_found n here s1 Is1 E1 others spell Is2 E2 c1 c2 texts k bytes x rest h (inl t) e =
    let f = c1.found bytes x rest h (sym (pick_same n here others k bytes t.1) ∙ e) in
    (inl f.0, ap (λ j. j ∷ bytes) t.1 ∙ ap (λ r. n ∷ r) f.1 ∙ ap (λ r. r ++ rest) (sym (texts x f.0)))
or_found n here s1 Is1 E1 others spell Is2 E2 c1 c2 texts k bytes x rest h (inr t) e =
    let f = c2.found k bytes x rest h (sym (pick_other n here others k bytes t.1) ∙ e) in
    (inr f.0, f.1)

or_reads : {A : Type 0} (n : ℕ) (here : List ℕ → Part A) (s1 : A → List ℕ) (Is1 : A → Type 0) (E1 : List ℕ → Type 0) (others : ℕ → List ℕ → Part A)
    (spell : A → List ℕ) (Is2 : A → Type 0) (E2 : List ℕ → Type 0)
    → Codec here s1 Is1 E1 → KindCodec (suc n) others spell Is2 E2 → ((x : A) → Is1 x → spell x ≡ n ∷ s1 x)
    → (x : A) (rest : List ℕ) → Is1 x ⊎ Is2 x → (k : ℕ) × (bytes : List ℕ) × (n ≤ k) × (spell x ++ rest ≡ k ∷ bytes)
    × (pick n here others k bytes ≡ Ok (x, rest))
or_reads n here s1 Is1 E1 others spell Is2 E2 c1 c2 texts x rest (inl is) =
    (n, s1 x ++ rest, omega arith, ap (λ r. r ++ rest) (texts x is), pick_same n here others n (s1 x ++ rest) refl ∙ c1.reads x rest is)
or_reads n here s1 Is1 E1 others spell Is2 E2 c1 c2 texts x rest (inr is) =
    let f = c2.reads x rest is in
    (f.0, f.1, omega (arith, f.2), f.3, pick_other n here others f.0 f.1 (λ e. absurd (omega (arith, f.2, e))) ∙ f.4)

or_cut : {A : Type 0} (n : ℕ) (here : List ℕ → Part A) (s1 : A → List ℕ) (Is1 : A → Type 0) (E1 : List ℕ → Type 0) (others : ℕ → List ℕ → Part A)
    (spell : A → List ℕ) (Is2 : A → Type 0) (E2 : List ℕ → Type 0)
    → Codec here s1 Is1 E1 → KindCodec (suc n) others spell Is2 E2
    → (k : ℕ) (bytes : List ℕ) → AreBytes bytes → ((eqb k n ≡ true) × (k ≡ n)) ⊎ ((eqb k n ≡ false) × (k ≢ n)) → pick n here others k bytes ≡ Err Cut
    → EndsBehindKind n E1 (k ∷ bytes) ⊎ E2 (k ∷ bytes)
or_cut n here s1 Is1 E1 others spell Is2 E2 c1 c2 k bytes h (inl t) e =
    inl (bytes, ap (λ j. j ∷ bytes) t.1, c1.cut bytes h (sym (pick_same n here others k bytes t.1) ∙ e))
or_cut n here s1 Is1 E1 others spell Is2 E2 c1 c2 k bytes h (inr t) e = inr (c2.cut k bytes h (sym (pick_other n here others k bytes t.1) ∙ e))

or_ends : {A : Type 0} (n : ℕ) (here : List ℕ → Part A) (s1 : A → List ℕ) (Is1 : A → Type 0) (E1 : List ℕ → Type 0) (others : ℕ → List ℕ → Part A)
    (spell : A → List ℕ) (Is2 : A → Type 0) (E2 : List ℕ → Type 0)
    → Codec here s1 Is1 E1 → KindCodec (suc n) others spell Is2 E2
    → (whole : List ℕ) → EndsBehindKind n E1 whole ⊎ E2 whole
    → (k : ℕ) × (bytes : List ℕ) × (n ≤ k) × (whole ≡ k ∷ bytes) × (pick n here others k bytes ≡ Err Cut)
or_ends n here s1 Is1 E1 others spell Is2 E2 c1 c2 whole (inl e) = (n, e.0, omega arith, e.1, pick_same n here others n e.0 refl ∙ c1.ends e.0 e.2)
or_ends n here s1 Is1 E1 others spell Is2 E2 c1 c2 whole (inr e) =
    let f = c2.ends whole e in
    (f.0, f.1, omega (arith, f.2), f.3, pick_other n here others f.0 f.1 (λ j. absurd (omega (arith, f.2, j))) ∙ f.4)

-- one kind, or a greater one
pub kind_or : {A : Type 0} (n : ℕ) (here : List ℕ → Part A) (s1 : A → List ℕ) (Is1 : A → Type 0) (E1 : List ℕ → Type 0) (others : ℕ → List ℕ → Part A)
    (spell : A → List ℕ) (Is2 : A → Type 0) (E2 : List ℕ → Type 0)
    → Codec here s1 Is1 E1 → KindCodec (suc n) others spell Is2 E2 → ((x : A) → Is1 x → spell x ≡ n ∷ s1 x)
    → KindCodec n (pick n here others) spell (λ x. Is1 x ⊎ Is2 x) (λ bytes. EndsBehindKind n E1 bytes ⊎ E2 bytes)
kind_or n here s1 Is1 E1 others spell Is2 E2 c1 c2 texts = record {
  found = λ k bytes x rest h e. or_found n here s1 Is1 E1 others spell Is2 E2 c1 c2 texts k bytes x rest h (eqb_tells k n) e;
  reads = λ x rest is. or_reads n here s1 Is1 E1 others spell Is2 E2 c1 c2 texts x rest is;
  cut = λ k bytes h e. or_cut n here s1 Is1 E1 others spell Is2 E2 c1 c2 k bytes h (eqb_tells k n) e;
  ends = λ whole e. or_ends n here s1 Is1 E1 others spell Is2 E2 c1 c2 whole e;
}

-- ---- with the kind before it

kinds_found : {A : Type 0} (read : ℕ → List ℕ → Part A) (spell : A → List ℕ) (Is : A → Type 0) (Ends : List ℕ → Type 0) (least : ℕ)
    → KindCodec least read spell Is Ends
    → (bytes : List ℕ) (x : A) (rest : List ℕ) → AreBytes bytes → then_read (byte_at bytes) read ≡ Ok (x, rest) → Is x × (bytes ≡ spell x ++ rest)
unfolding byte_at
kinds_found read spell Is Ends least c [] x rest h e = absurd (cc)
kinds_found read spell Is Ends least c (k ∷ bytes) x rest h e = c.found k bytes x rest (bytes_behind (k ∷ []) bytes (k ∷ bytes) refl h) e

kinds_cut : {A : Type 0} (read : ℕ → List ℕ → Part A) (spell : A → List ℕ) (Is : A → Type 0) (Ends : List ℕ → Type 0) (least : ℕ)
    → KindCodec least read spell Is Ends
    → (bytes : List ℕ) → AreBytes bytes → then_read (byte_at bytes) read ≡ Err Cut → EndsWithin 1 bytes ⊎ Ends bytes
unfolding byte_at
kinds_cut read spell Is Ends least c [] h e = inl (omega arith)
kinds_cut read spell Is Ends least c (k ∷ bytes) h e = inr (c.cut k bytes (bytes_behind (k ∷ []) bytes (k ∷ bytes) refl h) e)

kinds_ends : {A : Type 0} (read : ℕ → List ℕ → Part A) (spell : A → List ℕ) (Is : A → Type 0) (Ends : List ℕ → Type 0) (least : ℕ)
    → KindCodec least read spell Is Ends
    → (bytes : List ℕ) → EndsWithin 1 bytes ⊎ Ends bytes → then_read (byte_at bytes) read ≡ Err Cut
unfolding byte_at
kinds_ends read spell Is Ends least c bytes (inl l) = ap (λ p. then_read p read) (codec_byte.ends bytes l)
kinds_ends read spell Is Ends least c bytes (inr e) = let f = c.ends bytes e in ap (λ b. then_read (byte_at b) read) f.3 ∙ f.4

pub codec_kinds : {A : Type 0} (read : ℕ → List ℕ → Part A) (spell : A → List ℕ) (Is : A → Type 0) (Ends : List ℕ → Type 0) (least : ℕ)
    → KindCodec least read spell Is Ends
    → Codec (λ bytes. then_read (byte_at bytes) read) spell Is (λ bytes. EndsWithin 1 bytes ⊎ Ends bytes)
unfolding byte_at
codec_kinds read spell Is Ends least c = record {
  found = kinds_found read spell Is Ends least c;
  reads = λ x rest is. let f = c.reads x rest is in ap (λ b. then_read (byte_at b) read) f.3 ∙ f.4;
  cut = kinds_cut read spell Is Ends least c;
  ends = kinds_ends read spell Is Ends least c;
}
