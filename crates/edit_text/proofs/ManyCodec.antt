-- A given number of parts in a row, tied to what is read.
use Rattle.std.proofs.Common.{◌≡◌, ℕ, zero, suc, ◌<◌, List, [], ◌∷◌, ◌++◌, length, Ok, Err, refl, sym, ap, subst, ◌∙◌, All, append_assoc, length-append, arith}
use Rattle.std.specs.List.{flat_map}
use Rattle.std.proofs.lemmas.List.{append-nil, get_or_append_left}
use Rattle.std.proofs.Math.Seq.{get_or-append_seam}
use Rattle.edit_text.specs.declared.fault.TextFault.TheVariants.{Cut}
use Rattle.edit_text.specs.Reading.{Part, many_at}
use Rattle.reader.specs.Reading.{repeated}
use Rattle.edit_text.specs.Cut.{EndsAmong}
use Rattle.edit_text.proofs.Many.{goes_on}
use Rattle.edit_text.proofs.Codecs.{AreBytes, Codec, bytes_behind}

-- what reading the next needs of those before it
pub record Steps {A : Type 0} (read : List A → List ℕ → Part A) (spell : A → List ℕ) (Are : List A → Type 0) (Ends : List A → List ℕ → Type 0) : Type 0 where
  pub next : (done : List A) → Are done → Codec (read done) spell (λ x. Are (done ++ x ∷ [])) (Ends done)
  pub fewer : (done more : List A) → Are (done ++ more) → Are done

one_more : {A : Type 0} (done : List A) (x : A) (more : List A) → (done ++ x ∷ []) ++ more ≡ done ++ x ∷ more
one_more done x more = append_assoc done (x ∷ []) more

-- ---- what is found

abbrev Found : {A : Type 0} → (A → List ℕ) → (List A → Type 0) → ℕ → List A → List ℕ → List A → List ℕ → Type 0
Found {A} spell Are n done bytes whole rest = (more : List A) × (whole ≡ done ++ more) × (length more ≡ n) × Are whole × (bytes ≡ flat_map spell more ++ rest)

found_next : {A : Type 0} (read : List A → List ℕ → Part A) (spell : A → List ℕ) (Are : List A → Type 0) (Ends : List A → List ℕ → Type 0)
    → Steps read spell Are Ends
    → (n : ℕ) (done : List A) (bytes : List ℕ) (whole : List A) (rest : List ℕ) → Are done → AreBytes bytes
    → ((x : A) (behind : List ℕ) → Are (done ++ x ∷ []) → AreBytes behind → many_at read n (done ++ x ∷ []) behind ≡ Ok (whole, rest)
    → Found spell Are n (done ++ x ∷ []) behind whole rest)
    → (p : Part A) → read done bytes ≡ p → goes_on read n done p ≡ Ok (whole, rest) → Found spell Are (suc n) done bytes whole rest
found_next read spell Are Ends steps n done bytes whole rest are h others (Ok x) one e =
    let f = (steps.next done are).found bytes x.0 x.1 h one in
    let g = others x.0 x.1 f.0 (bytes_behind (spell x.0) x.1 bytes f.1 h) e in
    (x.0 ∷ g.0, g.1 ∙ one_more done x.0 g.0, ap suc g.2, g.3, f.1 ∙ ap (λ r. spell x.0 ++ r) g.4 ∙ sym (append_assoc (spell x.0) (flat_map spell g.0) rest))
found_next read spell Are Ends steps n done bytes whole rest are h others (Err fault) one e = absurd (cc)

many_found : {A : Type 0} (read : List A → List ℕ → Part A) (spell : A → List ℕ) (Are : List A → Type 0) (Ends : List A → List ℕ → Type 0)
    → Steps read spell Are Ends
    → (n : ℕ) (done : List A) (bytes : List ℕ) (whole : List A) (rest : List ℕ) → Are done → AreBytes bytes → many_at read n done bytes ≡ Ok (whole, rest)
    → Found spell Are n done bytes whole rest
unfolding repeated
many_found {A = A} read spell Are Ends steps zero done bytes whole rest are h e =
    let pair : ◌≡◌ {A = List A × List ℕ} (done, bytes) (whole, rest) = cc in
    let all = ap (λ q. q.0) pair in
    ([], sym all ∙ sym (append-nil done), refl, subst Are all are, ap (λ q. q.1) pair)
many_found read spell Are Ends steps (suc n) done bytes whole rest are h e =
    found_next read spell Are Ends steps n done bytes whole rest are h
    (λ x behind are' h' e'. many_found read spell Are Ends steps n (done ++ x ∷ []) behind whole rest are' h' e')
    (read done bytes) refl e

-- ---- what is there

many_reads : {A : Type 0} (read : List A → List ℕ → Part A) (spell : A → List ℕ) (Are : List A → Type 0) (Ends : List A → List ℕ → Type 0)
    → Steps read spell Are Ends
    → (more : List A) (done : List A) (rest : List ℕ) → Are (done ++ more)
    → many_at read (length more) done (flat_map spell more ++ rest) ≡ Ok (done ++ more, rest)
unfolding repeated
many_reads read spell Are Ends steps [] done rest are = ap (λ d. Ok (d, rest)) (sym (append-nil done))
many_reads read spell Are Ends steps (x ∷ more) done rest are =
    let are' = subst Are (sym (one_more done x more)) are in
    ap (λ b. goes_on read (length more) done (read done b)) (append_assoc (spell x) (flat_map spell more) rest)
    ∙ ap (goes_on read (length more) done) ((steps.next done (steps.fewer done (x ∷ more) are)).reads x (flat_map spell more ++ rest)
    (steps.fewer (done ++ x ∷ []) more are'))
    ∙ many_reads read spell Are Ends steps more (done ++ x ∷ []) rest are'
    ∙ ap (λ d. Ok (d, rest)) (one_more done x more)

-- ---- where bytes are cut

abbrev Cuts : {A : Type 0} → (A → List ℕ) → (List A → Type 0) → (List A → List ℕ → Type 0) → ℕ → List A → List ℕ → Type 0
Cuts {A} spell Are Ends n done bytes = (more : List A) × (rest : List ℕ) × (length more < n) × Are (done ++ more) × (bytes ≡ flat_map spell more ++ rest)
    × Ends (done ++ more) rest

cut_next : {A : Type 0} (read : List A → List ℕ → Part A) (spell : A → List ℕ) (Are : List A → Type 0) (Ends : List A → List ℕ → Type 0)
    → Steps read spell Are Ends
    → (n : ℕ) (done : List A) (bytes : List ℕ) → Are done → AreBytes bytes
    → ((x : A) (behind : List ℕ) → Are (done ++ x ∷ []) → AreBytes behind → many_at read n (done ++ x ∷ []) behind ≡ Err Cut
    → Cuts spell Are Ends n (done ++ x ∷ []) behind)
    → (p : Part A) → read done bytes ≡ p → goes_on read n done p ≡ Err Cut → Cuts spell Are Ends (suc n) done bytes
cut_next read spell Are Ends steps n done bytes are h others (Ok x) one e =
    let f = (steps.next done are).found bytes x.0 x.1 h one in
    let g = others x.0 x.1 f.0 (bytes_behind (spell x.0) x.1 bytes f.1 h) e in
    let all = one_more done x.0 g.0 in (
      x.0 ∷ g.0,
      g.1,
      omega (arith, g.2),
      subst Are all g.3,
      f.1 ∙ ap (λ r. spell x.0 ++ r) g.4 ∙ sym (append_assoc (spell x.0) (flat_map spell g.0) g.1),
      subst (λ d. Ends d g.1) all g.5,
    )
cut_next read spell Are Ends steps n done bytes are h others (Err fault) one e =
    let all = sym (append-nil done) in
    ([], bytes, omega arith, subst Are all are, refl, subst (λ d. Ends d bytes) all ((steps.next done are).cut bytes h (cc)))

many_cut : {A : Type 0} (read : List A → List ℕ → Part A) (spell : A → List ℕ) (Are : List A → Type 0) (Ends : List A → List ℕ → Type 0)
    → Steps read spell Are Ends
    → (n : ℕ) (done : List A) (bytes : List ℕ) → Are done → AreBytes bytes → many_at read n done bytes ≡ Err Cut → Cuts spell Are Ends n done bytes
unfolding repeated
many_cut read spell Are Ends steps zero done bytes are h e = absurd (cc)
many_cut read spell Are Ends steps (suc n) done bytes are h e =
    cut_next read spell Are Ends steps n done bytes are h
    (λ x behind are' h' e'. many_cut read spell Are Ends steps n (done ++ x ∷ []) behind are' h' e')
    (read done bytes) refl e

many_ends : {A : Type 0} (read : List A → List ℕ → Part A) (spell : A → List ℕ) (Are : List A → Type 0) (Ends : List A → List ℕ → Type 0)
    → Steps read spell Are Ends
    → (more : List A) (n : ℕ) (done : List A) (rest : List ℕ) → length more < n → Are (done ++ more) → Ends (done ++ more) rest
    → many_at read n done (flat_map spell more ++ rest) ≡ Err Cut
unfolding repeated
many_ends read spell Are Ends steps more zero done rest l are e = absurd (omega arith)
many_ends read spell Are Ends steps [] (suc n) done rest l are e =
    let none = append-nil done in
    ap (goes_on read n done) ((steps.next done (subst Are none are)).ends rest (subst (λ d. Ends d rest) none e))
many_ends read spell Are Ends steps (x ∷ more) (suc n) done rest l are e =
    let all = sym (one_more done x more) in
    let are' = subst Are all are in
    ap (λ b. goes_on read n done (read done b)) (append_assoc (spell x) (flat_map spell more) rest)
    ∙ ap (goes_on read n done) ((steps.next done (steps.fewer done (x ∷ more) are)).reads x (flat_map spell more ++ rest)
    (steps.fewer (done ++ x ∷ []) more are'))
    ∙ many_ends read spell Are Ends steps more n (done ++ x ∷ []) rest (omega arith) are' (subst (λ d. Ends d rest) all e)

-- ---- together

pub codec_many : {A : Type 0} (read : List A → List ℕ → Part A) (spell : A → List ℕ) (Are : List A → Type 0) (Ends : List A → List ℕ → Type 0)
    → Steps read spell Are Ends → Are []
    → (n : ℕ) → Codec (many_at read n []) (flat_map spell) (λ xs. (length xs ≡ n) × Are xs) (EndsAmong spell Are Ends n)
codec_many read spell Are Ends steps none n = record {
  found = λ bytes xs rest h e.
      let f = many_found read spell Are Ends steps n [] bytes xs rest none h e in
      ((ap length f.1 ∙ f.2, f.3), f.4 ∙ ap (λ ys. flat_map spell ys ++ rest) (sym f.1));
  reads = λ xs rest is. subst (λ k. many_at read k [] (flat_map spell xs ++ rest) ≡ Ok (xs, rest)) is.0 (many_reads read spell Are Ends steps xs [] rest is.1);
  cut = λ bytes h e. many_cut read spell Are Ends steps n [] bytes none h e;
  ends = λ bytes e. ap (many_at read n []) e.4 ∙ many_ends read spell Are Ends steps e.0 n [] e.1 e.2 e.3 e.5;
}

-- ---- a fact of each, and one more

pub all_last : {A : Type 0} (Is : A → Type 0) (done : List A) (x : A) → All Is (done ++ x ∷ []) → Is x
all_last Is done x a = subst Is (get_or-append_seam done x [] x) (a (length done) x (omega (arith, length-append done (x ∷ []))))

pub all_front : {A : Type 0} (Is : A → Type 0) (done more : List A) → All Is (done ++ more) → All Is done
all_front Is done more a = λ k d l. subst Is (get_or_append_left done more d k l) (a k d (omega (arith, length-append done more)))
