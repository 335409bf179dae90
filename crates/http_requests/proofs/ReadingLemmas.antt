-- There is one request at the front of bytes, and so one list of requests.
use Rattle.std.proofs.Common.{◌≡◌, ◌≢◌, ℕ, List, [], ◌∷◌, ◌++◌, true, false, length, take, drop, refl, sym, ap, ◌∙◌, subst, arith, Ok, Err, Result, Option}
use Rattle.std.proofs.Common.{None, Some, ◌≤◌, append_assoc, length-append, length-drop}
use Rattle.std.proofs.lemmas.List.{append-nil}
use Rattle.std.proofs.Math.Seq.{take-append_seam, drop-append_seam}
use Rattle.httparse.specs.Grammar.{RequestHead, print_request}
use Rattle.httparse.proofs.GrammarLemmas.{request_unique}
use Rattle.http_requests.specs.declared.refusals.Refusal.{Refusal}
use Rattle.http_requests.specs.Fields.{framing}
use Rattle.http_requests.specs.Requests.{Request, IsHead, IsRequest, IsRefused, IsFault, Begins, Ending, going, closed, asked, refused, EndsAs, Requests}
use Rattle.http_requests.specs.Requests.{asks_to_close, fields_of}
use Rattle.http_requests.proofs.HeadLemmas.{empty_no_head, refused_none}

-- If bytes begin with a request, the bytes up to its end are this request, and nothing is left.
pub request_alone : (bytes : List ℕ) (request : Request) (end : ℕ) → end ≤ length bytes → IsRequest bytes request (drop end bytes)
    → IsRequest (take end bytes) request []
request_alone bytes request end within is =
    let text = print_request request.head in
    let rest = drop end bytes in
    let whole : bytes ≡ (text ++ request.body) ++ rest = is.head.reads.1 ∙ sym (append_assoc text request.body rest) in
    let size : length (text ++ request.body) ≡ end =
    omega (arith, ap length whole, length-append (text ++ request.body) rest, length-drop end bytes) in
    let front : take end bytes ≡ text ++ request.body =
    ap (λ (t : List ℕ). take end t) whole ∙ ap (λ (n : ℕ). take n ((text ++ request.body) ++ rest)) (sym size)
    ∙ take-append_seam (text ++ request.body) rest in
    record {
      head = record {
        reads = (is.head.reads.0, front ∙ ap (λ (t : List ℕ). text ++ t) (sym (append-nil request.body)));
        size = is.head.size;
        fields = is.head.fields;
      };
      body = is.body;
    }

head_unique : (bytes : List ℕ) (h k : RequestHead) (r q : List ℕ) → IsHead bytes h r → IsHead bytes k q → (h ≡ k) × (r ≡ q)
head_unique bytes h k r q x y = request_unique bytes h k r q x.reads y.reads

seam : (a b c d : List ℕ) → a ++ b ≡ c ++ d → length a ≡ length c → (a ≡ c) × (b ≡ d)
seam a b c d e same = (
  sym (take-append_seam a b) ∙ ap (λ (t : List ℕ). take (length a) t) e ∙ ap (λ (n : ℕ). take n (c ++ d)) same ∙ take-append_seam c d,
  sym (drop-append_seam a b) ∙ ap (λ (t : List ℕ). drop (length a) t) e ∙ ap (λ (n : ℕ). drop n (c ++ d)) same ∙ drop-append_seam c d,
)

message_unique : (bytes : List ℕ) (m n : Request) (r q : List ℕ) → IsRequest bytes m r → IsRequest bytes n q → (m ≡ n) × (r ≡ q)
message_unique bytes m n r q x y =
    let same = head_unique bytes m.head n.head (m.body ++ r) (n.body ++ q) x.head y.head in
    let stated : ◌≡◌ {A = Result ℕ Refusal} (Ok (length m.body)) (Ok (length n.body)) =
    sym x.body ∙ ap (λ (h : RequestHead). framing h.minor (fields_of h)) same.0 ∙ y.body in
    let size : length m.body ≡ length n.body = cc in
    let parts = seam m.body r n.body q same.1 size in
    (λ i. record { head = same.0 i; body = parts.0 i }, parts.1)

fault_unique : (left : ℕ) (stated : Result ℕ Refusal) (a b : Refusal) → IsFault left stated a → IsFault left stated b → a ≡ b
fault_unique left (Ok n) a b x y = x.1 ∙ sym y.1
fault_unique left (Err e) a b x y = x ∙ sym y

refusal_unique : (bytes : List ℕ) (h k : Option RequestHead) (a b : Refusal) → IsRefused bytes h a → IsRefused bytes k b
    → (h ≡ k) × (a ≡ b)
refusal_unique bytes None None a b x y = (refl, x.0 ∙ sym y.0)
refusal_unique bytes None (Some k) a b x y = absurd (x.1 k y.rest y.is)
refusal_unique bytes (Some h) None a b x y = absurd (y.1 h x.rest x.is)
refusal_unique bytes (Some h) (Some k) a b x y =
    let same = head_unique bytes h k x.rest y.rest x.is y.is in
    let P : ℕ → Result ℕ Refusal → Type 0 = λ n s. IsFault n s a in
    let moved : IsFault (length y.rest) (framing k.minor (fields_of k)) a =
    subst (λ (n : ℕ). P n (framing k.minor (fields_of k))) (ap length same.1)
    (subst (λ (t : RequestHead). P (length x.rest) (framing t.minor (fields_of t))) same.0 x.fault) in
    let some : RequestHead → Option RequestHead = λ head. Some head in
    (ap some same.0, fault_unique (length y.rest) (framing k.minor (fields_of k)) a b moved y.fault)

-- at the ending of the bytes there is no request, except one that ends the connection
end_none : (bytes : List ℕ) (ending : Ending) (m : Request) (r : List ℕ) → (ending ≢ going) → EndsAs bytes ending → IsRequest bytes m r
    → asks_to_close m.head ≡ false → ⊥
end_none bytes going m r other x is goes_on = other refl
end_none bytes closed m r other x is goes_on = empty_no_head bytes (ap length x) m.head (m.body ++ r) is.head
end_none bytes (asked request) m r other x is goes_on =
    let same = ap (λ (k : Request). asks_to_close k.head) (message_unique bytes request m x.0 r x.1 is).0 in
    let bad : true ≡ false = sym x.2 ∙ same ∙ goes_on in
    absurd (cc)
end_none bytes (refused head refusal) m r other x is goes_on = refused_none bytes head refusal m r x.1 is

end_unique : (bytes : List ℕ) (a b : Ending) → (a ≢ going) → (b ≢ going) → EndsAs bytes a → EndsAs bytes b → a ≡ b
end_unique bytes going b f g x y = absurd (f refl)
end_unique bytes a going f g x y = absurd (g refl)
end_unique bytes closed closed f g x y = refl
end_unique bytes closed (asked m) f g x y = absurd (empty_no_head bytes (ap length x) m.head (m.body ++ y.0) y.1.head)
end_unique bytes closed (refused h e) f g x y = let some = y.0 in absurd (omega (arith, ap length x))
end_unique bytes (asked m) closed f g x y = absurd (empty_no_head bytes (ap length y) m.head (m.body ++ x.0) x.1.head)
end_unique bytes (asked m) (asked n) f g x y = ap asked (message_unique bytes m n x.0 y.0 x.1 y.1).0
end_unique bytes (asked m) (refused h e) f g x y = absurd (refused_none bytes h e m x.0 y.1 x.1)
end_unique bytes (refused h e) closed f g x y = let some = x.0 in absurd (omega (arith, ap length y))
end_unique bytes (refused h e) (asked m) f g x y = absurd (refused_none bytes h e m y.0 x.1 y.1)
end_unique bytes (refused h d) (refused k e) f g x y =
    let same = refusal_unique bytes h k d e x.1 y.1 in
    λ i. refused (same.0 i) (same.1 i)

pub requests_unique : (bytes : List ℕ) (requests others : List Request) (ending other : Ending)
    → (ending ≢ going) → (other ≢ going) → Requests bytes requests ending → Requests bytes others other
    → (requests ≡ others) × (ending ≡ other)
requests_unique bytes [] [] a b f g x y =
    (refl, end_unique y.0 a b f g (subst (λ (t : List ℕ). EndsAs t a) (sym x.1 ∙ y.1) x.2) y.2)
requests_unique bytes [] (n ∷ others) a b f g x y =
    absurd (end_none bytes a n y.1.0 f (subst (λ (t : List ℕ). EndsAs t a) (sym x.1) x.2) y.1.1 y.1.2)
requests_unique bytes (m ∷ requests) [] a b f g x y =
    absurd (end_none bytes b m x.1.0 g (subst (λ (t : List ℕ). EndsAs t b) (sym y.1) y.2) x.1.1 x.1.2)
requests_unique bytes (m ∷ requests) (n ∷ others) a b f g x y =
    let same = message_unique bytes m n x.1.0 y.1.0 x.1.1 y.1.1 in
    let rest = requests_unique y.1.0 requests others a b f g
    (x.0, subst (λ (t : List ℕ). Begins t requests x.0) same.1 x.1.3, x.2) (y.0, y.1.3, y.2) in
    (λ i. same.0 i ∷ rest.0 i, rest.1)
