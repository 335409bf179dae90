-- Hex text part by part.
use Rattle.std.proofs.Common.{◌≡◌, ℕ, zero, suc, ◌+◌, ◌*◌, ◌-◌, ◌/◌, ◌%◌, ◌<◌, ◌≤◌, List, [], ◌∷◌, ◌++◌, drop, take, length, slice_index, refl, sym, ap, ◌∙◌, arith}
use Rattle.std.proofs.Common.{append_assoc, length-append, length-drop}
use Rattle.std.proofs.lemmas.List.{append-nil, drop-append-le, drop-drop, drop_all, length-take-le, take-append-drop}
use Rattle.std.specs.Rc.{rc_slice_items}
use Rattle.hex.specs.Hex.{encode_lower, encode_with, lower_digits}
use Rattle.hex.proofs.HexLemmas.{length-encode_with}
use Rattle.http_serve.specs.Connections.{IsNextPiece}
use Rattle.http_serve.specs.Parts.{front_content, lying_content, IsAhead}
use Rattle.http_serve.specs.declared.replies.Content.{Content}
use Rattle.http_serve.specs.declared.replies.Content.TheVariants.{Empty, Fixed, Whole, Shared, Spelled, Parts}
use Rattle.http_serve.proofs.PieceLemmas.{drop_behind}

digits_append : (t xs ys : List ℕ) → encode_with t (xs ++ ys) ≡ encode_with t xs ++ encode_with t ys
unfolding encode_with
digits_append t [] ys = refl
digits_append t (b ∷ xs) ys = ap (λ (l : List ℕ). slice_index t (b / 16) ∷ slice_index t (b % 16) ∷ l) (digits_append t xs ys)

digits_drop : (t : List ℕ) (k : ℕ) (xs : List ℕ) → drop (2 * k) (encode_with t xs) ≡ encode_with t (drop k xs)
unfolding encode_with
digits_drop t zero xs = refl
digits_drop t (suc k) [] = drop_all (2 * suc k) [] (omega arith)
digits_drop t (suc k) (b ∷ xs) =
    let next : 2 * suc k ≡ suc (suc (2 * k)) = omega arith in
    ap (λ (n : ℕ). drop n (encode_with t (b ∷ xs))) next ∙ digits_drop t k xs

pub digits_length : (xs : List ℕ) → length (encode_lower xs) ≡ 2 * length xs
digits_length xs = length-encode_with lower_digits xs

-- no bytes have no digits
pub digits_none : (xs : List ℕ) → length xs ≡ 0 → length (encode_lower xs) ≡ 0
digits_none xs none = omega (arith, digits_length xs, none)

-- The next bytes were spelled behind a text.
pub spelled_on : (old text items : List ℕ) (at count : ℕ) → text ≡ old ++ encode_lower (take count (drop at items))
    → text ++ encode_lower (drop (at + count) items) ≡ old ++ encode_lower (drop at items)
spelled_on old text items at count is =
    ap (λ (t : List ℕ). t ++ encode_lower (drop (at + count) items)) is
    ∙ append_assoc old (encode_lower (take count (drop at items))) (encode_lower (drop (at + count) items))
    ∙ ap (λ (t : List ℕ). old ++ t)
    (ap (λ (l : List ℕ). encode_lower (take count (drop at items)) ++ encode_lower l)
    (ap (λ (n : ℕ). drop n items) (omega arith) ∙ sym (drop-drop count at items))
    ∙ sym (digits_append lower_digits (take count (drop at items)) (drop count (drop at items)))
    ∙ ap encode_lower (take-append-drop count (drop at items)))

-- a part of the bytes
pub part_is : (now items : List ℕ) (at count : ℕ) → now ≡ items → take (at + count - at) (drop at now) ≡ take count (drop at items)
part_is now items at count is =
    ap (λ (n : ℕ). take n (drop at now)) (omega arith) ∙ ap (λ (l : List ℕ). take count (drop at l)) is

-- how many bytes it has
pub part_length : (items : List ℕ) (at count : ℕ) → count ≤ length items - at → length (take count (drop at items)) ≡ count
part_length items at count within = length-take-le count (drop at items) (omega (arith, within, length-drop at items))

-- More was taken than the front has: the digits of the bytes left out are behind it.
pub spelled_behind : (taken over : ℕ) (front text old mid new : List ℕ) → length front ≤ taken → over ≡ taken - length front
    → mid ≡ drop (over / 2) old → text ++ encode_lower new ≡ encode_lower mid
    → drop (over % 2) (text ++ encode_lower new) ≡ drop taken (front ++ encode_lower old)
spelled_behind taken over front text old mid new under over_is mid_is is =
    ap (drop (over % 2)) (is ∙ ap encode_lower mid_is ∙ sym (digits_drop lower_digits (over / 2) old))
    ∙ drop-drop (over % 2) (2 * (over / 2)) (encode_lower old)
    ∙ ap (λ (n : ℕ). drop n (encode_lower old)) (omega (arith, over_is))
    ∙ sym (drop_behind taken front (encode_lower old) under)

-- how long these are
pub spelled_lengths : (text mid new : List ℕ) → text ++ encode_lower new ≡ encode_lower mid
    → length text + 2 * length new ≡ 2 * length mid
spelled_lengths text mid new is =
    omega (arith, ap length is, length-append text (encode_lower new), digits_length new, digits_length mid)

-- What follows a front of which all was taken lies in memory as it is sent.
pub lies : (taken len capacity : ℕ) (content : Content) → IsAhead taken len capacity content → len ≤ taken → front_content content ≡ lying_content content
unfolding encode_with
lies taken len capacity Empty ahead under = refl
lies taken len capacity (Fixed text) ahead under = refl
lies taken len capacity (Whole bytes) ahead under = refl
lies taken len capacity (Shared bytes) ahead under = refl
lies taken len capacity (Spelled []) ahead under = refl
lies taken len capacity (Spelled (b ∷ bytes)) ahead under = absurd (omega (arith, (ahead (omega arith)).0, under))
lies taken len capacity (Parts first size) ahead under = refl

-- What lies in memory of a content comes first.
lies_first : (content : Content) → (behind : List ℕ) × (front_content content ≡ lying_content content ++ behind)
lies_first Empty = ([], refl)
lies_first (Fixed text) = ([], sym (append-nil text.now))
lies_first (Whole bytes) = ([], sym (append-nil bytes.items))
lies_first (Shared bytes) = ([], sym (append-nil (rc_slice_items bytes)))
lies_first (Spelled bytes) = (encode_lower bytes, refl)
lies_first (Parts first size) = ([], sym (append-nil first.items))

-- What is left of the front, and what lies in memory behind it, comes next.
pub next_bytes : (taken : ℕ) (front first lent waiting : List ℕ) (content : Content) → taken < length front → first ≡ drop taken front
    → lent ≡ lying_content content → drop taken (front ++ front_content content) ≡ waiting → IsNextPiece (first ++ lent) waiting
next_bytes taken front first lent waiting content under first_is lent_is is =
    let left = drop taken front in
    let lying = lying_content content in
    let behind = lies_first content in
    record {
      behind = behind.0;
      is = sym is ∙ drop-append-le taken front (front_content content) (omega (arith, under)) ∙ ap (λ (l : List ℕ). left ++ l) behind.1
          ∙ sym (append_assoc left lying behind.0) ∙ ap (λ (l : List ℕ). (l ++ lying) ++ behind.0) (sym first_is)
          ∙ ap (λ (l : List ℕ). (first ++ l) ++ behind.0) (sym lent_is);
      some = λ none. absurd (omega (arith, ap length none, length-append first lent, ap length first_is, length-drop taken front, under));
    }
