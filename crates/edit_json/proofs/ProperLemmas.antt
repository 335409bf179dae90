-- A value whose objects are in order, and whose numbers fit, is read back from its text.
use Rattle.std.proofs.Common.{◌≡◌, ℕ, ◌^◌, ◌<◌, ◌≤◌, pos, negsuc, List, [], ◌∷◌, ◌++◌, Bool, true, false, Some, IsUtf8, option_map, option_and_then}
use Rattle.std.proofs.Common.{Less, Greater, nat_cmp, refl, sym, ap, ◌∙◌, arith, append-nil}
use Rattle.std.specs.Prelude.{⊤}
use Rattle.std.specs.Ordering.{ordering_reverse}
use Rattle.std.specs.Cmp.Lexicographic.{slice_cmp}
use Rattle.std.proofs.lemmas.Cmp.{nat_list_cmp_total}
use Rattle.std.proofs.lemmas.Fmt.{IsAscii-decimal, IsAscii-signed}
use Rattle.std.proofs.lemmas.Str.{IsUtf8-append, IsUtf8-from_ascii}
use Rattle.json.specs.Json as json
use Rattle.json.specs.Lex.{tokens}
use Rattle.json.specs.Tree as tree
use Rattle.json.specs.Tree.{json_tokens}
use Rattle.json.proofs.Printed.Decimals.{IsNumber-decimal, IsNumber-signed_decimal}
use Rattle.json.proofs.Printed.Tokens.{tokens-print}
use Rattle.json.proofs.Printed.Trees.{value-json_tokens, ArePrintable-json_tokens}
use Rattle.json.proofs.Printed.Utf8.{IsUtf8-are_ascii, IsUtf8-quoted, IsUtf8-boolean}
use Rattle.serde_json.specs.Data.{unsigned, negative, float, Data, null, boolean, number, string, array, object, Items, no_items, item}
use Rattle.serde_json.specs.Data.{Members, no_members, member, put, depth, items_depth, members_depth}
use Rattle.serde_json.specs.Read.{read, max_depth, of_json, of_items, of_members}
use Rattle.serde_json.specs.Written.{outline, items_outline, members_outline, comma_if, compact_text, items_text, members_text}
use Rattle.serde_json.proofs.Numbers.{number_of-decimal, number_of-negative}
use Rattle.serde_json.proofs.Texts.{print-outline}
use Rattle.edit_json.specs.Listed.{IsJsonText}

-- the key is below each of these
abbrev pub IsBelow : List ℕ → Members → Type 0
IsBelow k no_members = ⊤
IsBelow k (member l e ms) = (slice_cmp nat_cmp k l ≡ Less) × IsBelow k ms

abbrev mutual
  pub IsProper : Data → Type 0
  IsProper null = ⊤
  IsProper (boolean b) = ⊤
  IsProper (number (unsigned n)) = n < 2 ^ 64
  IsProper (number (negative (pos n))) = ⊥
  IsProper (number (negative (negsuc n))) = n < 2 ^ 63
  IsProper (number (float x)) = ⊥
  IsProper (string s) = IsUtf8 s
  IsProper (array ds) = AreProper ds
  IsProper (object ms) = HasProper ms

  pub AreProper : Items → Type 0
  AreProper no_items = ⊤
  AreProper (item d ds) = IsProper d × AreProper ds

  pub HasProper : Members → Type 0
  HasProper no_members = ⊤
  HasProper (member k d ms) = IsUtf8 k × IsBelow k ms × IsProper d × HasProper ms

-- ---- members that come in order stay in it

abbrev joined : Members → Members → Members
joined no_members ms = ms
joined (member k d bs) ms = member k d (joined bs ms)

abbrev EachBelow : Members → Members → Type 0
EachBelow no_members ms = ⊤
EachBelow (member l e bs) ms = IsBelow l ms × EachBelow bs ms

joined_more : (bs : Members) (k : List ℕ) (d : Data) (ms : Members) → joined (joined bs (member k d no_members)) ms ≡ joined bs (member k d ms)
joined_more no_members k d ms = refl
joined_more (member l e bs) k d ms = ap (member l e) (joined_more bs k d ms)

put_behind : (bs : Members) (k : List ℕ) (d : Data) (ms : Members) → EachBelow bs (member k d ms) → put k d bs ≡ joined bs (member k d no_members)
put_behind no_members k d ms h = refl
put_behind (member l e bs) k d ms h =
    let above : slice_cmp nat_cmp k l ≡ Greater = nat_list_cmp_total.antisymm k l ∙ ap ordering_reverse h.0.0 in
    rw above (ap (member l e) (put_behind bs k d ms h.1))

below_more : (bs : Members) (k : List ℕ) (d : Data) (ms : Members) → EachBelow bs (member k d ms) → IsBelow k ms → EachBelow (joined bs (member k d no_members)) ms
below_more no_members k d ms h first = (first, tt)
below_more (member l e bs) k d ms h first = (h.0.1, below_more bs k d ms h.1 first)

joined_none : (bs : Members) → bs ≡ joined bs no_members
joined_none no_members = refl
joined_none (member k d bs) = ap (member k d) (joined_none bs)

-- ---- the value is read back

mutual
  reads : (d : Data) → IsProper d → of_json (outline d) ≡ Some d
  reads null h = refl
  reads (boolean b) h = refl
  reads (number (unsigned n)) h = ap (option_map number) (number_of-decimal n h)
  reads (number (negative (pos n))) h = absurd h
  reads (number (negative (negsuc n))) h = ap (option_map number) (number_of-negative n h)
  reads (number (float x)) h = absurd h
  reads (string s) h = refl
  reads (array ds) h = ap (option_map array) (items_read ds h)
  reads (object ms) h = ap (option_map object) (members_read ms no_members h tt)

  items_read : (ds : Items) → AreProper ds → of_items (items_outline ds) ≡ Some ds
  items_read no_items h = refl
  items_read (item d ds) h =
      ap (option_and_then (λ e. option_map (item e) (of_items (items_outline ds)))) (reads d h.0) ∙ ap (option_map (item d)) (items_read ds h.1)

  members_read : (ms bs : Members) → HasProper ms → EachBelow bs ms → of_members (members_outline ms) bs ≡ Some (joined bs ms)
  members_read no_members bs h below = ap Some (joined_none bs)
  members_read (member k d ms) bs h below =
      ap (option_and_then (λ e. of_members (members_outline ms) (put k e bs))) (reads d h.2)
      ∙ ap (of_members (members_outline ms)) (put_behind bs k d ms below)
      ∙ members_read ms (joined bs (member k d no_members)) h.3 (below_more bs k d ms below h.1) ∙ ap Some (joined_more bs k d ms)

mutual
  numbers : (d : Data) → IsProper d → tree.HasNumbers (outline d)
  numbers null h = tt
  numbers (boolean b) h = tt
  numbers (number (unsigned n)) h = IsNumber-decimal n h
  numbers (number (negative (pos n))) h = absurd h
  numbers (number (negative (negsuc n))) h = IsNumber-signed_decimal (negsuc n) h
  numbers (number (float x)) h = absurd h
  numbers (string s) h = tt
  numbers (array ds) h = items_numbers ds h
  numbers (object ms) h = members_numbers ms h

  items_numbers : (ds : Items) → AreProper ds → tree.ItemsHaveNumbers (items_outline ds)
  items_numbers no_items h = tt
  items_numbers (item d ds) h = (numbers d h.0, items_numbers ds h.1)

  members_numbers : (ms : Members) → HasProper ms → tree.MembersHaveNumbers (members_outline ms)
  members_numbers no_members h = tt
  members_numbers (member k d ms) h = (numbers d h.2, members_numbers ms h.3)

mutual
  deep : (d : Data) → tree.depth (outline d) ≡ depth d
  deep null = refl
  deep (boolean b) = refl
  deep (number n) = refl
  deep (string s) = refl
  deep (array ds) = omega (arith, items_deep ds)
  deep (object ms) = omega (arith, members_deep ms)

  items_deep : (ds : Items) → tree.items_depth (items_outline ds) ≡ items_depth ds
  items_deep no_items = refl
  items_deep (item d ds) = rw (deep d, items_deep ds) refl

  members_deep : (ms : Members) → tree.members_depth (members_outline ms) ≡ members_depth ms
  members_deep no_members = refl
  members_deep (member k d ms) = rw (deep d, members_deep ms) refl

read_back : (d : Data) → IsProper d → depth d ≤ max_depth → read (compact_text d) ≡ Some d
read_back d h shallow =
    let made : tokens (compact_text d) ≡ json_tokens (outline d) ++ [] =
    ap tokens (sym (print-outline d)) ∙ tokens-print (json_tokens (outline d)) (ArePrintable-json_tokens (outline d) (numbers d h))
    ∙ sym (append-nil (json_tokens (outline d))) in
    ap (λ ts. option_and_then of_json (option_and_then (λ p. json.if_last p.0 p.1) (json.value max_depth ts))) made
    ∙ ap (λ o. option_and_then of_json (option_and_then (λ p. json.if_last p.0 p.1) o))
    (value-json_tokens (outline d) max_depth [] (omega (arith, deep d, shallow))) ∙ reads d h

-- ---- and its text is UTF-8

comma_utf8 : (later : Bool) → IsUtf8 (comma_if later)
comma_utf8 true = IsUtf8-are_ascii (44 ∷ []) refl
comma_utf8 false = IsUtf8-are_ascii [] refl

behind : (x : ℕ) (xs : List ℕ) → IsUtf8 (x ∷ []) → IsUtf8 xs → IsUtf8 (x ∷ xs)
behind x xs one more = IsUtf8-append (x ∷ []) xs one more

mutual
  utf8 : (d : Data) → IsProper d → IsUtf8 (compact_text d)
  utf8 null h = IsUtf8-are_ascii _ refl
  utf8 (boolean b) h = IsUtf8-boolean b
  utf8 (number (unsigned n)) h = IsUtf8-from_ascii _ (IsAscii-decimal n h)
  utf8 (number (negative (pos n))) h = absurd h
  utf8 (number (negative (negsuc n))) h = IsUtf8-from_ascii _ (IsAscii-signed (negsuc n) h)
  utf8 (number (float x)) h = absurd h
  utf8 (string s) h = IsUtf8-quoted s h
  utf8 (array ds) h = behind 91 _ (IsUtf8-are_ascii _ refl) (items_utf8 false ds h)
  utf8 (object ms) h = behind 123 _ (IsUtf8-are_ascii _ refl) (members_utf8 false ms h)

  items_utf8 : (later : Bool) (ds : Items) → AreProper ds → IsUtf8 (items_text later ds)
  items_utf8 later no_items h = IsUtf8-are_ascii _ refl
  items_utf8 later (item d ds) h =
      IsUtf8-append _ _ (comma_utf8 later) (IsUtf8-append _ _ (utf8 d h.0) (items_utf8 true ds h.1))

  members_utf8 : (later : Bool) (ms : Members) → HasProper ms → IsUtf8 (members_text later ms)
  members_utf8 later no_members h = IsUtf8-are_ascii _ refl
  members_utf8 later (member k d ms) h =
      IsUtf8-append _ _ (comma_utf8 later) (IsUtf8-append _ _ (IsUtf8-quoted k h.0)
      (behind 58 _ (IsUtf8-are_ascii _ refl) (IsUtf8-append _ _ (utf8 d h.2) (members_utf8 true ms h.3))))

pub is_json : (d : Data) → IsProper d → depth d ≤ max_depth → IsJsonText (compact_text d) d
is_json d h shallow = (utf8 d h, read_back d h shallow)
