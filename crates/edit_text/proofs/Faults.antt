-- Which faults a step of reading has.
use Rattle.std.proofs.Common.{◌≡◌, ◌≢◌, ℕ, zero, suc, ◌==◌, Bool, true, false, cond, List, [], ◌∷◌, length, take, drop, get_or, Ok, Err, ap}
use Rattle.std.specs.Prelude.{nat_lt}
use Rattle.edit_text.specs.declared.fault.TextFault.TheVariants.{Cut, Bad, Memory}
use Rattle.reader.proofs.Steps.{then_never, same_fault, not_both}
use Rattle.feature_model.specs.Data.{TagData, ChangeData}
use Rattle.edit_text.specs.Decoding.{BeginsAsEdit}
use Rattle.edit_text.specs.Reading.{Part, then_read, read_as, read_if, byte_at, front_at, two_at, eight_at}
use Rattle.edit_text.specs.Reading.{number_at, text_at, name_at, long_text_at, negative_at, value_behind, value_at, tag_at, next_number_at, change_count_at}

-- ---- steps that allocate nothing

pub cut_is_not_memory : Cut ≢ Memory
cut_is_not_memory is = cc

pub bad_is_not_memory : Bad ≢ Memory
bad_is_not_memory is = cc

pub as_no_memory : {A B : Type 0} (make : A → B) (part : Part A) → part ≢ Err Memory → read_as make part ≢ Err Memory
as_no_memory make part never = then_never Memory part (λ x. Ok (make x.0, x.1)) never (λ x is. not_both (make x.0, x.1) Memory is)

pub then_no_memory : {A B : Type 0} (part : Part A) (next : A → List ℕ → Part B)
    → part ≢ Err Memory → ((x : A) (rest : List ℕ) → next x rest ≢ Err Memory) → then_read part next ≢ Err Memory
then_no_memory part next never each = then_never Memory part (λ x. next x.0 x.1) never (λ x. each x.0 x.1)

tested_no_memory : {A : Type 0} (x : A × List ℕ) (b : Bool) → ◌≢◌ {A = Part A} (cond b (Ok x) (Err Bad)) (Err Memory)
tested_no_memory x true is = not_both x Memory is
tested_no_memory {A} x false is = bad_is_not_memory (same_fault {A = A × List ℕ} Bad Memory is)

pub if_no_memory : {A : Type 0} (test : A → Bool) (part : Part A) → part ≢ Err Memory → read_if test part ≢ Err Memory
if_no_memory test part never =
    then_never Memory part (λ x. cond (test x.0) (Ok x) (Err Bad)) never (λ x. tested_no_memory x (test x.0))

front_by : (bytes : List ℕ) (front : Part (List ℕ)) (b : Bool) → front ≢ Err Memory → cond b (Err Cut) front ≢ Err Memory
front_by bytes front true never is = cc
front_by bytes front false never is = never is

pub front_no_memory : (len : ℕ) (bytes : List ℕ) → front_at len bytes ≢ Err Memory
unfolding front_at
front_no_memory len bytes = front_by bytes (Ok (take len bytes, drop len bytes)) (nat_lt (length bytes) len) (λ is. cc)

pub number_no_memory : (bytes : List ℕ) → number_at bytes ≢ Err Memory
unfolding number_at eight_at
number_no_memory bytes = if_no_memory _ _ (as_no_memory _ _ (front_no_memory 8 bytes))

pub next_number_no_memory : (done : List ChangeData) (bytes : List ℕ) → next_number_at done bytes ≢ Err Memory
unfolding next_number_at
next_number_no_memory done bytes = if_no_memory _ _ (number_no_memory bytes)

pub byte_no_memory : (bytes : List ℕ) → byte_at bytes ≢ Err Memory
unfolding byte_at
byte_no_memory [] is = cc
byte_no_memory (b ∷ bytes) is = cc

pub cond_no_memory : {A : Type 0} (b : Bool) (p q : Part A) → p ≢ Err Memory → q ≢ Err Memory → cond b p q ≢ Err Memory
cond_no_memory true p q p_never q_never = p_never
cond_no_memory false p q p_never q_never = q_never

ok_no_memory : {A : Type 0} (x : A × List ℕ) → ◌≢◌ {A = Part A} (Ok x) (Err Memory)
ok_no_memory x is = cc

pub bad_no_memory : {A : Type 0} → ◌≢◌ {A = Part A} (Err Bad) (Err Memory)
bad_no_memory is = cc

text_no_memory : (len : ℕ) (bytes : List ℕ) → text_at len bytes ≢ Err Memory
unfolding text_at
text_no_memory len bytes = if_no_memory _ _ (front_no_memory len bytes)

pub count_no_memory : (bytes : List ℕ) → change_count_at bytes ≢ Err Memory
count_no_memory bytes = if_no_memory _ _ (byte_no_memory bytes)

pub name_no_memory : (bytes : List ℕ) → name_at bytes ≢ Err Memory
unfolding name_at
name_no_memory bytes = then_no_memory _ _ (if_no_memory _ _ (byte_no_memory bytes)) text_no_memory

long_text_no_memory : (bytes : List ℕ) → long_text_at bytes ≢ Err Memory
unfolding long_text_at two_at
long_text_no_memory bytes = then_no_memory _ _ (if_no_memory _ _ (as_no_memory _ _ (front_no_memory 2 bytes))) text_no_memory

eight_no_memory : (bytes : List ℕ) → eight_at bytes ≢ Err Memory
unfolding eight_at
eight_no_memory bytes = as_no_memory _ _ (front_no_memory 8 bytes)

negative_no_memory : (bytes : List ℕ) → negative_at bytes ≢ Err Memory
unfolding negative_at
negative_no_memory bytes = if_no_memory _ _ (eight_no_memory bytes)

value_of_no_memory : (kind : ℕ) (bytes : List ℕ) → value_behind kind bytes ≢ Err Memory
unfolding value_behind
value_of_no_memory kind bytes =
    cond_no_memory (kind == 1) _ _ (as_no_memory _ _ (long_text_no_memory bytes))
    (cond_no_memory (kind == 2) _ _ (as_no_memory _ _ (eight_no_memory bytes))
    (cond_no_memory (kind == 3) _ _ (as_no_memory _ _ (negative_no_memory bytes))
    (cond_no_memory (kind == 4) _ _ (ok_no_memory _) (cond_no_memory (kind == 5) _ _ (ok_no_memory _) bad_no_memory))))

value_no_memory : (bytes : List ℕ) → value_at bytes ≢ Err Memory
unfolding value_at
value_no_memory bytes = then_no_memory _ _ (byte_no_memory bytes) value_of_no_memory

pub tag_no_memory : (tags : List TagData) (bytes : List ℕ) → tag_at tags bytes ≢ Err Memory
unfolding tag_at
tag_no_memory tags bytes = then_no_memory _ _ (if_no_memory _ _ (name_no_memory bytes)) (λ key rest. as_no_memory _ _ (value_no_memory rest))

-- ---- what begins as an edit

pub take_edit_front : (n : ℕ) (bytes : List ℕ) → BeginsAsEdit (take n bytes) → BeginsAsEdit bytes
take_edit_front zero bytes begins = absurd (cc)
take_edit_front (suc n) [] begins = begins
take_edit_front (suc n) (x ∷ bytes) begins =
    let first : x ≡ begins.0 = ap (λ (xs : List ℕ). get_or xs 0 0) begins.2 in
    (begins.0, bytes, ap (λ b. b ∷ bytes) first, begins.3)
