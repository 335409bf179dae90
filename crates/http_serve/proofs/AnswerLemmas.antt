-- What is to be sent of a reply.
use Rattle.std.proofs.Common.{◌≡◌, ◌<◌, ◌≤◌, ℕ, List, [], ◌++◌, Bool, true, false, Option, Some, None, refl, sym, ap, ◌∙◌, subst, take, drop, length}
use Rattle.std.proofs.Common.{arith, Global}
use Rattle.std.proofs.Common.{append_assoc}
use Rattle.std.specs.Prelude.{IfSome, cond, not, ◌||◌, Vec}
use Rattle.std.proofs.lemmas.Bool.{false≢true}
use Rattle.std.proofs.lemmas.List.{append-nil, take-append-drop, drop_all}
use Rattle.http_values.specs.Codes.{code_of}
use Rattle.http_serve.specs.Connections.{Leaves, IsToSend}
use Rattle.http_serve.specs.Parts.{IsLater, IsLeft, IsStopped, front_bytes, front_content, rest_bytes}
use Rattle.http_serve.specs.Reply.{ReplyView, HeadView, FitsParts, IsReply, InParts, head_of, head_view, reply_head, reply_bytes, has_no_content}
use Rattle.http_serve.specs.declared.replies.Content.{Content}
use Rattle.http_serve.specs.declared.replies.Content.TheVariants.{Parts}
use Rattle.http_serve.specs.declared.replies.Reply.{Reply}
use Rattle.http_serve.specs.declared.answers.Rest.{Rest}
use Rattle.http_serve.proofs.PartLemmas.{front_rest, left_size, left_sends, parts_rest, same_head}

not_true : (x : Bool) → not x ≡ true → x ≡ false
not_true true is = absurd (false≢true is)
not_true false is = refl

-- What is left of a content from a byte on is its rest.
pub rest_left : (rest : Option Rest) (from size : ℕ) (bare : Bool) (reply : Reply) (first : Vec ℕ Global)
    → not (bare || has_no_content (code_of reply.status)) ≡ true → reply.content ≡ Parts first size → from ≡ length first.items
    → IfSome rest (λ r. (from < size) × (r ≡ record { from = from; length = size })) → IfSome rest (λ r. IsLeft bare reply r.from r.length)
rest_left None from size bare reply first sent parts from_is is = tt
rest_left (Some r) from size bare reply first sent parts from_is is =
    let here : r.from ≡ from = ap (λ (u : Rest). u.from) is.1 in
    let there : r.length ≡ size = ap (λ (u : Rest). u.length) is.1 in
    record {
      first = first;
      parts = parts ∙ ap (λ (n : ℕ). Parts first n) (sym there);
      from_is = here ∙ from_is;
      some = omega (arith, is.0, here, there);
      sent = not_true (bare || has_no_content (code_of reply.status)) sent;
    }

-- Where the first bytes of a content are all, none is left.
pub rest_none : (from size : ℕ) (bare : Bool) (reply : Reply) (first : Vec ℕ Global)
    → not (bare || has_no_content (code_of reply.status)) ≡ true → reply.content ≡ Parts first size → from ≡ length first.items → size ≤ from
    → (parts : List ℕ) → FitsParts parts reply.content → rest_bytes bare parts reply ≡ []
rest_none from size bare reply first sent is from_is over parts fits =
    parts_rest bare parts reply first size from (not_true (bare || has_no_content (code_of reply.status)) sent) is from_is
    ∙ drop_all from parts (omega (arith, over, (subst (λ (c : Content). FitsParts parts c) is fits).0))

module _ (close bare : Bool) (reply : Reply) (view : ReplyView) (is : IsReply reply view) where
  front_is : (rest : Rest) → IsLeft bare reply rest.from rest.length
      → front_bytes close bare reply ≡ reply_head close (head_of view) ++ take rest.from view.content
  front_is rest left =
      let fits = subst (λ (c : Content). FitsParts view.content c) left.parts is.1 in
      ap (λ (none : Bool). reply_head close (head_view reply) ++ cond none [] (front_content reply.content)) left.sent
      ∙ ap (λ (c : Content). reply_head close (head_view reply) ++ front_content c) left.parts
      ∙ ap (λ (t : List ℕ). reply_head close (head_view reply) ++ t)
      (sym fits.1 ∙ ap (λ (n : ℕ). take n view.content) (sym left.from_is))
      ∙ ap (λ (head : HeadView). reply_head close head ++ take rest.from view.content)
      (same_head view.content reply is.1 ∙ ap head_of (sym is.0))

  -- The front of a reply is to be sent.
  pub front_shown : (rest : Option Rest) (output : List ℕ) → output ≡ front_bytes close bare reply
      → IfSome rest (λ r. IsLeft bare reply r.from r.length)
      → (rest ≡ None → (parts : List ℕ) → FitsParts parts reply.content → rest_bytes bare parts reply ≡ [])
      → IsToSend close bare view rest output
  front_shown None output waits left none =
      waits ∙ sym (append-nil (front_bytes close bare reply))
      ∙ ap (λ (t : List ℕ). front_bytes close bare reply ++ t) (sym (none refl view.content is.1))
      ∙ front_rest close bare view.content reply is.1 ∙ ap (λ (r : ReplyView). reply_bytes close bare r) (sym is.0)
  front_shown (Some r) output waits left none = record {
    size_is = left_size bare reply view r.from r.length left is;
    some = left.some;
    sent = ap (λ (v : ReplyView). bare || has_no_content v.status) is.0 ∙ left.sent;
    output_is = waits ∙ front_is r left;
  }

  -- Of a content that is left the handler has said that it is being sent.
  pub rest_sends : (rest : Option Rest) (fact : Type 0) (size : ℕ) → IfSome rest (λ r. IsLeft bare reply r.from r.length)
      → InParts reply.content (fact × (size ≡ length view.content)) → IfSome rest (λ r. fact × (size ≡ r.length))
  rest_sends None fact size left sends = tt
  rest_sends (Some r) fact size left sends =
      let told = left_sends bare reply view r.from r.length left is (fact × (size ≡ length view.content)) sends in
      (told.0, told.1 ∙ sym (left_size bare reply view r.from r.length left is))

-- What is to be sent is the reply up to the rest of its content.
pub leaves_whole : (close bare : Bool) (reply : ReplyView) (rest : Rest) (output : List ℕ) → Leaves close bare reply rest output
    → reply_bytes close bare reply ≡ output ++ drop rest.from reply.content
leaves_whole close bare reply rest output is =
    let head = reply_head close (head_of reply) in
    ap (λ (none : Bool). head ++ cond none [] reply.content) is.sent
    ∙ ap (λ (t : List ℕ). head ++ t) (sym (take-append-drop rest.from reply.content))
    ∙ sym (append_assoc head (take rest.from reply.content) (drop rest.from reply.content))
    ∙ ap (λ (t : List ℕ). t ++ drop rest.from reply.content) (sym is.output_is)

pub leaves_stopped : (close bare : Bool) (reply : ReplyView) (rest : Rest) (output : List ℕ) → Leaves close bare reply rest output
    → IsStopped (reply_bytes close bare reply) reply.content rest.from rest.length (Some []) (Some output)
leaves_stopped close bare reply rest output is = record {
  size_is = is.size_is;
  some = is.some;
  front = output;
  whole = leaves_whole close bare reply rest output is;
  written = refl;
}

-- What is to be sent of a reply are its first bytes.
pub begins_reply : (close bare : Bool) (reply : ReplyView) (rest : Option Rest) (output : List ℕ) → IsToSend close bare reply rest output
    → (behind : List ℕ) × (reply_bytes close bare reply ≡ output ++ behind)
begins_reply close bare reply None output is = ([], sym is ∙ sym (append-nil output))
begins_reply close bare reply (Some rest) output is =
    (drop rest.from reply.content, leaves_whole close bare reply rest output is)

-- The same of a reply of whose content another rest was read.
pub leaves_later : (close bare : Bool) (reply later : ReplyView) (rest : Rest) (output : List ℕ) → Leaves close bare reply rest output
    → IsLater rest.from reply later → reply_bytes close bare later ≡ output ++ drop rest.from later.content
leaves_later close bare reply later rest output is next =
    leaves_whole close bare later rest output (record {
      size_is = is.size_is ∙ sym next.size;
      some = is.some;
      sent = ap (λ (v : ReplyView). bare || has_no_content v.status) next.same ∙ is.sent;
      output_is =
          is.output_is
          ∙ ap (λ (t : List ℕ). reply_head close (head_of reply) ++ t) (sym next.front)
          ∙ ap (λ (head : HeadView). reply_head close head ++ take rest.from later.content) (same_again later reply next);
    })
  where
    same_again : (later reply : ReplyView) → IsLater rest.from reply later → head_of reply ≡ head_of later
    same_again later reply next =
        ap (λ (n : ℕ). record (head_of reply) { size = n }) (sym next.size)
        ∙ ap (λ (v : ReplyView). record (head_of v) { size = length later.content }) (sym next.same)
