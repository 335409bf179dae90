-- For what answers requests.
use Rattle.std.proofs.Common.{◌≡◌, List, ℕ, [], refl, ap}
use Rattle.http_serve.specs.declared.replies.Content.{Content}
use Rattle.http_serve.specs.declared.replies.Content.TheVariants.{Empty, Fixed, Whole, Shared, Spelled, Parts}
use Rattle.http_serve.specs.declared.replies.Reply.{Reply}
use Rattle.http_serve.specs.Reply.{content_bytes, reply_view, FitsParts, IsReply, InParts}

same_bytes : (content : Content) (parts : List ℕ) → content_bytes parts content ≡ content_bytes (content_bytes parts content) content
same_bytes Empty parts = refl
same_bytes (Fixed text) parts = refl
same_bytes (Whole bytes) parts = refl
same_bytes (Shared bytes) parts = refl
same_bytes (Spelled bytes) parts = refl
same_bytes (Parts first size) parts = refl

same_fits : (content : Content) (parts : List ℕ) → FitsParts parts content → FitsParts (content_bytes parts content) content
same_fits Empty parts fits = tt
same_fits (Fixed text) parts fits = tt
same_fits (Whole bytes) parts fits = tt
same_fits (Shared bytes) parts fits = tt
same_fits (Spelled bytes) parts fits = tt
same_fits (Parts first size) parts fits = fits

-- what a reply says whose content is read in parts as these bytes
pub shown_reply : (reply : Reply) (parts : List ℕ) → FitsParts parts reply.content → IsReply reply (reply_view parts reply)
shown_reply reply parts fits = (
  ap (λ (bytes : List ℕ). record (reply_view [] reply) { content = bytes }) (same_bytes reply.content parts),
  same_fits reply.content parts fits,
)

fits_none : (content : Content) (parts : List ℕ) → InParts content ⊥ → FitsParts parts content
fits_none Empty parts none = tt
fits_none (Fixed text) parts none = tt
fits_none (Whole bytes) parts none = tt
fits_none (Shared bytes) parts none = tt
fits_none (Spelled bytes) parts none = tt
fits_none (Parts first size) parts none = absurd none

-- what a reply says whose content isn't read in parts
pub whole_reply : (reply : Reply) → InParts reply.content ⊥ → IsReply reply (reply_view [] reply)
whole_reply reply none = shown_reply reply [] (fits_none reply.content [] none)

-- any fact about content read in parts holds if none is read in parts
pub none_in_parts : (content : Content) (fact : Type 0) → InParts content ⊥ → InParts content fact
none_in_parts Empty fact none = tt
none_in_parts (Fixed text) fact none = tt
none_in_parts (Whole bytes) fact none = tt
none_in_parts (Shared bytes) fact none = tt
none_in_parts (Spelled bytes) fact none = tt
none_in_parts (Parts first size) fact none = absurd none
