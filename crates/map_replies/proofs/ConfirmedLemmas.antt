-- Replies of a map whose edits are to be on two machines.
use Rattle.std.proofs.Common.{◌≡◌, ◌⊎◌, inl, inr, ℕ, List, [], ◌++◌, Bool, true, false, Option, Result, Ok, Err, refl, sym, ap, subst, ◌∙◌, length, take}
use Rattle.std.specs.Prelude.{◌-◌, ◌&&◌, OnOk, OnErr}
use Rattle.std.proofs.lemmas.Bool.{false≢true}
use Rattle.http_requests.specs.Requests.{RequestView}
use Rattle.http_serve.specs.Reply.{ReplyView, IsReply, InParts, reply_view, content_bytes, with_part}
use Rattle.http_serve.specs.declared.replies.Content.{Content}
use Rattle.http_serve.specs.declared.replies.Content.TheVariants.{Empty, Fixed, Whole, Shared, Spelled, Parts}
use Rattle.http_serve.specs.declared.replies.Reply.{Reply}
use Rattle.http_serve.proofs.HandlerLemmas.{none_in_parts, whole_reply}
use Rattle.sector_disk.specs.Disk.{History}
use Rattle.tile_service.specs.Service.{ServiceView}
use Rattle.map_replies.specs.Confirming.{HasEnd, KeepsHeld, MayAnswer, is_to_edit, last_of, made_by, standby_end, with_end}
use Rattle.map_replies.specs.Preparing.{PreparingSends, inner_service}
use Rattle.map_replies.specs.declared.confirming.ConfirmedReplies.{ConfirmedReplies}
use Rattle.map_replies.specs.declared.preparing.PreparingReplies.{PreparingReplies}

-- ---- the member of a status

-- a reply with the same content
pub ends_same : (confirmed : ℕ) (heard : Option ℕ) (reply : Reply) → HasEnd confirmed heard reply reply
ends_same confirmed heard reply = record { says = λ view is. (view, is, inl (refl, refl)); words = λ words. words }

bytes_whole : (content : Content) (parts : List ℕ) → InParts content ⊥ → content_bytes parts content ≡ content_bytes [] content
bytes_whole Empty parts none = refl
bytes_whole (Fixed text) parts none = refl
bytes_whole (Whole bytes) parts none = refl
bytes_whole (Shared bytes) parts none = refl
bytes_whole (Spelled bytes) parts none = refl
bytes_whole (Parts first size) parts none = absurd none

-- a reply with another content, neither of which is read in parts
pub ends_whole : (confirmed : ℕ) (heard : Option ℕ) (old : Reply) (content : Content) → InParts old.content ⊥ → InParts content ⊥
    → (content ≡ old.content) ⊎ (content_bytes [] content
    ≡ take (length (content_bytes [] old.content) - 1) (content_bytes [] old.content) ++ standby_end confirmed heard)
    → HasEnd confirmed heard old (record old { content = content })
ends_whole confirmed heard old content was none (inl same) =
    subst (λ (c : Content). HasEnd confirmed heard old (record old { content = c })) (sym same) (ends_same confirmed heard old)
ends_whole confirmed heard old content was none (inr is) = record {
  says = λ view shows.
      let held = content_bytes [] old.content in
      let there : view.content ≡ held = ap (λ (r : ReplyView). r.content) shows.0 ∙ bytes_whole old.content view.content was in
      let end = standby_end confirmed heard in (
        reply_view [] (record old { content = content }),
        whole_reply (record old { content = content }) none,
        inr (
          ap (λ (b : List ℕ). record (reply_view [] old) { content = b }) is
              ∙ sym (ap (λ (r : ReplyView). record r { content = take (length held - 1) held ++ end }) shows.0)
              ∙ ap (λ (b : List ℕ). record view { content = take (length b - 1) b ++ end }) (sym there),
          none,
        ),
      );
  words = λ words. words;
}

-- what is said by a reply with it
pub shown_so : (confirmed : ℕ) (heard : Option ℕ) (old new : Reply) (view : ReplyView) (Q fact : ReplyView → Type 0) → HasEnd confirmed heard old new
    → IsReply old view → InParts old.content (fact view)
    → ((shown : ReplyView) → (shown ≡ view) ⊎ (shown ≡ with_end (standby_end confirmed heard) view) → Q shown)
    → (shown : ReplyView) × IsReply new shown × Q shown × InParts new.content (fact shown)
shown_so confirmed heard old new view Q fact ends is parts says = of (ends.says view is)
  where
    Shows : Type 0
    Shows = (shown : ReplyView) × IsReply new shown
        × (((shown ≡ view) × (new.content ≡ old.content)) ⊎ ((shown ≡ with_end (standby_end confirmed heard) view) × InParts new.content ⊥))

    of : Shows → (shown : ReplyView) × IsReply new shown × Q shown × InParts new.content (fact shown)
    of (shown, shows, inl same) = (
      shown,
      shows,
      says shown (inl same.0),
      subst (λ (v : ReplyView). InParts new.content (fact v)) (sym same.0)
          (subst (λ (c : Content). InParts c (fact view)) (sym same.1) parts),
    )
    of (shown, shows, inr more) = (shown, shows, says shown (inr more.0), none_in_parts new.content (fact shown) more.1)

-- ---- an answer

pub may_answer : (away edits : Bool) → away && edits ≡ false → away ≡ true → edits ≡ false
may_answer true edits is away = is
may_answer false edits is away = absurd (false≢true away)

pub both_true : (away edits : Bool) → away && edits ≡ true → (away ≡ true) × (edits ≡ true)
both_true true edits is = (refl, is)
both_true false edits is = absurd (false≢true is)

module _ {D : Type 0} (sectors : D → ℕ) (honest : D → Type 0) (history : D → History) (faults : D → ℕ) where
  -- a content that is read in parts leaves the last edit
  pub sends_last : (old : PreparingReplies D) (request : RequestView) (reply : ReplyView) (new : PreparingReplies D)
      → PreparingSends sectors honest history faults old request reply new → (inner_service new).journal.last ≡ (inner_service old).journal.last
  sends_last old request reply new is = ap (λ (s : ServiceView D). s.journal.last) is.1.0.3.1.1.sends.reads.changes.same

-- so what an answer made is the same after a part was read
pub keeps_on : {D : Type 0} (old mid new : ConfirmedReplies D) → KeepsHeld old mid → new.standbys ≡ mid.standbys → last_of mid ≡ last_of old
    → last_of new ≡ last_of old → KeepsHeld old new
keeps_on old mid new keeps same before after = record {
  confirmed = ap (λ s. s.confirmed) same ∙ keeps.confirmed;
  made = ap (λ s. s.made) same ∙ keeps.made ∙ ap (made_by (last_of old)) (before ∙ sym after);
}

pub on_ok_of : {A E : Type 0} (r : Result A E) (P Q : Type 0) → (P → Q) → OnOk r P → OnOk r Q
on_ok_of (Ok a) P Q f is = f is
on_ok_of (Err e) P Q f is = tt

pub on_err_of : {A E : Type 0} (r : Result A E) (P Q : Type 0) → (P → Q) → OnErr r P → OnErr r Q
on_err_of (Ok a) P Q f is = tt
on_err_of (Err e) P Q f is = f is
