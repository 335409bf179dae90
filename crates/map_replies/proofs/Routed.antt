-- The reply to a request, by what was done for its path and its method.
use Rattle.std.proofs.Common.{◌≡◌, inl, inr, ℕ, List, [], Result, Ok, Err, length, refl, sym, ap, subst, ◌∙◌}
use Rattle.std.proofs.lemmas.Bool.{false≢true}
use Rattle.http_requests.specs.Requests.{RequestView}
use Rattle.http_serve.specs.Reply.{ReplyView, IsReply, InParts, IsWhole, reply_view}
use Rattle.http_serve.specs.declared.replies.Reply.{Reply}
use Rattle.http_serve.proofs.PartLemmas.{in_parts}
use Rattle.sector_disk.specs.Disk.{History}
use Rattle.tile_routes.specs.declared.fault.RouteFault.{RouteFault}
use Rattle.tile_routes.specs.declared.method.Method.{Method}
use Rattle.tile_routes.specs.Methods.{method_on}
use Rattle.tile_routes.specs.Paths.{Asked}
use Rattle.map_replies.specs.declared.calls.Calls.{Calls}
use Rattle.map_replies.specs.declared.fault.RequestFault.{RequestFault}
use Rattle.map_replies.specs.declared.service.MapReplies.{MapReplies}
use Rattle.map_replies.specs.Conditions.{AskView, ask_of}
use Rattle.map_replies.specs.Meanings.{AnswersMethod, asked_for}
use Rattle.map_replies.specs.Sending.{IsAnsweredInParts, SendsMethod}
use Rattle.map_replies.specs.State.{access_of, tags_of, asked_service, sending_size, ServiceReplies, ServiceSends}
use Rattle.map_replies.specs.Tickets.{KeepsTickets, KeepsOldest, KeepsArchives, asks_to_step}
use Rattle.map_replies.specs.Words.{refusal_of}
use Rattle.map_replies.proofs.SendingLemmas.{whole_is, sent_size}

-- what holds of the target and its method holds of the path and the method's name
by_path : (P : Asked → Result Method RouteFault → Type 0) (name : List ℕ) (target path : Asked) (method : Result Method RouteFault)
    → method ≡ method_on name target → target ≡ path → P target method → P path (method_on name path)
by_path P name target path method is same holds =
    subst (λ (a : Asked). P a (method_on name a)) same (subst (P target) is holds)

module _ {D : Type 0} (sectors : D → ℕ) (honest : D → Type 0) (history : D → History) (faults : D → ℕ) where
  -- the reply to a request, as a handler promises it
  abbrev pub Replied : MapReplies D → RequestView → Reply → MapReplies D → Type 0
  Replied old request result new = (reply : ReplyView) × IsReply result reply × ServiceReplies sectors honest history faults old request reply new
      × InParts result.content (ServiceSends sectors honest history faults old request reply new × (sending_size new ≡ length reply.content))

  module _ (old : MapReplies D) (request : RequestView) (calls : Calls D) (target : Asked) (method : Result Method RouteFault)
      (method_is : method ≡ method_on request.method target) (target_is : target ≡ asked_for (access_of old) request)
      (held : KeepsTickets honest history old.calls calls) where
    abbrev the_ask : AskView
    the_ask = ask_of (tags_of old) request

    abbrev AnswersAs : Asked → Result Method RouteFault → ReplyView → Type 0
    AnswersAs a m view = AnswersMethod sectors honest history faults a m the_ask request.body (asked_service old) calls.service view

    abbrev SendsAs : Asked → Result Method RouteFault → ReplyView → Type 0
    SendsAs a m view = SendsMethod sectors honest history faults a m the_ask (asked_service old) calls.sending calls.service view

    -- which archives can be read then, by the path and whatever bytes are read for the reply
    keeps_on : (status : ℕ) (result : Reply) → (reply_view [] result).status ≡ status → KeepsArchives target (Ok result) old.calls calls
        → KeepsOldest (asked_for (access_of old) request) status old.calls calls
    keeps_on status result is keeps =
        subst (λ (n : ℕ). KeepsOldest (asked_for (access_of old) request) n old.calls calls) is
        (subst (λ (a : Asked). KeepsOldest a (reply_view [] result).status old.calls calls) target_is keeps)

    -- a reply in parts is of the archive, and no step is asked for
    keeps_in_parts : (result : Reply) (view : ReplyView) → SendsAs target method view → KeepsArchives target (Ok result) old.calls calls
        → calls.oldest ≡ old.calls.oldest
    keeps_in_parts result view sent (inl same) = same
    keeps_in_parts result view sent (inr made) = absurd (false≢true (ap asks_to_step (sym sent.3.0) ∙ made.0))

    -- it was made
    pub replied : (result : Reply) → IsAnsweredInParts (AnswersAs target method) (SendsAs target method) (Ok result)
        → KeepsArchives target (Ok result) old.calls calls → Replied old request result (record old { calls = calls })
    replied result told keeps = (
      told.0,
      told.1,
      (
        by_path (λ a m. AnswersAs a m told.0) request.method target _ method method_is target_is told.2,
        refl,
        held,
        keeps_on told.0.status result (sym (ap (λ (v : ReplyView). v.status) told.1.0)) keeps,
      ),
      in_parts result.content _ _
          (λ sent. (
            (
              by_path (λ a m. SendsAs a m told.0) request.method target _ method method_is target_is sent,
              refl,
              held,
              keeps_in_parts result told.0 sent keeps,
            ),
            sent_size sectors honest history faults _ _ (asked_service old) _ calls.service told.0 sent.3.1.1,
          ))
          told.3,
    )

    -- it is a refusal
    pub refused : (fault : RequestFault) (result : Reply) → IsWhole result → reply_view [] result ≡ refusal_of fault
        → IsAnsweredInParts (AnswersAs target method) (SendsAs target method) (Err fault)
        → KeepsArchives target (Err fault) old.calls calls → Replied old request result (record old { calls = calls })
    refused fault result whole is told same =
        whole_is (λ view. ServiceReplies sectors honest history faults old request view (record old { calls = calls })) _ result whole (
          subst (λ (view : ReplyView). AnswersAs (asked_for (access_of old) request) (method_on request.method (asked_for (access_of old) request)) view)
              (sym is)
              (by_path (λ a m. AnswersAs a m (refusal_of fault)) request.method target _ method method_is target_is told),
          refl,
          held,
          inl same,
        )
