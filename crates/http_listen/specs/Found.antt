-- What is to be done next for a connection.
use Rattle.std.specs.Prelude.{◌≡◌, List, [], None, Some, ⊤}
use Rattle.httparse.specs.declared.spans.HeaderSpan.{HeaderSpan}
use Rattle.http_listen.specs.declared.pool.Found.{Found}
use Rattle.http_requests.specs.Inputs.{IsAsked}
use Rattle.http_listen.specs.declared.pool.Found.TheVariants.{New, Asks, Reads, Nothing, Over}

-- Nothing waits to be sent of a connection whose bytes are to be answered, no content is left of its last reply, and it goes on after that; they are a
-- whole request, whose header fields are at these spans, or all there are. What is to be read of a content is what is left.
abbrev pub IsReady : {S : Type 0} → (fields : List HeaderSpan) → Found S → Type 0
IsReady fields (New stream) = ⊤
IsReady fields (Asks peer asked) =
    (peer.value.connection.output ≡ []) × (peer.value.state.unsent ≡ None) × (peer.value.state.outcome ≡ None)
    × IsAsked peer.value.connection.input peer.value.state.ended fields asked
IsReady fields (Reads peer unsent) = (peer.value.connection.output ≡ []) × (peer.value.state.unsent ≡ Some unsent)
IsReady fields Nothing = ⊤
IsReady fields Over = ⊤
