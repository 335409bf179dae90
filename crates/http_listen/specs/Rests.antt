-- The rest of a content that a stretch left, and what ends a connection.
use Rattle.std.specs.Prelude.{◌≡◌, ℕ, Option, None, option_map, Result, Ok, Err, List}
use Rattle.std.specs.declared.alloc.AllocError.{AllocError}
use Rattle.http_serve.specs.declared.answers.Rest.{Rest}
use Rattle.http_serve.specs.declared.connection.Answer.{Answer}
use Rattle.http_serve.specs.declared.connection.Served.{Served}
use Rattle.http_serve.specs.declared.handlers.RestFault.{RestFault}
use Rattle.http_serve.specs.declared.handlers.RestFault.TheVariants.{Failed, Gone}
use Rattle.http_serve.specs.declared.handlers.Ticket.{Ticket}
use Rattle.http_listen.specs.declared.ends.EndFault.{EndFault}
use Rattle.http_listen.specs.declared.ends.EndFault.TheVariants as ends
use Rattle.http_listen.specs.declared.rests.Unsent.{Unsent}

-- what is left after a stretch, if its content has this ticket
abbrev pub rest_after : Ticket → Result Answer AllocError → Option Unsent
rest_after ticket (Ok answer) = option_map (λ (rest : Rest). record { ticket = ticket; at = rest.from; end = rest.length }) answer.rest
rest_after ticket (Err fault) = None

-- what a connection comes to after a stretch, once the rest that it left is sent too
abbrev pub once_sent : Result Answer AllocError → Result Served EndFault
once_sent (Ok answer) = Ok answer.served
once_sent (Err fault) = Err ends.Memory

-- what it comes to if a part of a rest can't be read
abbrev pub cut_by : RestFault → EndFault
cut_by Failed = ends.Device 0
cut_by Gone = ends.Gone 0

-- Why it ends at a part of a rest: this can't be read, or there is no memory for it.
abbrev pub EndsAt : Result (List ℕ) RestFault → EndFault → Type 0
EndsAt (Ok bytes) fault = fault ≡ ends.Memory
EndsAt (Err cause) fault = fault ≡ cut_by cause
