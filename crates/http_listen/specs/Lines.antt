-- The lines of the log.
use Rattle.std.specs.Prelude.{ℕ, List, ◌++◌, ◌+◌, ◌-◌, ◌^◌, min, codes, decimal, Result, Ok, Err}
use Rattle.http_serve.specs.declared.connection.End.{End}
use Rattle.http_serve.specs.declared.connection.End.TheVariants.{Closed, Asked, Refused, Turns}
use Rattle.http_serve.specs.declared.connection.Served.{Served}
use Rattle.http_listen.specs.declared.ends.EndFault.{EndFault}
use Rattle.http_listen.specs.declared.ends.EndFault.TheVariants.{Memory, Read, Write, Device, Gone, Unconfirmed}

-- the word for an end
abbrev pub end_word : End → List ℕ
end_word Closed = codes "closed"
end_word Asked = codes "asked"
end_word Refused = codes "refused"
end_word Turns = codes "turns"

-- the word for what a connection came to
abbrev pub result_word : Result Served EndFault → List ℕ
result_word (Ok served) = end_word served.end
result_word (Err Memory) = codes "memory"
result_word (Err (Read requests)) = codes "read"
result_word (Err (Write requests)) = codes "write"
result_word (Err (Device requests)) = codes "device"
result_word (Err (Gone requests)) = codes "gone"
result_word (Err (Unconfirmed requests)) = codes "unconfirmed"

-- how many requests of a stretch got a whole reply
abbrev pub replied_requests : Result Served EndFault → ℕ
replied_requests (Ok served) = served.requests
replied_requests (Err Memory) = 0
replied_requests (Err (Read requests)) = requests
replied_requests (Err (Write requests)) = requests
replied_requests (Err (Device requests)) = requests
replied_requests (Err (Gone requests)) = requests
replied_requests (Err (Unconfirmed requests)) = requests

-- how many requests of a connection did: those of its last stretch, and the earlier ones, as far as 64 bits count
abbrev pub all_requests : (earlier : ℕ) → Result Served EndFault → ℕ
all_requests earlier result = min (replied_requests result + earlier) (2 ^ 64 - 1)

-- the line of a connection: its number, its requests, its end
unfoldable pub line_of : (number earlier : ℕ) → Result Served EndFault → List ℕ
line_of number earlier result =
    codes "connection " ++ (decimal number ++ (codes ": " ++ (decimal (all_requests earlier result)
    ++ (codes " requests, " ++ (result_word result ++ codes "\n")))))
