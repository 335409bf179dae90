-- The reason phrases of status codes.
use Rattle.std.specs.Prelude.{ℕ, List, [], unwrap_or}
use Rattle.http.specs.StatusCode.{reason_phrase}

-- the reason phrase that http gives to a status code (RFC 9110, 15), or nothing
unfoldable pub phrase_of : ℕ → List ℕ
phrase_of status = unwrap_or (reason_phrase status) []
