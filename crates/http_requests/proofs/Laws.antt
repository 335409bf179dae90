-- Laws for the crates above.
use Rattle.std.proofs.Common.{◌≡◌, ◌≢◌, ℕ, List}
use Rattle.http_requests.specs.Requests.{Request, Ending, going, Requests}
use Rattle.http_requests.proofs.ReadingLemmas.{requests_unique}

-- Bytes that are all there is are read in one way only: as these requests, with this ending. So what a connection must
-- write is fixed by what is read.
pub one_reading : (bytes : List ℕ) (requests others : List Request) (ending other : Ending) → (ending ≢ going) → (other ≢ going)
    → Requests bytes requests ending → Requests bytes others other → (requests ≡ others) × (ending ≡ other)
one_reading = requests_unique
