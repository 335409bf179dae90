-- What was done for the connections of a listener, by their numbers.
use Rattle.std.specs.Prelude.{◌≡◌, ◌<◌, ℕ, List, []}
use Rattle.http_listen.specs.Conversations.{Deed, acts_of, Follows}
use Rattle.http_listen.specs.Courses.{Course, fresh}

-- All was done for connections up to this number. The acts of each follow each other: nothing of it is answered or prepared while something of its last
-- reply's content is left, nor after a reply with which it ends; and what is fetched is the next bytes of that content, by the ticket of that reply.
pub record AreInOrder (count : ℕ) (deeds : List Deed) : Type 0 where
  pub each : (number : ℕ) → (course : Course) × Follows fresh (acts_of number deeds) course
  pub theirs : (number : ℕ) → count < number → acts_of number deeds ≡ []
