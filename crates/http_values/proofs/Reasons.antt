-- The reason phrases of statuses are short.
use Rattle.std.proofs.Common.{◌≤◌, length, lit≤}
use Rattle.http_values.specs.Codes.{code_of}
use Rattle.http_values.specs.Phrases.{phrase_of}
use Rattle.http_values.specs.declared.status.Status.{Status}
use Rattle.http_values.specs.declared.status.Status.TheVariants as statuses

pub is_short : (status : Status) → length (phrase_of (code_of status)) ≤ 32
unfolding phrase_of
is_short statuses.Ok = lit≤ tt
is_short statuses.NoContent = lit≤ tt
is_short statuses.PartialContent = lit≤ tt
is_short statuses.NotModified = lit≤ tt
is_short statuses.BadRequest = lit≤ tt
is_short statuses.NotFound = lit≤ tt
is_short statuses.MethodNotAllowed = lit≤ tt
is_short statuses.Conflict = lit≤ tt
is_short statuses.Gone = lit≤ tt
is_short statuses.PreconditionFailed = lit≤ tt
is_short statuses.PayloadTooLarge = lit≤ tt
is_short statuses.RangeNotSatisfiable = lit≤ tt
is_short statuses.ExpectationFailed = lit≤ tt
is_short statuses.InternalServerError = lit≤ tt
is_short statuses.NotImplemented = lit≤ tt
is_short statuses.ServiceUnavailable = lit≤ tt
is_short statuses.InsufficientStorage = lit≤ tt
