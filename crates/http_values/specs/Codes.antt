-- The codes of statuses.
use Rattle.std.specs.Prelude.{ℕ}
use Rattle.http_values.specs.declared.status.Status.{Status}
use Rattle.http_values.specs.declared.status.Status.TheVariants as statuses

-- the code of a status (RFC 9110, 15; RFC 4918, 11.5)
abbrev pub code_of : Status → ℕ
code_of statuses.Ok = 200
code_of statuses.NoContent = 204
code_of statuses.PartialContent = 206
code_of statuses.NotModified = 304
code_of statuses.BadRequest = 400
code_of statuses.NotFound = 404
code_of statuses.MethodNotAllowed = 405
code_of statuses.Conflict = 409
code_of statuses.Gone = 410
code_of statuses.PreconditionFailed = 412
code_of statuses.PayloadTooLarge = 413
code_of statuses.RangeNotSatisfiable = 416
code_of statuses.ExpectationFailed = 417
code_of statuses.InternalServerError = 500
code_of statuses.NotImplemented = 501
code_of statuses.ServiceUnavailable = 503
code_of statuses.InsufficientStorage = 507
