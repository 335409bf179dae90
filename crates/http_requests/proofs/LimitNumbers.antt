-- The limits of a request, as numbers.
use Rattle.std.proofs.Common.{◌≡◌, refl}
use Rattle.http_requests.specs.declared.fields.TheConstants.{MAX_BODY}
use Rattle.http_requests.specs.declared.frames.TheConstants.{MAX_HEAD, MAX_FIELDS, MAX_REQUEST}

max_head_is : MAX_HEAD ≡ 8192
max_head_is = refl

max_fields_is : MAX_FIELDS ≡ 32
max_fields_is = refl

max_body_is : MAX_BODY ≡ 65536
max_body_is = refl

max_request_is : MAX_REQUEST ≡ 73728
max_request_is = refl
