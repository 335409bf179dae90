-- What a read does to known bytes.
use Rattle.std.proofs.Common.{ℕ, List, [], Option, None, Some, sym}
use Rattle.std.specs.Io.KnownBytes.{Consumes, Keeps}

-- Nothing was read of them.
pub consumes_kept : (u v : Option (List ℕ)) → Keeps u v → Consumes u v []
consumes_kept None v x = tt
consumes_kept (Some xs) None x = absurd x
consumes_kept (Some xs) (Some ys) x = sym x
