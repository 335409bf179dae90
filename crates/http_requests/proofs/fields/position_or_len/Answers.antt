use Rattle.std.proofs.Common.{◌==◌, ℕ, sym}
use Rattle.http_requests.proofs.FieldLemmas.{no_index}
use Rattle.http_requests.proofs.fields.position_or_len.Goals as goal

pub returns-in-None-clause-index : goal.returns-in-None-clause-index
returns-in-None-clause-index c = no_index (λ (byte : ℕ). byte == c.args.wanted) c.args.bytes.now (sym c.in-None.ensures)
