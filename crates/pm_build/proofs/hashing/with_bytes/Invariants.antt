use Rattle.std.proofs.Common.{◌≡◌, drop}
use Rattle.pm_build.specs.Hashing.{with_bytes}
use Rattle.pm_build.proofs.hashing.with_bytes.Given as goal

abbrev pub invariant-loop-byte : goal.invariant-loop-byte
invariant-loop-byte l = with_bytes l.hash (drop l.byte-index l.bytes) ≡ with_bytes l.initial.hash l.bytes
