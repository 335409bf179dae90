-- The laws of a number, for what a function answers.
use Rattle.std.proofs.Common.{◌≡◌, ℕ, ◌≤◌, List, length, take, Result, Ok, Err, refl, ap}
use Rattle.std.specs.Prelude.{IfOk}
use Rattle.pb_wire.specs.declared.fault.FaultKind.{FaultKind}
use Rattle.pb_wire.specs.declared.fault.WireFault.{WireFault}
use Rattle.pb_wire.specs.Varint.{IsVarint, varint_at}
use Rattle.pb_wire.specs.Fault.{with_offset}
use Rattle.pb_wire.proofs.VarintLaws.{Read, found_is}

pub offset_found : (bytes : List ℕ) → IfOk (with_offset 0 (varint_at bytes)) (λ r. (r.1 ≤ length bytes) × IsVarint (take r.1 bytes) r.0)
offset_found bytes = go (varint_at bytes) refl
  where
    go : (read : Read) → varint_at bytes ≡ read → IfOk (with_offset 0 read) (λ r. (r.1 ≤ length bytes) × IsVarint (take r.1 bytes) r.0)
    go (Ok r) e = found_is bytes r.0 r.1 e
    go (Err kind) e = tt

abbrev fault_at : FaultKind → WireFault
fault_at kind = record { at = 0; kind = kind }

abbrev refused : {X : Type 0} → FaultKind → Result X WireFault
refused kind = Err (fault_at kind)

same_fault : {X : Type 0} (a b : FaultKind) → refused {X = X} a ≡ refused {X = X} b → fault_at a ≡ fault_at b
same_fault a b e = cc

pub offset_kind : {X : Type 0} (read : Result X FaultKind) (kind : FaultKind) → with_offset 0 read ≡ refused kind → read ≡ Err kind
offset_kind (Ok x) kind e = absurd cc
offset_kind {X} (Err other) kind e = ap (λ (w : WireFault). Err w.kind) (same_fault {X = X} other kind e)
