-- What the check of a change answers, in terms of what is at the start.
use Rattle.std.proofs.Common.{◌≡◌, ◌≢◌, ℕ, ◌-◌, ◌≤◌, List, length, Result, Ok, Err, min, sym, ap, ◌∙◌, arith}
use Rattle.std.specs.Prelude.{◌↔◌}
use Rattle.reader.proofs.Steps.{failed, same_fault, not_both}
use Rattle.feature_model.specs.declared.limits.TheConstants.{MAX_EDIT_BYTES}
use Rattle.feature_model.specs.Data.{ChangeData}
use Rattle.feature_model.specs.Spelled.{spelled_change}
use Rattle.edit_text.specs.declared.fault.TextFault.{TextFault}
use Rattle.edit_text.specs.declared.fault.TextFault.TheVariants.{Cut, Bad, Memory}
use Rattle.edit_text.specs.Decoding.{BeginsWithChange, IsCutChange}
use Rattle.edit_text.specs.Reading.{decode_change_at}
use Rattle.edit_text.proofs.Codecs.{AreBytes}
use Rattle.edit_text.proofs.Decoded.{ok_only, ok_not_cut}
use Rattle.edit_text.proofs.Laws.{limited_change}
use Rattle.edit_text.proofs.NoMemory.{decode_no_memory}

module _ (bytes rest : List ℕ) (are : AreBytes bytes) (read : (c : ChangeData) × (decode_change_at bytes ≡ Ok (c, rest))) where
  pub checked_room : length rest ≤ min (length bytes) MAX_EDIT_BYTES
  checked_room = omega (arith, (limited_change.found bytes read.0 rest are read.1).1)

  module _ (most len : ℕ) (most_is : most ≡ min (length bytes) MAX_EDIT_BYTES) (len_is : len ≡ most - length rest) where
    len_same : len ≡ length (spelled_change read.0)
    len_same = omega (arith, (limited_change.found bytes read.0 rest are read.1).1, most_is, len_is)

    pub checked_found : (c : ChangeData) × BeginsWithChange c bytes × (len ≡ length (spelled_change c))
    checked_found = (read.0, (limited_change.found bytes read.0 rest are read.1).0, len_same)

    pub checked_only : (c : ChangeData) → BeginsWithChange c bytes → len ≡ length (spelled_change c)
    checked_only c begins = len_same ∙ ap (λ d. length (spelled_change d)) (ok_only limited_change bytes read.0 rest read.1 c begins)

  pub checked_not_cut : ¬ IsCutChange bytes
  checked_not_cut cut = ok_not_cut limited_change bytes read.0 rest read.1 cut

module _ {T : Type 0} (bytes : List ℕ) (fault : TextFault) (r : Result T TextFault) (told : r ≡ Err fault) (read : decode_change_at bytes ≡ Err fault) where
  told_is : (d : TextFault) → r ≡ Err d → fault ≡ d
  told_is d is = same_fault fault d (sym told ∙ is)

  pub fault_no_text : (c : ChangeData) → ¬ BeginsWithChange c bytes
  fault_no_text c begins =
      let found = limited_change.only bytes c begins in
      not_both (c, found.0) fault (sym found.1 ∙ read)

  pub fault_cut : AreBytes bytes → (r ≡ Err Cut) ↔ IsCutChange bytes
  fault_cut are = (
    λ is. limited_change.cut bytes are (read ∙ ap failed (told_is Cut is)),
    λ cut. told ∙ ap failed (same_fault fault Cut (sym read ∙ limited_change.ends bytes cut)),
  )

  pub fault_memory : r ≢ Err Memory
  fault_memory is = decode_no_memory bytes (read ∙ ap failed (told_is Memory is))

  pub fault_bad : r ≡ Err Bad → ¬ IsCutChange bytes × ((c : ChangeData) → ¬ BeginsWithChange c bytes)
  fault_bad is =
      (λ cut. let bad = read ∙ ap failed (told_is Bad is) in let other = limited_change.ends bytes cut in cc, fault_no_text)
