-- The test of UTF-8.
use Rattle.std.proofs.Common.{◌≡◌, ℕ, true, false, List, refl}
use Rattle.std.proofs.lemmas.Str.{IsUtf8-from_is_utf8, is_utf8-from_IsUtf8}
use Rattle.std.specs.Str.{IsUtf8, is_utf8}

pub is_utf8-text : (bytes : List ℕ) → IsUtf8 bytes → is_utf8 bytes ≡ true
is_utf8-text bytes h = is_utf8-from_IsUtf8 bytes h

pub is_utf8-other : (bytes : List ℕ) → ¬ IsUtf8 bytes → is_utf8 bytes ≡ false
is_utf8-other bytes h =
    elim (is_utf8 bytes) as (λ b. is_utf8 bytes ≡ b → b ≡ false) [ true ↦ λ e. absurd (h (IsUtf8-from_is_utf8 bytes e)) | false ↦ λ e. refl ] refl

pub ruleset utf8_tests = (is_utf8-text, is_utf8-other)
