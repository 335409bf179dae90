-- Bytes that are read without decompression.
use Rattle.std.specs.Prelude.{◌≡◌, ℕ, ◌⊎◌}
use Rattle.pm_header.specs.declared.compression.TheConstants.{UNKNOWN_COMPRESSION, NOT_COMPRESSED}

-- bytes of this compression are read as they are: they aren't compressed, or the archive doesn't say how
abbrev pub IsPlain : ℕ → Type 0
IsPlain compression = (compression ≡ UNKNOWN_COMPRESSION) ⊎ (compression ≡ NOT_COMPRESSED)
