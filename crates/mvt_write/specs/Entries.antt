-- The entries of a pool.
use Rattle.std.specs.Prelude.{ℕ, List}
use Rattle.mvt_write.specs.declared.entries.Entries.{Entries}
use Rattle.mvt_write.specs.Spans.{each_spanned}

-- entries without where they lie in memory
abbrev pub entries_of : Entries → List (List ℕ)
entries_of entries = each_spanned entries.bytes.items entries.spans.items
