-- Runs of neighbouring blocks, each with a span.
use Rattle.std.specs.Prelude.{◌≡◌, ℕ, ◌+◌, ◌*◌, ◌<◌, ◌≤◌, List, length, slice_index_or}
use Rattle.std.specs.Int.{div_ceil}
use Rattle.box_index.specs.declared.entry.IndexEntry.{IndexEntry}
use Rattle.box_index.specs.declared.span.Span.{Span}
use Rattle.box_index.specs.declared.runs.TheConstants.{RUN}
use Rattle.box_index.specs.Covers.{CoversAll}

-- of the blocks before this one, the span of its run covers the entries of each
abbrev pub AreCoveredTo : ℕ → List Span → List (List IndexEntry) → Type 0
AreCoveredTo n ss bs = (r k : ℕ) (s : Span) (b : List IndexEntry) → r * RUN ≤ k → k < r * RUN + RUN → k < n → k < length bs
    → CoversAll (slice_index_or ss r s) (slice_index_or bs k b)

-- each run has a span, which covers the entries of its blocks
pub record AreCovered (ss : List Span) (bs : List (List IndexEntry)) : Type 0 where
  pub count : length ss ≡ div_ceil (length bs) RUN
  pub covered : AreCoveredTo (length bs) ss bs
