-- Spans that have the whole of others.
use Rattle.std.proofs.Common.{ℕ, ◌+◌, ◌<◌, List, length, get_or, take, arith}
use Rattle.std.proofs.lemmas.List.Elements.{All-weaker, All-more}
use Rattle.box_index.specs.declared.span.Span.{Span}
use Rattle.box_index.specs.declared.entry.IndexEntry.{IndexEntry}
use Rattle.box_index.specs.Covers.{Covers, CoversAll}

-- what is within a part is within the whole
pub covers_part : (a b c : Span) → Covers a b → Covers b c → Covers a c
covers_part a b c ab bc = record { left = omega arith; right = omega arith; top = omega arith; bottom = omega arith; first = omega arith; last = omega arith }

pub covers_all_part : (a b : Span) (es : List IndexEntry) → Covers a b → CoversAll b es → CoversAll a es
covers_all_part a b es ab all = All-weaker (λ e. Covers b e.span) (λ e. Covers a e.span) (λ e h. covers_part a b e.span ab h) es all

-- one entry more, and a wider span
pub covers_all_more : (a b : Span) (es : List IndexEntry) (i : ℕ) (d : IndexEntry) → i < length es → Covers a b → Covers a (get_or es i d).span
    → CoversAll b (take i es)
    → CoversAll a (take (i + 1) es)
covers_all_more a b es i d lt ab ae all = All-more (λ x. Covers a x.span) es i d lt (covers_all_part a b (take i es) ab all) ae
