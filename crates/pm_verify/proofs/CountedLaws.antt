-- What entries count.
use Rattle.std.proofs.Common.{◌≡◌, ℕ, ◌&&◌, List, sym, ap, ◌∙◌, map}
use Rattle.std.specs.Ordering.{eq_by_cmp, nat_cmp}
use Rattle.std.specs.Cmp.{IsTotalOrder, tied_then, unsigned_tied, nat_cmp_total, then_total, on_total}
use Rattle.std.specs.BTreeSet.{BTreeSet, btree_set_len, IsFromIterResult}
use Rattle.std.specs.Set.{distinct_count}
use Rattle.std.proofs.lemmas.Map.Views.{btree_set_len-from_list}
use Rattle.pm_directory.specs.declared.entry.DirectoryEntry.{DirectoryEntry}
use Rattle.pm_directory.specs.Counts.{span_of, same_span, contents_of}
use Rattle.pm_verify.specs.VerifiedPieces.{span_cmp}

span_cmp_total : IsTotalOrder span_cmp
span_cmp_total = then_total (on_total (λ p. p.0) nat_cmp_total) (on_total (λ p. p.1) nat_cmp_total)

same_tests : (p q : ℕ × ℕ) → eq_by_cmp span_cmp p q ≡ same_span p q
same_tests p q = sym (tied_then (nat_cmp p.0 q.0) (nat_cmp p.1 q.1)) ∙ (λ i. unsigned_tied p.0 q.0 i && unsigned_tied p.1 q.1 i)

-- how many spans a set of those of the entries has
pub contents_counted : (es : List DirectoryEntry) (spans : BTreeSet (ℕ × ℕ)) → IsFromIterResult span_cmp (map span_of es) spans
    → btree_set_len spans ≡ contents_of es
contents_counted es spans made =
    btree_set_len-from_list span_cmp_total (map span_of es) spans made ∙ ap (λ eq. distinct_count eq (map span_of es)) (λ i p q. same_tests p q i)
