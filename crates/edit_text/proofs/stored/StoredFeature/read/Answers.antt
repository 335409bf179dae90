use Rattle.std.proofs.Common.{refl, sym}
use Rattle.std.proofs.lemmas.Bool.{false≢true}
use Rattle.std.proofs.lemmas.List.{length-take-le}
use Rattle.edit_text.proofs.StoredTexts.{begins_as, length_within, put_found, read_stored, read_found, read_len, read_only}
use Rattle.edit_text.proofs.stored.StoredFeature.read.Goals as goal

pub returns-then-not-is_put-clause-only : goal.returns-then-not-is_put-clause-only
returns-then-not-is_put-clause-only c = λ id f begins. absurd (false≢true (c.if-not-is_put.ensures.1 (begins_as id f c.args.text.now begins)))

pub returns-in_err-copy-clause-memory : goal.returns-in_err-copy-clause-memory
returns-in_err-copy-clause-memory c = λ _.
    let found = put_found c.args.text.now c.in_ok-len.len c.in_ok-len.ensures.found (c.if-not-is_put.ensures.0 refl) in
    (found.0, found.1, found.2)

pub invariant_of-result : goal.invariant_of-result
invariant_of-result c =
    read_stored c.args.text.now c.in_ok-copy.copy.items c.in_ok-len.len c.in_ok-len.ensures.found (c.if-not-is_put.ensures.0 refl) c.in_ok-copy.ensures

pub returns-clause-found : goal.returns-clause-found
returns-clause-found c =
    read_found c.args.text.now c.in_ok-copy.copy.items c.in_ok-len.len c.in_ok-len.ensures.found (c.if-not-is_put.ensures.0 refl) c.in_ok-copy.ensures

pub returns-clause-len : goal.returns-clause-len
returns-clause-len c =
    read_len c.args.text.now c.in_ok-copy.copy.items c.in_ok-len.len c.in_ok-len.ensures.found (c.if-not-is_put.ensures.0 refl) c.in_ok-copy.ensures

pub returns-clause-only : goal.returns-clause-only
returns-clause-only c =
    read_only c.args.text.now c.in_ok-copy.copy.items c.in_ok-len.len c.in_ok-len.ensures.found (c.if-not-is_put.ensures.0 refl) c.in_ok-copy.ensures

pub slice_bounds-copy_of-end : goal.slice_bounds-copy_of-end
slice_bounds-copy_of-end c =
    sym (length-take-le c.in_ok-len.len c.args.text.now (length_within c.args.text.now c.in_ok-len.len c.in_ok-len.ensures.found))

-- a text that is whole isn't cut

pub returns-then-not-is_put-clause-cut : goal.returns-then-not-is_put-clause-cut
returns-then-not-is_put-clause-cut c = ((λ e. absurd (cc)), (λ cut. let whole = c.in_ok-len.ensures.cut.1 cut in absurd (cc)))

pub returns-clause-cut : goal.returns-clause-cut
returns-clause-cut c = ((λ e. absurd (cc)), (λ cut. let whole = c.in_ok-len.ensures.cut.1 cut in absurd (cc)))
