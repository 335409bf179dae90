use Rattle.std.proofs.Common.{◌≡◌, ℕ, ◌+◌, ◌-◌, List, ◌++◌, take, drop, sym, ap, ap₂, ◌∙◌, append_assoc, arith}
use Rattle.std.specs.List.{flat_map}
use Rattle.std.proofs.lemmas.List.{drop-drop, take-append-drop}
use Rattle.std.proofs.lemmas.Grind.{flat_map-append}
use Rattle.mvt_write.specs.Entries.{entries_of}
use Rattle.mvt_write.specs.Written.{bytes_field}
use Rattle.mvt_write.proofs.ending.PoolRest.put_part.Goals as goal

-- the items between two places, and then those that are left
split_rest : (f : List ℕ → List ℕ) (items : List (List ℕ)) (from count : ℕ)
    → flat_map f (take (from + count - from) (drop from items)) ++ flat_map f (drop (from + count) items) ≡ flat_map f (drop from items)
split_rest f items from count =
    let rest = drop from items in
    let size : from + count - from ≡ count = omega arith in
    ap₂ (λ (n : ℕ) (left : List (List ℕ)). flat_map f (take n rest) ++ flat_map f left) size (sym (drop-drop count from items))
    ∙ sym (flat_map-append f (take count rest) (drop count rest)) ∙ ap (flat_map f) (take-append-drop count rest)

pub returns-clause-put : goal.returns-clause-put
returns-clause-put c =
    let rest = c.args.self.now in
    let field = bytes_field c.args.number in
    let entries = entries_of rest.entries in
    let out = c.args.out.now.items in
    let end = rest.done + c.min.result in
    let added = flat_map field (take (end - rest.done) (drop rest.done entries)) in
    let left = flat_map field (drop end entries) in
    ap (λ (bytes : List ℕ). bytes ++ left) c.in_ok-put_range.ensures
    ∙ append_assoc out added left ∙ ap (λ (bytes : List ℕ). out ++ bytes) (split_rest field entries rest.done c.min.result)
