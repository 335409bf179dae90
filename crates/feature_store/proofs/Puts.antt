-- How many of some changes set a feature.
use Rattle.std.proofs.Common.{◌≡◌, ℕ, ◌+◌, ◌<◌, ◌≤◌, List, [], ◌∷◌, ◌++◌, length, get_or, map, take, sym, ap, ◌∙◌, arith}
use Rattle.std.proofs.lemmas.List.{map_more, take_all}
use Rattle.feature_model.specs.Data.{ChangeData, put, delete}
use Rattle.feature_store.specs.declared.prepared.Prepared.{Prepared}
use Rattle.feature_store.specs.Prepared.{prepared_data}
use Rattle.feature_store.specs.Store.{puts_in}

puts_on : (cs : List ChangeData) (c : ChangeData) → puts_in (cs ++ c ∷ []) ≡ puts_in cs + puts_in (c ∷ [])
puts_on [] c = omega arith
puts_on (put id f ∷ cs) c = omega (arith, puts_on cs c)
puts_on (delete id ∷ cs) c = puts_on cs c

-- one more
pub puts_more : (xs : List Prepared) (i : ℕ) (x : Prepared) → i < length xs → x ≡ get_or xs i x
    → puts_in (map prepared_data (take (i + 1) xs)) ≡ puts_in (map prepared_data (take i xs)) + puts_in (prepared_data x ∷ [])
puts_more xs i x l is =
    ap puts_in (map_more prepared_data xs i x l) ∙ puts_on (map prepared_data (take i xs)) (prepared_data (get_or xs i x))
    ∙ ap (λ y. puts_in (map prepared_data (take i xs)) + puts_in (prepared_data y ∷ [])) (sym is)

pub puts_all : (xs : List Prepared) (i : ℕ) → length xs ≤ i → puts_in (map prepared_data (take i xs)) ≡ puts_in (map prepared_data xs)
puts_all xs i le = ap (λ ys. puts_in (map prepared_data ys)) (take_all i xs le)
