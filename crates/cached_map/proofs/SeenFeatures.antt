-- What was seen, compared with the map, one by one.
use Rattle.std.proofs.Common.{◌≡◌, ℕ, suc, ◌<◌, ◌≤◌, ◌+◌, List, ◌∷◌, ◌++◌, length, get_or, map, take, refl, sym, ap, subst, ◌∙◌}
use Rattle.std.specs.List.{All}
use Rattle.std.proofs.Math.ListN.{drop}
use Rattle.std.proofs.Math.Seq.{drop-cons}
use Rattle.std.proofs.lemmas.List.{map_more, map-append, take_all, take-append-drop}
use Rattle.std.proofs.lemmas.List.Elements.{All-push}
use Rattle.feature_model.specs.declared.seen.Seen.{Seen}
use Rattle.feature_model.specs.Seen.{seen_data}
use Rattle.feature_store.specs.Store.{FeatureMap}
use Rattle.cached_map.specs.Seen.{IsAsSeen, IsFirstChanged}

module _ (m : FeatureMap) (i : ℕ) (xs : List Seen) where
  -- one more is as it was seen
  pub same_step : (x : Seen) → i < length xs → x ≡ get_or xs i x → IsAsSeen m (seen_data x)
      → All (IsAsSeen m) (map seen_data (take i xs)) → All (IsAsSeen m) (map seen_data (take (i + 1) xs))
  same_step x l is same so_far = subst (All (IsAsSeen m)) (sym (map_more seen_data xs i x l))
      (All-push (IsAsSeen m) (map seen_data (take i xs)) (seen_data (get_or xs i x)) so_far (subst (λ s. IsAsSeen m (seen_data s)) is same))

  -- all of them are
  pub same_all : length xs ≤ i → All (IsAsSeen m) (map seen_data (take i xs)) → All (IsAsSeen m) (map seen_data xs)
  same_all le so_far = subst (λ ys. All (IsAsSeen m) (map seen_data ys)) (take_all i xs le) so_far

  -- the list in three parts
  parted : (x : Seen) → i < length xs → x ≡ get_or xs i x
      → map seen_data xs ≡ map seen_data (take i xs) ++ seen_data x ∷ map seen_data (drop (suc i) xs)
  parted x l is =
      ap (map seen_data) (sym (take-append-drop i xs)) ∙ map-append seen_data (take i xs) (drop i xs)
      ∙ ap (λ ys. map seen_data (take i xs) ++ map seen_data ys) (drop-cons xs i x l)
      ∙ ap (λ y. map seen_data (take i xs) ++ seen_data y ∷ map seen_data (drop (suc i) xs)) (sym is)

  -- the first that isn't
  pub first_is : (x : Seen) → i < length xs → x ≡ get_or xs i x → ¬ IsAsSeen m (seen_data x)
      → All (IsAsSeen m) (map seen_data (take i xs)) → IsFirstChanged m (map seen_data xs) x.id
  first_is x l is changed so_far = record {
    before = map seen_data (take i xs);
    seen = seen_data x;
    rest = map seen_data (drop (suc i) xs);
    is = parted x l is;
    number = refl;
    same = so_far;
    changed = changed;
  }
