-- Keys in order, each before the next.
use Rattle.std.proofs.Common.{◌≡◌, ℕ, zero, suc, ◌+◌, ◌<◌, List, [], ◌∷◌, length, get_or, map, refl, sym, false, Ordering, arith}
use Rattle.std.specs.Ordering.{nat_cmp}
use Rattle.std.specs.declared.cmp.Ordering.TheVariants.{Less}
use Rattle.std.specs.Cmp.Lexicographic.{slice_cmp, nat_list_cmp_total}
use Rattle.std.specs.String.{string_bytes}
use Rattle.std.specs.Ordering.{is_lt}
use Rattle.std.proofs.lemmas.Bool.{false≢true}
use Rattle.std.proofs.lemmas.List.{length-map, get_or_default}
use Rattle.std.proofs.lemmas.Map.Keys.{Less-from_sorted, sorted_from_all_adjacent}
use Rattle.feature_model.specs.declared.feature.Tag.{Tag}
use Rattle.feature_model.specs.Data.{tag_data}
use Rattle.feature_model.specs.Limits.{HasAscendingKeys, keys_of}

-- how the keys of two tags compare
abbrev pub key_cmp : Tag → Tag → Ordering
key_cmp t u = slice_cmp nat_cmp (string_bytes t.key) (string_bytes u.key)

key_at : (tags : List Tag) (k : ℕ) (d : Tag) → get_or (keys_of (map tag_data tags)) k (string_bytes d.key) ≡ string_bytes (get_or tags k d).key
key_at [] k d = refl
key_at (t ∷ ts) zero d = refl
key_at (t ∷ ts) (suc k) d = key_at ts k d

length_keys : (tags : List Tag) → length (keys_of (map tag_data tags)) ≡ length tags
length_keys tags = simp length-map

pub ascending_from_neighbours : (tags : List Tag) → ((k : ℕ) (d : Tag) → k + 1 < length tags → key_cmp (get_or tags k d) (get_or tags (k + 1) d) ≡ Less)
    → HasAscendingKeys (map tag_data tags)
ascending_from_neighbours [] h = sorted_from_all_adjacent nat_list_cmp_total [] [] (λ k l. absurd (omega arith))
ascending_from_neighbours (t ∷ ts) h =
    sorted_from_all_adjacent nat_list_cmp_total (keys_of (map tag_data (t ∷ ts))) (string_bytes t.key)
    (λ k l. rw (key_at (t ∷ ts) k t, key_at (t ∷ ts) (k + 1) t) (h k t (omega (arith, length_keys (t ∷ ts)))))

pub neighbours_from_ascending : (tags : List Tag) (k : ℕ) (d : Tag) → HasAscendingKeys (map tag_data tags) → k + 1 < length tags
    → key_cmp (get_or tags k d) (get_or tags (k + 1) d) ≡ Less
neighbours_from_ascending tags k d h l =
    let less = Less-from_sorted (slice_cmp nat_cmp) (keys_of (map tag_data tags)) k (k + 1) (string_bytes d.key) h (omega arith)
    (omega (arith, length_keys tags)) in
    rw (key_at tags k d, key_at tags (k + 1) d) at less

-- a key that does not come before the next one
pub not_ascending : (tags : List Tag) (k i : ℕ) (a b : Tag) → i ≡ k + 1 → i < length tags → a ≡ get_or tags k a → b ≡ get_or tags i b
    → is_lt (key_cmp a b) ≡ false → HasAscendingKeys (map tag_data tags) → ⊥
not_ascending tags k i a b e l ea eb f h =
    let less = neighbours_from_ascending tags k a h (omega arith) in
    let there : get_or tags (k + 1) a ≡ b = cc (get_or_default tags i a b l) in
    let less' : key_cmp a b ≡ Less = cc (less, there) in
    false≢true (sym (rw less' at f))
