-- What is kept at a place, where the order changes or some go.
use Rattle.std.proofs.Common.{◌≡◌, ℕ, zero, suc, ◌+◌, ◌-◌, ◌<◌, ◌≤◌, Bool, true, false, cond, ◌&&◌, ◌⊎◌, List, [], ◌∷◌, length, take, map, Option}
use Rattle.std.proofs.Common.{Some, None, refl, sym, ap, subst, ◌∙◌, inl, inr, arith}
use Rattle.std.proofs.lemmas.List.{length-take, length-map, take_all}
use Rattle.std.proofs.lemmas.List.Sums.{sum_by-cons}
use Rattle.std.proofs.lemmas.Map.Made.{lookup-map_values}
use Rattle.std.specs.Map.{lookup, lookup_entry, remove_entry}
use Rattle.std.specs.Option.{option_map_or}
use Rattle.std.specs.Prelude.{option_map, slice_get, sum_by}
use Rattle.std.specs.Rc.{rc_slice_items}
use Rattle.std.proofs.lemmas.Bool.{eqb-true, eq-eqb, le-leb, lt-leb}
use Rattle.lru.specs.LruCache.{LruCache, lru_cache, last_entry, promoted, put_entries, displaced}
use Rattle.lru.proofs.CallerLemmas.{Contains-lookup_entry}
use Rattle.tile_cache.specs.declared.cached_tiles.TileKey.{TileKey}
use Rattle.tile_cache.specs.declared.cached_tiles.CachedTile.{CachedTile}
use Rattle.tile_cache.specs.Entries.{bytes_of, IsFirstSmall, IsFront}
use Rattle.tile_cache.specs.declared.cached_tiles.TheConstants.{MAX_CACHED_BYTES, MAX_CACHED_TILES, MAX_TILE_BYTES}
use Rattle.tile_cache.specs.Kept.{TileView, CacheView, tile_view, is_place, kept_at, counts, fresh, bytes_in, IsSmall, KeepsSame, KeepsOthers, KeepsFewer}

module _ {K V : Type 0} (test other : K → Bool) where
  -- the first entry of one test, which another test doesn't pass, goes
  pub lookup_without : (es : List (K × V)) → ((k : K) → test k ≡ true → other k ≡ false) → lookup other (remove_entry test es) ≡ lookup other es
  lookup_without [] apart = refl
  lookup_without (e ∷ es) apart = (elim (test e.0) as (λ b. test e.0 ≡ b → lookup other (remove_entry test (e ∷ es)) ≡ lookup other (e ∷ es)) [
    | true ↦ λ is. rw (is, apart e.0 is) refl
    | false ↦ λ is. rw is (stays (other e.0) (lookup_without es apart))
  ]) refl
    where
      stays : (b : Bool) → lookup other (remove_entry test es) ≡ lookup other es
          → ◌≡◌ {A = Option V} (cond b (Some e.1) (lookup other (remove_entry test es))) (cond b (Some e.1) (lookup other es))
      stays true same = refl
      stays false same = same

  -- of the first entries what was there, or nothing
  pub lookup_taken : (n : ℕ) (es : List (K × V)) → (lookup other (take n es) ≡ lookup other es) ⊎ (lookup other (take n es) ≡ None)
  lookup_taken zero es = inr refl
  lookup_taken (suc n) [] = inr refl
  lookup_taken (suc n) (e ∷ es) = go (other e.0) (lookup_taken n es)
    where
      go : (b : Bool) → (lookup other (take n es) ≡ lookup other es) ⊎ (lookup other (take n es) ≡ None)
          → (◌≡◌ {A = Option V} (cond b (Some e.1) (lookup other (take n es))) (cond b (Some e.1) (lookup other es)))
          ⊎ (◌≡◌ {A = Option V} (cond b (Some e.1) (lookup other (take n es))) None)
      go true rest = inl refl
      go false rest = rest

  -- another test finds the same where the first entry of one test goes to the front, whatever its value becomes
  pub lookup_front : (es : List (K × V)) (e : K × V) (v : V) → ((k : K) → test k ≡ true → other k ≡ false) → lookup_entry test es ≡ Some e
      → lookup other ((e.0, v) ∷ remove_entry test es) ≡ lookup other es
  lookup_front es e v apart is = rw (apart e.0 (Contains-lookup_entry test es e is).1) (lookup_without es apart)

  pub promoted_apart : (es : List (K × V)) (o : Option (K × V)) → ((k : K) → test k ≡ true → other k ≡ false) → lookup_entry test es ≡ o
      → lookup other (option_map_or (λ e. e ∷ remove_entry test es) o es) ≡ lookup other es
  promoted_apart es None apart is = refl
  promoted_apart es (Some e) apart is = lookup_front es e e.1 apart is

  put_all_apart : (es : List (K × V)) (n : ℕ) (k : K) (v : V) (o : Option (K × V)) → ((j : K) → test j ≡ true → other j ≡ false) → test k ≡ true
      → lookup_entry test es ≡ o → let after = option_map_or (λ e. (e.0, v) ∷ remove_entry test es) o ((k, v) ∷ take n es) in
      (lookup other after ≡ lookup other es) ⊎ (lookup other after ≡ None)
  put_all_apart es n k v None apart here is = rw (apart k here) (lookup_taken n es)
  put_all_apart es n k v (Some e) apart here is = inl (lookup_front es e v apart is)

  -- of a list to which an entry was put, as many as stay at the front
  pub put_apart : (es : List (K × V)) (n more : ℕ) (k : K) (v : V) (o : Option (K × V)) → ((j : K) → test j ≡ true → other j ≡ false) → test k ≡ true
      → lookup_entry test es ≡ o → let after = take (suc more) (option_map_or (λ e. (e.0, v) ∷ remove_entry test es) o ((k, v) ∷ take n es)) in
      (lookup other after ≡ lookup other es) ⊎ (lookup other after ≡ None)
  put_apart es n more k v o apart here is =
      let all : List (K × V) = option_map_or (λ e. (e.0, v) ∷ remove_entry test es) o ((k, v) ∷ take n es) in elim (lookup_taken (suc more) all) [
        | inl same ↦ elim (put_all_apart es n k v o apart here is) [
          | inl as_before ↦ inl (same ∙ as_before)
          | inr none ↦ inr (same ∙ none)
        ]
        | inr none ↦ inr none
      ]

  -- where there is room nothing goes
  pub put_with_room : (es : List (K × V)) (n : ℕ) (k : K) (v : V) (o : Option (K × V)) → ((j : K) → test j ≡ true → other j ≡ false) → test k ≡ true
      → length es ≤ n → lookup_entry test es ≡ o
      → lookup other (option_map_or (λ e. (e.0, v) ∷ remove_entry test es) o ((k, v) ∷ take n es)) ≡ lookup other es
  put_with_room es n k v None apart here few is = rw (apart k here) (ap (lookup other) (take_all n es few))
  put_with_room es n k v (Some e) apart here few is = lookup_front es e v apart is

module _ {K V : Type 0} (test : K → Bool) where
  -- the first entry that passes has the value that is found
  pub lookup_from_entry : (es : List (K × V)) (e : K × V) → lookup_entry test es ≡ Some e → lookup test es ≡ Some e.1
  lookup_from_entry [] e is = cc
  lookup_from_entry (f ∷ es) e is = (elim (test f.0) as (λ b. test f.0 ≡ b → lookup test (f ∷ es) ≡ Some e.1) [
    | true ↦ λ t. let is' = rw t at is in let same : f ≡ e = cc in rw t (ap (λ g. Some g.1) same)
    | false ↦ λ t. rw t (lookup_from_entry es e (rw t at is))
  ]) refl

  pub promoted_here : (es : List (K × V)) (o : Option (K × V)) → lookup_entry test es ≡ o
      → lookup test (option_map_or (λ e. e ∷ remove_entry test es) o es) ≡ lookup test es
  promoted_here es None is = refl
  promoted_here es (Some e) is = rw ((Contains-lookup_entry test es e is).1) (sym (lookup_from_entry es e is))

  pub put_here : (es : List (K × V)) (n more : ℕ) (k : K) (v : V) (o : Option (K × V)) → test k ≡ true → lookup_entry test es ≡ o
      → lookup test (take (suc more) (option_map_or (λ e. (e.0, v) ∷ remove_entry test es) o ((k, v) ∷ take n es))) ≡ Some v
  put_here es n more k v None here is = rw here refl
  put_here es n more k v (Some e) here is = rw ((Contains-lookup_entry test es e is).1) refl

  -- how many there are
  pub length_without : (es : List (K × V)) (e : K × V) → lookup_entry test es ≡ Some e → length (remove_entry test es) + 1 ≡ length es
  length_without [] e is = cc
  length_without (f ∷ es) e is = (elim (test f.0) as (λ b. test f.0 ≡ b → length (remove_entry test (f ∷ es)) + 1 ≡ length (f ∷ es)) [
    | true ↦ λ t. rw t (omega arith)
    | false ↦ λ t. let on = length_without es e (rw t at is) in rw t (omega (arith, on))
  ]) refl

  pub length_promoted : (es : List (K × V)) (o : Option (K × V)) → lookup_entry test es ≡ o
      → length (option_map_or (λ e. e ∷ remove_entry test es) o es) ≡ length es
  length_promoted es None is = refl
  length_promoted es (Some e) is = omega (arith, length_without es e is)

  -- one more, or as many as before, where the list has a first place for it
  pub length_put : (es : List (K × V)) (n : ℕ) (k : K) (v : V) (o : Option (K × V)) → lookup_entry test es ≡ o → length es ≤ suc n
      → length (option_map_or (λ e. (e.0, v) ∷ remove_entry test es) o ((k, v) ∷ take n es)) ≤ suc n
  length_put es n k v None is few = omega (arith, length-take n es)
  length_put es n k v (Some e) is few = omega (arith, length_without es e is, few)

  -- with the first entry that passes gone, the sum over the entries is less by its own
  sum_without : (f : K × V → ℕ) (es : List (K × V)) (e : K × V) → lookup_entry test es ≡ Some e
      → sum_by f (remove_entry test es) + f e ≡ sum_by f es
  sum_without f [] e is = cc
  sum_without f (g ∷ es) e is = (elim (test g.0) as (λ b. test g.0 ≡ b → sum_by f (remove_entry test (g ∷ es)) + f e ≡ sum_by f (g ∷ es)) [
    | true ↦ λ t. let is' = rw t at is in let same : g ≡ e = cc in
        rw t (omega (arith, sum_by-cons f g es, ap f same))
    | false ↦ λ t. let on = sum_without f es e (rw t at is) in
        rw t (omega (arith, sum_by-cons f g es, sum_by-cons f g (remove_entry test es), on))
  ]) refl

-- ---- places

both : (a b : Bool) → (a && b) ≡ true → (a ≡ true) × (b ≡ true)
both true b h = (refl, h)
both false b h = cc

place_here : (p : TileKey) → is_place p p ≡ true
place_here p = rw (eq-eqb p.z p.z refl, eq-eqb p.x p.x refl, eq-eqb p.y p.y refl) refl

pub place_is : (p q : TileKey) → is_place p q ≡ true → p ≡ q
place_is p q same =
    let z = both _ _ same in let rest = both _ _ z.1 in
    λ i. record { z = eqb-true p.z q.z z.0 i; x = eqb-true p.x q.x rest.0 i; y = eqb-true p.y q.y rest.1 i }

-- what passes the test of one place doesn't pass that of another
apart : (p q : TileKey) → is_place p q ≡ false → (k : TileKey) → is_place p k ≡ true → is_place q k ≡ false
apart p q differs k is = go (is_place q k) refl
  where
    go : (b : Bool) → is_place q k ≡ b → b ≡ false
    go false same = refl
    go true same =
        let k_is : k ≡ q = sym (place_is q k same) in
        let is' : is_place p q ≡ true = subst (λ r. is_place p r ≡ true) k_is is in
        cc

lookup_promoted : (p q : TileKey) (es : List (TileKey × CachedTile)) → lookup (is_place q) (promoted (is_place p) es) ≡ lookup (is_place q) es
lookup_promoted p q es = go (is_place p q) refl
  where
    go : (b : Bool) → is_place p q ≡ b → lookup (is_place q) (promoted (is_place p) es) ≡ lookup (is_place q) es
    go true same = subst (λ r. lookup (is_place r) (promoted (is_place p) es) ≡ lookup (is_place r) es) (place_is p q same)
        (promoted_here (is_place p) es (lookup_entry (is_place p) es) refl)
    go false differs = promoted_apart (is_place p) (is_place q) es (lookup_entry (is_place p) es) (apart p q differs) refl

-- ---- bytes

abbrev pub Entry : Type 0
Entry = TileKey × CachedTile

abbrev pub size : Entry → ℕ
size e = length (rc_slice_items e.1.bytes)

-- the bytes of the first entries, and of the one behind them
pub bytes_taken : (n : ℕ) (es : List Entry) → length es ≤ suc n
    → bytes_of (take n es) + option_map_or size (slice_get es n) 0 ≡ bytes_of es
bytes_taken zero [] few = refl
bytes_taken (suc n) [] few = refl
bytes_taken zero (e ∷ []) few = omega (arith, sum_by-cons size e [])
bytes_taken zero (e ∷ (f ∷ es)) few = absurd (omega (arith, few))
bytes_taken (suc n) (e ∷ es) few =
    omega (arith, sum_by-cons size e es, sum_by-cons size e (take n es), bytes_taken n es (omega (arith, few)))

-- where the last goes, what is left and that have the bytes that were there
pub bytes_without_last : (es : List Entry) → bytes_of (take (length es - 1) es) + option_map_or size (last_entry es) 0 ≡ bytes_of es
bytes_without_last es = bytes_taken (length es - 1) es (omega arith)

pub some_bytes : (es : List Entry) → 0 < bytes_of es → 0 < length es
some_bytes [] some = absurd (omega (arith, some))
some_bytes (e ∷ es) some = omega arith

take_less : (m n : ℕ) (es : List Entry) → m ≤ n → take m (take n es) ≡ take m es
take_less zero n es le = refl
take_less (suc m) zero es le = absurd (omega (arith, le))
take_less (suc m) (suc n) [] le = refl
take_less (suc m) (suc n) (e ∷ es) le = ap (λ r. e ∷ r) (take_less m n es (omega (arith, le)))

take_length : (m : ℕ) (es : List Entry) → take (length (take m es)) es ≡ take m es
take_length zero es = refl
take_length (suc m) [] = refl
take_length (suc m) (e ∷ es) = ap (λ r. e ∷ r) (take_length m es)

-- where the first is small and all together have too many bytes, another is the last
front_without_last : (es : List Entry) (more : ℕ) → IsFirstSmall es → MAX_CACHED_BYTES < bytes_of (take (suc more) es)
    → (n : ℕ) × (take (length (take (suc more) es) - 1) (take (suc more) es) ≡ take (suc n) es) × (take (suc more) es ≡ take (suc (suc n)) es)
front_without_last [] more small many = absurd small
front_without_last (e ∷ es) more small many =
    let others : List Entry = take more es in
    let some : 0 < length others = some_bytes others (omega (arith, small, many, sum_by-cons size e others)) in
    let n : ℕ = length others - 1 in
    let last : length (e ∷ others) - 1 ≡ suc n = omega (arith, some) in
    let whole : length others ≡ suc n = omega (arith, some) in (
      n,
      rw last (ap (λ r. e ∷ r) (take_less n more es (omega (arith, length-take more es)))),
      ap (λ r. e ∷ r) (sym (take_length more es) ∙ ap (λ k. take k es) whole),
    )

pub front_goes_on : (old now new : LruCache TileKey CachedTile) → IsFirstSmall old.entries → IsFront old now → MAX_CACHED_BYTES < bytes_of now.entries
    → new ≡ lru_cache (take (length now.entries - 1) now.entries) now.cap → IsFront old new
front_goes_on old now new small front many is =
    let too_many = subst (λ es. MAX_CACHED_BYTES < bytes_of es) front.entries many in
    let less = front_without_last old.entries front.more small too_many in record {
      more = less.0;
      entries = ap (λ c. c.entries) is ∙ ap (λ es. take (length es - 1) es) front.entries ∙ less.1;
      cap = ap (λ c. c.cap) is ∙ front.cap;
      most = inr (subst (λ es. MAX_CACHED_BYTES < bytes_of es) less.2 too_many);
    }

pub front_of_all : (old : LruCache TileKey CachedTile) → IsFront old old
front_of_all old = record {
  more = length old.entries;
  entries = sym (take_all (suc (length old.entries)) old.entries (omega arith));
  cap = refl;
  most = inl (omega arith);
}

-- ---- a tile that is put first

module _ (c : LruCache TileKey CachedTile) (at : TileKey) (v : CachedTile) where
  abbrev after : Option Entry → List Entry
  after o = option_map_or (λ e. (e.0, v) ∷ remove_entry (is_place at) c.entries) o ((at, v) ∷ take (c.cap - 1) c.entries)

  bytes_after : (o : Option Entry) → lookup_entry (is_place at) c.entries ≡ o → (w : Option CachedTile) → lookup (is_place at) c.entries ≡ w
      → length c.entries ≤ c.cap → bytes_of (after o)
      + option_map_or size (option_map_or (λ (old : CachedTile). Some (at, old)) w (slice_get c.entries (c.cap - 1))) 0
      ≡ bytes_of c.entries + length (rc_slice_items v.bytes)
  bytes_after None is None was few =
      omega (arith, sum_by-cons size (at, v) (take (c.cap - 1) c.entries), bytes_taken (c.cap - 1) c.entries (omega (arith, few)))
  bytes_after None is (Some w) was few = absurd (none_of c.entries is was)
    where
      none_of : (es : List Entry) → lookup_entry (is_place at) es ≡ None → lookup (is_place at) es ≡ Some w → ⊥
      none_of [] p q = cc
      none_of (e ∷ es) p q = (elim (is_place at e.0) as (λ b. is_place at e.0 ≡ b → ⊥) [
        | true ↦ λ t. let p' = rw t at p in cc
        | false ↦ λ t. none_of es (rw t at p) (rw t at q)
      ]) refl
  bytes_after (Some e) is w was few =
      let value : w ≡ Some e.1 = sym was ∙ lookup_from_entry (is_place at) c.entries e is in
      rw value (omega (arith, sum_by-cons size (e.0, v) (remove_entry (is_place at) c.entries), sum_without (is_place at) size c.entries e is))

  -- what gave way, and what is there now, have the bytes that were there and those of the tile
  pub bytes_put : length c.entries ≤ c.cap
      → bytes_of (put_entries is_place c at v) + option_map_or size (displaced is_place c at v) 0 ≡ bytes_of c.entries + length (rc_slice_items v.bytes)
  bytes_put few = bytes_after (lookup_entry (is_place at) c.entries) refl (lookup (is_place at) c.entries) refl few

  small_after : (o : Option Entry) → IsSmall (rc_slice_items v.bytes) → IsFirstSmall (after o)
  small_after None small = small
  small_after (Some e) small = small

  pub small_put : IsSmall (rc_slice_items v.bytes) → IsFirstSmall (put_entries is_place c at v)
  small_put = small_after (lookup_entry (is_place at) c.entries)

-- ---- what is kept

-- what is seen of the entries of a list
abbrev pub seen : List Entry → CacheView
seen es = record { kept = map (λ (e : Entry). (e.0, tile_view e.1)) es }

pub kept_in : (es : List Entry) (z x y : ℕ) → kept_at (seen es) z x y ≡ option_map tile_view (lookup (is_place (record { z = z; x = x; y = y })) es)
kept_in es z x y = lookup-map_values tile_view (is_place (record { z = z; x = x; y = y })) es

-- what is found in the list is kept
pub found_in : (es : List Entry) (p : TileKey) (o : Option CachedTile) → o ≡ lookup (is_place p) es → kept_at (seen es) p.z p.x p.y ≡ option_map tile_view o
found_in es p o is = kept_in es p.z p.x p.y ∙ ap (option_map tile_view) (sym is)

pub count_seen : (es : List Entry) → length (seen es).kept ≡ length es
count_seen es = length-map es (λ (e : Entry). (e.0, tile_view e.1))

pub few_seen : (es : List Entry) → length es ≤ MAX_CACHED_TILES → length (seen es).kept ≤ MAX_CACHED_TILES
few_seen es few = subst (λ n. n ≤ MAX_CACHED_TILES) (sym (count_seen es)) few

pub bytes_seen : (es : List Entry) → bytes_in (seen es) ≡ bytes_of es
bytes_seen [] = refl
bytes_seen (e ∷ es) =
    sum_by-cons (λ (f : TileKey × TileView). length f.1.bytes) (e.0, tile_view e.1) (seen es).kept ∙ ap (λ n. size e + n) (bytes_seen es)
    ∙ sym (sum_by-cons size e es)

bytes_promoted : (at : TileKey) (es : List Entry) (o : Option Entry) → lookup_entry (is_place at) es ≡ o
    → bytes_of (option_map_or (λ e. e ∷ remove_entry (is_place at) es) o es) ≡ bytes_of es
bytes_promoted at es None is = refl
bytes_promoted at es (Some e) is =
    let rest : List Entry = remove_entry (is_place at) es in
    omega (arith, sum_by-cons size e rest, sum_without (is_place at) size es e is)

pub promoted_same : (at : TileKey) (es : List Entry) → KeepsSame (seen es) (seen (promoted (is_place at) es))
promoted_same at es = record {
  tiles = λ z x y. kept_in (promoted (is_place at) es) z x y ∙ ap (option_map tile_view) (lookup_promoted at (record { z = z; x = x; y = y }) es)
      ∙ sym (kept_in es z x y);
  count = count_seen (promoted (is_place at) es) ∙ length_promoted (is_place at) es (lookup_entry (is_place at) es) refl ∙ sym (count_seen es);
  bytes = bytes_seen (promoted (is_place at) es) ∙ bytes_promoted at es (lookup_entry (is_place at) es) refl ∙ sym (bytes_seen es);
}

-- what is at the front of the list to which a tile was put
pub front_is : (c : LruCache TileKey CachedTile) (at : TileKey) (v : CachedTile) (put new : LruCache TileKey CachedTile)
    → put ≡ lru_cache (put_entries is_place c at v) c.cap → (front : IsFront put new)
    → new.entries ≡ take (suc front.more) (put_entries is_place c at v)
front_is c at v put new put_is front = front.entries ∙ ap (λ t. take (suc front.more) t.entries) put_is

-- where a tile was put first and those at the front stayed
module _ (c : LruCache TileKey CachedTile) (at : TileKey) (v : CachedTile) (more : ℕ) (es : List Entry)
    (is : es ≡ take (suc more) (put_entries is_place c at v)) where
  pub tile_kept : kept_at (seen es) at.z at.x at.y ≡ Some (tile_view v)
  tile_kept = kept_in es at.z at.x at.y ∙ ap (option_map tile_view) (ap (lookup (is_place at)) is
      ∙ put_here (is_place at) c.entries (c.cap - 1) more at v (lookup_entry (is_place at) c.entries) (place_here at) refl)

  pub others_kept : KeepsFewer at.z at.x at.y (seen c.entries) (seen es)
  others_kept z x y other = elim found [
    | inl same ↦ inl (kept_in es z x y ∙ ap (option_map tile_view) same ∙ sym (kept_in c.entries z x y))
    | inr none ↦ inr (kept_in es z x y ∙ ap (option_map tile_view) none)
  ]
    where
      q : TileKey
      q = record { z = z; x = x; y = y }

      found : (lookup (is_place q) es ≡ lookup (is_place q) c.entries) ⊎ (lookup (is_place q) es ≡ None)
      found = rw is (put_apart (is_place at) (is_place q) c.entries (c.cap - 1) more at v (lookup_entry (is_place at) c.entries) (apart at q other)
          (place_here at) refl)

  pub few_kept : 0 < c.cap → length c.entries ≤ c.cap → length es ≤ c.cap
  few_kept some few =
      let put = length_put (is_place at) c.entries (c.cap - 1) at v (lookup_entry (is_place at) c.entries) refl (omega (arith, few, some)) in
      rw is (omega (arith, length-take (suc more) (put_entries is_place c at v), put, some))

-- where there is room
pub others_with_room : (c : LruCache TileKey CachedTile) (at : TileKey) (v : CachedTile) → length c.entries < c.cap
    → KeepsOthers at.z at.x at.y (seen c.entries) (seen (put_entries is_place c at v))
others_with_room c at v room z x y other =
    let q : TileKey = record { z = z; x = x; y = y } in
    kept_in (put_entries is_place c at v) z x y ∙ ap (option_map tile_view)
    (put_with_room (is_place at) (is_place q) c.entries (c.cap - 1) at v (lookup_entry (is_place at) c.entries) (apart at q other) (place_here at)
    (omega (arith, room)) refl) ∙ sym (kept_in c.entries z x y)

-- ---- what is fresh

pub stale : (newest : ℕ) (reads : Bool) (k : CachedTile) → k.number < newest → None ≡ fresh newest reads (Some (tile_view k))
stale newest reads k lt = rw (lt-leb newest k.number lt) refl

pub not_counted : (newest : ℕ) (reads : Bool) (k : CachedTile) → counts reads k.origin ≡ false → newest ≤ k.number
    → None ≡ fresh newest reads (Some (tile_view k))
not_counted newest reads k is le = rw (le-leb newest k.number le, is) refl

pub current : (newest : ℕ) (reads : Bool) (k : CachedTile) → counts reads k.origin ≡ true → newest ≤ k.number
    → Some (rc_slice_items k.bytes) ≡ fresh newest reads (Some (tile_view k))
current newest reads k is le = rw (le-leb newest k.number le, is) refl

-- ---- the bytes of a tile

pub is_small : (n : ℕ) (bytes : List ℕ) → n ≤ MAX_TILE_BYTES → n ≡ length bytes → IsSmall bytes
is_small n bytes few is = subst (λ k. k ≤ MAX_TILE_BYTES) is few

pub too_large : (n : ℕ) (bytes : List ℕ) → MAX_TILE_BYTES < n → n ≡ length bytes → IsSmall bytes → ⊥
too_large n bytes more is small = omega (arith, more, is, small)
