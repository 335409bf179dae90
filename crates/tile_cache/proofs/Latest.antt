-- Which tiles stay, in their order.
use Rattle.std.proofs.Common.{◌≡◌, ℕ, zero, suc, ◌+◌, ◌-◌, ◌<◌, ◌≤◌, Bool, true, false, ◌⊎◌, List, [], ◌∷◌, ◌++◌, length, take, drop, map}
use Rattle.std.proofs.Common.{Option, Some, None, refl, sym, ap, subst, ◌∙◌, inl, inr, arith}
use Rattle.std.proofs.lemmas.List.{length-take, take_all, take-take, take-append-drop, map-append}
use Rattle.std.proofs.lemmas.List.Sums.{sum_by-cons}
use Rattle.std.proofs.lemmas.Bool.{cases_lt}
use Rattle.std.specs.Map.{lookup_entry, remove_entry}
use Rattle.std.specs.Option.{option_map_or}
use Rattle.std.specs.Prelude.{option_map}
use Rattle.lru.specs.LruCache.{LruCache, lru_cache, promoted, put_entries}
use Rattle.lru.proofs.CallerLemmas.{Contains-lookup_entry}
use Rattle.tile_cache.specs.declared.cached_tiles.TileKey.{TileKey}
use Rattle.tile_cache.specs.declared.cached_tiles.CachedTile.{CachedTile}
use Rattle.tile_cache.specs.declared.cached_tiles.TheConstants.{MAX_CACHED_TILES, MAX_CACHED_BYTES}
use Rattle.tile_cache.specs.Entries.{bytes_of, IsFront}
use Rattle.tile_cache.specs.Kept.{KeptTile, tile_view, is_place, total_bytes, asked_for, with_first, KeepsLatest}
use Rattle.tile_cache.proofs.Places.{Entry, size, seen, bytes_seen, count_seen, length_without, place_is}

-- what contracts see of an entry
abbrev entry_view : Entry → KeptTile
entry_view e = (e.0, tile_view e.1)

no_entry : (e : Entry) → ◌≡◌ {A = Option Entry} (Some e) None → ⊥
no_entry e is = cc

none_first : (f : Entry) (fs : List Entry) → [] ≡ f ∷ fs → ⊥
none_first f fs is = cc

no_tile : (t : KeptTile) (ts : List KeptTile) → [] ≡ t ∷ ts → ⊥
no_tile t ts is = cc

same_first : (f g : Entry) (fs gs : List Entry) → f ∷ fs ≡ g ∷ gs → f ≡ g
same_first f g fs gs is = cc

same_tile : (s t : KeptTile) (ss ts : List KeptTile) → s ∷ ss ≡ t ∷ ts → s ≡ t
same_tile s t ss ts is = cc

module _ (test : TileKey → Bool) where
  removed_seen : (es : List Entry) → map entry_view (remove_entry test es) ≡ remove_entry test (map entry_view es)
  removed_seen [] = refl
  removed_seen (e ∷ es) =
      (elim (test e.0) as (λ b. test e.0 ≡ b → map entry_view (remove_entry test (e ∷ es)) ≡ remove_entry test (map entry_view (e ∷ es))) [
        | true ↦ λ t. rw t refl
        | false ↦ λ t. rw t (ap (λ r. entry_view e ∷ r) (removed_seen es))
      ]) refl

  found_seen : (es : List Entry) → lookup_entry test (map entry_view es) ≡ option_map entry_view (lookup_entry test es)
  found_seen [] = refl
  found_seen (e ∷ es) =
      (elim (test e.0) as (λ b. test e.0 ≡ b → lookup_entry test (map entry_view (e ∷ es)) ≡ option_map entry_view (lookup_entry test (e ∷ es))) [
        | true ↦ λ t. rw t refl
        | false ↦ λ t. rw t (found_seen es)
      ]) refl

  none_removed : (es : List Entry) → lookup_entry test es ≡ None → remove_entry test es ≡ es
  none_removed [] is = refl
  none_removed (e ∷ es) is = (elim (test e.0) as (λ b. test e.0 ≡ b → remove_entry test (e ∷ es) ≡ e ∷ es) [
    | true ↦ λ t. absurd (no_entry e (rw t at is))
    | false ↦ λ t. rw t (ap (λ r. e ∷ r) (none_removed es (rw t at is)))
  ]) refl

pub asked_seen : (at : TileKey) (es : List Entry) → (seen (promoted (is_place at) es)).kept ≡ asked_for at (seen es).kept
asked_seen at es = go (lookup_entry (is_place at) es) refl
  where
    go : (o : Option Entry) → lookup_entry (is_place at) es ≡ o
        → map entry_view (option_map_or (λ e. e ∷ remove_entry (is_place at) es) o es) ≡ asked_for at (map entry_view es)
    go None is = rw (found_seen (is_place at) es, is) refl
    go (Some e) is = rw (found_seen (is_place at) es, is) (ap (λ r. entry_view e ∷ r) (removed_seen (is_place at) es))

-- an entry behind the first ones is one more, with its bytes
next_after : (m : ℕ) (l : List Entry) (f : Entry) (fs : List Entry) → drop m l ≡ f ∷ fs
    → (m < length l) × (bytes_of (take (suc m) l) ≡ bytes_of (take m l) + size f)
next_after zero [] f fs is = absurd (none_first f fs is)
next_after zero (g ∷ l) f fs is =
    (omega arith, subst (λ (h : Entry). bytes_of (g ∷ []) ≡ 0 + size h) (same_first g f l fs is) (omega (arith, sum_by-cons size g [])))
next_after (suc m) [] f fs is = absurd (none_first f fs is)
next_after (suc m) (g ∷ l) f fs is =
    let on = next_after m l f fs is in
    (omega (arith, on.0), omega (arith, on.1, sum_by-cons size g (take (suc m) l), sum_by-cons size g (take m l)))

module _ (c : LruCache TileKey CachedTile) (at : TileKey) (v : CachedTile) where
  -- the tile first, and all others
  abbrev all : List Entry
  all = (at, v) ∷ remove_entry (is_place at) c.entries

  put_first : 0 < c.cap → length c.entries ≤ c.cap → put_entries is_place c at v ≡ take c.cap all
  put_first some few = go (lookup_entry (is_place at) c.entries) refl
    where
      go : (o : Option Entry) → lookup_entry (is_place at) c.entries ≡ o
          → option_map_or (λ e. (e.0, v) ∷ remove_entry (is_place at) c.entries) o ((at, v) ∷ take (c.cap - 1) c.entries) ≡ take c.cap all
      go None is =
          let cap : suc (c.cap - 1) ≡ c.cap = omega (arith, some) in
          subst (λ n. (at, v) ∷ take (c.cap - 1) c.entries ≡ take n all) cap
          (ap (λ r. (at, v) ∷ take (c.cap - 1) r) (sym (none_removed (is_place at) c.entries is)))
      go (Some e) is =
          let here : at ≡ e.0 = place_is at e.0 (Contains-lookup_entry (is_place at) c.entries e is).1 in
          let short : length all ≤ c.cap = omega (arith, length_without (is_place at) c.entries e is, few) in
          ap (λ k. (k, v) ∷ remove_entry (is_place at) c.entries) (sym here) ∙ sym (take_all c.cap all short)

  -- the first entries of all, and no fewer than the bounds allow
  record AreLatest (es : List Entry) : Type 0 where
    many : ℕ
    entries : es ≡ take many all
    needed : (f : Entry) (fs : List Entry) → drop many all ≡ f ∷ fs → (MAX_CACHED_TILES ≤ length es) ⊎ (MAX_CACHED_BYTES < bytes_of es + size f)

  -- as many as the count allows
  full : c.cap ≡ MAX_CACHED_TILES → (es : List Entry) → es ≡ take c.cap all → AreLatest es
  full cap es is = record {
    many = c.cap;
    entries = is;
    needed = λ f fs next. inl (omega (arith, ap length is, length-take c.cap all, (next_after c.cap all f fs next).0, cap));
  }

  -- fewer
  short : c.cap ≡ MAX_CACHED_TILES → (es : List Entry) (more : ℕ) → suc more < c.cap → es ≡ take (suc more) all
      → (length (take c.cap all) ≤ suc more) ⊎ (MAX_CACHED_BYTES < bytes_of (take (suc (suc more)) (take c.cap all))) → AreLatest es
  short cap es more few is most = record { many = suc more; entries = is; needed = λ f fs next. go f (next_after (suc more) all f fs next) most }
    where
      go : (f : Entry) → (suc more < length all) × (bytes_of (take (suc (suc more)) all) ≡ bytes_of (take (suc more) all) + size f)
          → (length (take c.cap all) ≤ suc more) ⊎ (MAX_CACHED_BYTES < bytes_of (take (suc (suc more)) (take c.cap all)))
          → (MAX_CACHED_TILES ≤ length es) ⊎ (MAX_CACHED_BYTES < bytes_of es + size f)
      go f next (inl whole) = absurd (omega (arith, whole, length-take c.cap all, next.0, few))
      go f next (inr large) =
          inr (omega (arith, large, ap bytes_of (take-take (suc (suc more)) c.cap all (omega (arith, few))), next.1, ap bytes_of is))

  latest_entries : c.cap ≡ MAX_CACHED_TILES → length c.entries ≤ c.cap → (put new : LruCache TileKey CachedTile)
      → put ≡ lru_cache (put_entries is_place c at v) c.cap → IsFront put new → AreLatest new.entries
  latest_entries cap few put new put_is front =
      let first : put.entries ≡ take c.cap all = ap (λ t. t.entries) put_is ∙ put_first (omega (arith, cap)) few in
      let taken : new.entries ≡ take (suc front.more) (take c.cap all) = front.entries ∙ ap (take (suc front.more)) first in
      elim (cases_lt (suc front.more) c.cap) [
        | inl less ↦ short cap new.entries front.more less (taken ∙ take-take (suc front.more) c.cap all (omega (arith, less)))
            (subst (λ es. (length es ≤ suc front.more) ⊎ (MAX_CACHED_BYTES < bytes_of (take (suc (suc front.more)) es))) first front.most)
        | inr not_less ↦ full cap new.entries (taken ∙ take_all (suc front.more) (take c.cap all) (omega (arith, length-take c.cap all, not_less)))
      ]

  pub latest : c.cap ≡ MAX_CACHED_TILES → length c.entries ≤ c.cap → (put new : LruCache TileKey CachedTile)
      → put ≡ lru_cache (put_entries is_place c at v) c.cap → IsFront put new
      → KeepsLatest (with_first at (tile_view v) (seen c.entries).kept) (seen new.entries).kept
  latest cap few put new put_is front =
      let h = latest_entries cap few put new put_is front in
      let left = drop h.many all in
      let parts : all ≡ new.entries ++ left = sym (take-append-drop h.many all) ∙ ap (λ es. es ++ left) (sym h.entries) in
      record {
        dropped = map entry_view left;
        order = ap (λ r. (at, tile_view v) ∷ r) (sym (removed_seen (is_place at) c.entries)) ∙ ap (map entry_view) parts
            ∙ map-append entry_view new.entries left;
        needed = go new.entries left h.needed;
      }
    where
      go : (es left : List Entry)
          → ((f : Entry) (fs : List Entry) → left ≡ f ∷ fs → (MAX_CACHED_TILES ≤ length es) ⊎ (MAX_CACHED_BYTES < bytes_of es + size f))
          → (next : KeptTile) (rest : List KeptTile) → map entry_view left ≡ next ∷ rest
          → (MAX_CACHED_TILES ≤ length (map entry_view es)) ⊎ (MAX_CACHED_BYTES < total_bytes (map entry_view es) + length next.1.bytes)
      go es [] needed next rest is = absurd (no_tile next rest is)
      go es (f ∷ fs) needed next rest is =
          subst (λ (t : KeptTile). (MAX_CACHED_TILES ≤ length (map entry_view es)) ⊎ (MAX_CACHED_BYTES < total_bytes (map entry_view es) + length t.1.bytes))
          (same_tile (entry_view f) next (map entry_view fs) rest is)
          (elim (needed f fs refl) [
            | inl many ↦ inl (omega (arith, many, count_seen es))
            | inr large ↦ inr (omega (arith, large, bytes_seen es))
          ])
