-- The maps after first edits, as tiles tell of them: while edits come, and once some of them are in a snapshot.
use Rattle.std.proofs.Common.{◌≡◌, ◌⊎◌, inl, inr, ℕ, zero, suc, ◌<◌, ◌≤◌, ◌+◌, List, [], ◌∷◌, ◌++◌, length, take, drop}
use Rattle.std.proofs.Common.{refl, sym, ◌∙◌, ap, subst, arith, length-append}
use Rattle.std.proofs.Math.Nat.{eq-or-lt_of_le}
use Rattle.std.proofs.lemmas.List.{take-append-le, take_all, length-drop}
use Rattle.cached_map.specs.Cached.{AreReadRight, CachedView, WasMap}
use Rattle.edit_text.specs.Recorded.{RecordedEdit}
use Rattle.feature_store.specs.Store.{FeatureMap}
use Rattle.tile_service.specs.After.{made, after}
use Rattle.tile_service.specs.Tiles.{WereMaps}

none_of : (k : ℕ) → ◌≡◌ {A = List RecordedEdit} (take k []) []
none_of zero = refl
none_of (suc k) = refl

-- With one more edit, the map after that edit is known too.
module _ (m : FeatureMap) (cells : List ℕ) (last : ℕ) (new : FeatureMap) (then : List ℕ) (number : ℕ)
    (since : (n : ℕ) (was : FeatureMap) → WasMap m cells last n was → WasMap new then number n was) (now : WasMap new then number number new) where
  pub were_one : (start : ℕ) (first : FeatureMap) (edits : List RecordedEdit) (e : RecordedEdit) → number ≡ start + suc (length edits)
      → new ≡ after first (edits ++ e ∷ []) → WereMaps m cells last start first edits → WereMaps new then number start first (edits ++ e ∷ [])
  were_one start first edits e number_is map_is were k le =
      let within : k ≤ suc (length edits) = omega (arith, le, length-append edits (e ∷ [])) in go (eq-or-lt_of_le within)
    where
      go : (k ≡ suc (length edits)) ⊎ (k < suc (length edits)) → WasMap new then number (start + k) (after first (take k (edits ++ e ∷ [])))
      go (inl all) =
          let every : take k (edits ++ e ∷ []) ≡ edits ++ e ∷ [] = take_all k (edits ++ e ∷ []) (omega (arith, all, length-append edits (e ∷ []))) in
          let here : number ≡ start + k = omega (arith, all, number_is) in
          subst (λ (n : ℕ). WasMap new then number n (after first (take k (edits ++ e ∷ [])))) here
          (subst (λ (was : FeatureMap). WasMap new then number number was) (map_is ∙ ap (after first) (sym every)) now)
      go (inr some) =
          let before : k ≤ length edits = omega (arith, some) in
          subst (λ (es : List RecordedEdit). WasMap new then number (start + k) (after first es)) (sym (take-append-le k edits (e ∷ []) before))
          (since (start + k) (after first (take k edits)) (were k before))

after_more : (m : FeatureMap) (edits : List RecordedEdit) (taken k : ℕ)
    → after (after m (take taken edits)) (take k (drop taken edits)) ≡ after m (take (taken + k) edits)
after_more m edits zero k = let same : k ≡ 0 + k = omega arith in ap (λ (j : ℕ). after m (take j edits)) same
after_more m [] (suc taken) k = ap (after m) (none_of k ∙ sym (none_of (suc taken + k)))
after_more m (edit ∷ edits) (suc taken) k =
    let same : suc (taken + k) ≡ suc taken + k = omega arith in
    after_more (made m edit) edits taken k ∙ ap (λ (j : ℕ). after m (take j (edit ∷ edits))) same

-- Those since a later map are known, where it is one of them.
pub were_published : (m : FeatureMap) (cells : List ℕ) (last start : ℕ) (first : FeatureMap) (edits : List RecordedEdit) (taken : ℕ)
    → taken ≤ length edits → WereMaps m cells last start first edits
    → WereMaps m cells last (start + taken) (after first (take taken edits)) (drop taken edits)
were_published m cells last start first edits taken within were k le =
    let same : start + (taken + k) ≡ start + taken + k = omega arith in
    let inside : taken + k ≤ length edits = omega (arith, le, within, length-drop taken edits) in
    subst (λ (n : ℕ). WasMap m cells last n (after (after first (take taken edits)) (take k (drop taken edits)))) same
    (subst (λ (was : FeatureMap). WasMap m cells last (start + (taken + k)) was) (sym (after_more first edits taken k)) (were (taken + k) inside))

-- ---- a map that made room and an edit, beside a journal that counts

pub since_on : (old room new : CachedView) (journal number : ℕ) → old.last ≡ journal → room ≡ record old { spare = room.spare } → new.last ≡ number
    → ((n : ℕ) (was : FeatureMap) → WasMap room.features room.touched room.last n was → WasMap new.features new.touched new.last n was)
    → (n : ℕ) (was : FeatureMap) → WasMap old.features old.touched journal n was → WasMap new.features new.touched number n was
since_on old room new journal number last same number_is since n was is =
    subst (λ (l : ℕ). WasMap new.features new.touched l n was) number_is
    (since n was (subst (λ (v : CachedView). WasMap v.features v.touched v.last n was) (sym same)
    (subst (λ (l : ℕ). WasMap old.features old.touched l n was) (sym last) is)))

pub now_on : (new : CachedView) (number : ℕ) → new.last ≡ number → WasMap new.features new.touched new.last new.last new.features
    → WasMap new.features new.touched number number new.features
now_on new number is now = subst (λ (l : ℕ). WasMap new.features new.touched l l new.features) is now

-- and what was read and cached is right still
pub right_on : (old room new : CachedView) (journal number : ℕ) → old.last ≡ journal → room ≡ record old { spare = room.spare } → new.last ≡ number
    → (AreReadRight room.features room.touched room.last room.kept → AreReadRight new.features new.touched new.last new.kept)
    → AreReadRight old.features old.touched journal old.kept → AreReadRight new.features new.touched number new.kept
right_on old room new journal number last same number_is on right =
    subst (λ (l : ℕ). AreReadRight new.features new.touched l new.kept) number_is
    (on (subst (λ (v : CachedView). AreReadRight v.features v.touched v.last v.kept) (sym same)
    (subst (λ (l : ℕ). AreReadRight old.features old.touched l old.kept) (sym last) right)))
