-- The tiles that have each of the different contents first.
use Rattle.std.proofs.Common.{◌≡◌, ℕ, zero, suc, ◌<◌, List, [], ◌∷◌, ◌++◌, length, get_or, Result, Ok, Err, sym, subst, arith}
use Rattle.std.specs.List.{Contains}
use Rattle.std.specs.Result.{OnOk}
use Rattle.std.proofs.lemmas.List.Elements.{Contains-append_left}
use Rattle.pm_build.specs.Different.{content_at}
use Rattle.pm_build.specs.Firsts.{EachIsThere, AreFirsts}
use Rattle.pm_build.specs.Indexed.{IndexView}
use Rattle.pm_build.specs.Tiles.{Tile}

each_more : (ts us : List Tile) (ids : List ℕ) (cs : List (List ℕ)) → EachIsThere ts ids cs → EachIsThere (ts ++ us) ids cs
each_more ts us [] [] h = tt
each_more ts us [] (c ∷ cs) h = absurd h
each_more ts us (id ∷ ids) [] h = absurd h
each_more ts us (id ∷ ids) (c ∷ cs) h = (Contains-append_left ts us (id, c) h.0, each_more ts us ids cs h.1)

-- they are there with tiles more
pub firsts_more : (ts us : List Tile) (v : IndexView) → AreFirsts ts v → AreFirsts (ts ++ us) v
firsts_more ts us v h = each_more ts us v.firsts v.contents h

each_push : (ts : List Tile) (ids : List ℕ) (cs : List (List ℕ)) (id : ℕ) (c : List ℕ) → EachIsThere ts ids cs → Contains ts (id, c)
    → EachIsThere ts (ids ++ id ∷ []) (cs ++ c ∷ [])
each_push ts [] [] id c h there = (there, tt)
each_push ts [] (d ∷ cs) id c h there = absurd h
each_push ts (i ∷ ids) [] id c h there = absurd h
each_push ts (i ∷ ids) (d ∷ cs) id c h there = (h.0, each_push ts ids cs id c h.1 there)

-- with a content more, whose first tile is there
pub firsts_push : (ts : List Tile) (v w : IndexView) (id : ℕ) (c : List ℕ) → w.firsts ≡ v.firsts ++ id ∷ [] → w.contents ≡ v.contents ++ c ∷ []
    → AreFirsts ts v → Contains ts (id, c) → AreFirsts ts w
firsts_push ts v w id c ids cs h there =
    subst (λ (x : List ℕ). EachIsThere ts x w.contents) (sym ids)
    (subst (λ (y : List (List ℕ)). EachIsThere ts (v.firsts ++ id ∷ []) y) (sym cs) (each_push ts v.firsts v.contents id c h there))

each_at : (ts : List Tile) (ids : List ℕ) (cs : List (List ℕ)) (i : ℕ) → EachIsThere ts ids cs → i < length cs → Contains ts (get_or ids i 0, content_at cs i)
each_at ts ids [] i h lt = absurd (omega (arith, lt))
each_at ts [] (c ∷ cs) i h lt = absurd h
each_at ts (id ∷ ids) (c ∷ cs) zero h lt = h.0
each_at ts (id ∷ ids) (c ∷ cs) (suc i) h lt = each_at ts ids cs i h.1 (omega (arith, lt))

-- the tile of a place is there
pub first_at : (ts : List Tile) (v : IndexView) (i : ℕ) → AreFirsts ts v → i < length v.contents → Contains ts (get_or v.firsts i 0, content_at v.contents i)
first_at ts v i h lt = each_at ts v.firsts v.contents i h lt

-- after a push that succeeded they are known
pub firsts_pushed : {T E : Type 0} (r : Result T E) (v w : IndexView) (id : ℕ) (c : List ℕ) → OnOk r (w.firsts ≡ v.firsts ++ id ∷ [])
    → OnOk r (w.contents ≡ v.contents ++ c ∷ []) → OnOk r ((ts : List Tile) → AreFirsts ts v → Contains ts (id, c) → AreFirsts ts w)
firsts_pushed (Ok x) v w id c ids cs = λ ts h there. firsts_push ts v w id c ids cs h there
firsts_pushed (Err e) v w id c ids cs = tt
