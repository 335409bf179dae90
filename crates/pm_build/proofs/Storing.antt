-- The bytes of contents as one is added.
use Rattle.std.proofs.Common.{◌≡◌, ℕ, List, [], ◌∷◌, ◌++◌, length, drop, refl, sym, ap, subst, ◌∙◌, arith}
use Rattle.std.specs.List.{concat}
use Rattle.std.proofs.lemmas.List.{drop_all, drop_at}
use Rattle.pm_build.specs.Ahead.{AreStored}
use Rattle.pm_build.specs.Indexed.{IndexView}
use Rattle.pm_build.specs.Storing.{ContentsView}
use Rattle.pm_build.proofs.Pieces.{concat_one_more, first_parts}

-- no contents
pub none_stored : (v : IndexView) (bytes : List ℕ) → v ≡ record { contents = []; firsts = [] } → AreStored v.contents bytes
none_stored v bytes none = subst (λ (w : IndexView). AreStored w.contents bytes) (sym none) refl

-- the contents and bytes after them, once these are a content too
concat_more : (cs new : List (List ℕ)) (bytes part : List ℕ) → bytes ≡ concat cs ++ part → new ≡ cs ++ part ∷ [] → bytes ≡ concat new
concat_more cs new bytes part is are = is ∙ sym (concat_one_more cs part) ∙ sym (ap (λ (ds : List (List ℕ)). concat ds) are)

-- with a content more, which is put after the others
pub more_stored : (cs new : List (List ℕ)) (from : ℕ) (bytes more content : List ℕ) → bytes ≡ concat cs → from ≡ length bytes → more ≡ bytes ++ content
    → new ≡ cs ++ drop from more ∷ [] → more ≡ concat new
more_stored cs new from bytes more content is at grown are =
    let last : drop from more ≡ content = ap (λ (xs : List ℕ). drop from xs) grown ∙ drop_at bytes content from (sym at) in
    concat_more cs new more (drop from more)
    (grown ∙ ap (λ (xs : List ℕ). xs ++ content) is ∙ ap (λ (xs : List ℕ). concat cs ++ xs) (sym last)) are

-- with what is ahead as a content more
pub ahead_stored : (cs new : List (List ℕ)) (from : ℕ) (bytes : List ℕ) → AreStored cs bytes → from ≡ length (concat cs)
    → new ≡ cs ++ drop from bytes ∷ [] → bytes ≡ concat new
ahead_stored cs new from bytes is at are =
    concat_more cs new bytes (drop from bytes)
    (first_parts (length (concat cs)) bytes (concat cs) is ∙ ap (λ (n : ℕ). concat cs ++ drop n bytes) (sym at)) are

-- nothing is ahead then
pub none_ahead : (cs : List (List ℕ)) (bytes : List ℕ) → bytes ≡ concat cs → drop (length (concat cs)) bytes ≡ []
none_ahead cs bytes is = drop_all (length (concat cs)) bytes (omega (arith, ap (λ (xs : List ℕ). length xs) is))

-- the same contents, and nothing ahead of either
pub same_view : (v w : ContentsView) → v.index ≡ w.index → v.ahead ≡ [] → w.ahead ≡ [] → v ≡ w
same_view v w index none before = λ i. record { index = index i; ahead = (none ∙ sym before) i }
