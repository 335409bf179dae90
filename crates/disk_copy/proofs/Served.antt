-- A disk that is served has the root that was found, between two looks that found it.
use Rattle.std.proofs.Common.{◌≡◌, ◌⊎◌, inl, inr, ⊎_elim, ℕ, ◌≤◌, ◌<◌, ◌+◌, List, sym, ◌∙◌, ap, subst, arith}
use Rattle.sector_disk.specs.Disk.{Image}
use Rattle.generations.specs.Disks.{LiveRoot, HasRoot}
use Rattle.generations.specs.Sectors.{IsFormat, IsNoRoot, IsRootOf, version_from}
use Rattle.generations.specs.declared.root.Root.{Root}
use Rattle.generations.proofs.Laws.{one_format, one_live}
use Rattle.disk_copy.specs.Copies.{IsJournalOf}
use Rattle.disk_copy.specs.First.{first_image, IsAsSeen}
use Rattle.disk_copy.specs.Shared.{OnlyGrows, IsServed, IsStretch, HasLooked}

-- ---- a root is told by the first three sectors

pub same_first : (count n : ℕ) (root : Root) (image other : Image) → other 0 ≡ image 0 → other 1 ≡ image 1 → other 2 ≡ image 2
    → LiveRoot count image n root → LiveRoot count other n root
same_first count n root image other zeroth first second live = record {
  format = subst (λ (s : List ℕ). IsFormat count s n) (sym zeroth) live.format;
  even = subst (λ (s : List ℕ). IsNoRoot s ⊎ ((r : Root) × IsRootOf n 0 s r)) (sym first) live.even;
  odd = subst (λ (s : List ℕ). IsNoRoot s ⊎ ((r : Root) × IsRootOf n 1 s r)) (sym second) live.odd;
  stands = ⊎_elim
      (λ (is : IsRootOf n 0 (image 1) root). inl (subst (λ (s : List ℕ). IsRootOf n 0 s root) (sym first) is))
      (λ (is : IsRootOf n 1 (image 2) root). inr (subst (λ (s : List ℕ). IsRootOf n 1 s root) (sym second) is))
      live.stands;
  greatest = λ r has. live.greatest r (⊎_elim
      (λ (is : IsRootOf n 0 (other 1) r). inl (subst (λ (s : List ℕ). IsRootOf n 0 s r) first is))
      (λ (is : IsRootOf n 1 (other 2) r). inr (subst (λ (s : List ℕ). IsRootOf n 1 s r) second is))
      has);
}

pub seen_first : (count counted n : ℕ) (root : Root) (format even odd : List ℕ) (image : Image) → counted ≡ count → IsAsSeen format even odd image
    → LiveRoot count image n root → LiveRoot counted (first_image format even odd) n root
seen_first count counted n root format even odd image count_is is live =
    subst (λ (k : ℕ). LiveRoot k (first_image format even odd) n root) (sym count_is)
    (same_first count n root image (first_image format even odd) is.format_is is.even_is is.odd_is live)

-- ---- which disk was looked at

pub served_as_found : (count n version found_n found_version from to : ℕ) (root : Root) (images : ℕ → Image) → IsServed count n version images
    → HasLooked count found_n found_version root images from to → IsServed count found_n found_version images
served_as_found count n version found_n found_version from to root images served looked =
    let moment : ℕ = looked.format.0 in
    let zeroth : looked.first 0 ≡ images moment 0 = looked.format.3 in
    let same_n : n ≡ found_n = one_format count count (images moment 0) n found_n (served.lives moment).format
    (subst (λ (s : List ℕ). IsFormat count s found_n) zeroth looked.lives.format) in
    let same_version : version ≡ found_version =
    served.version_is moment ∙ ap version_from (sym zeroth) ∙ sym looked.version_is in
    subst (λ (v : ℕ). IsServed count found_n v images) same_version (subst (λ (k : ℕ). IsServed count k version images) same_n served)

module _ (count n version : ℕ) (images : ℕ → Image) (served : IsServed count n version images) (root : Root) where
  -- ---- between two looks

  -- each root that the sector has at this moment is as old as the one found, or older
  abbrev IsBound : (parity moment : ℕ) → Type 0
  IsBound parity moment = (r : Root) → IsRootOf n parity (images moment (1 + parity)) r → r.generation ≤ root.generation

  older : (parity moment later : ℕ) → moment ≤ later → IsBound parity later → IsBound parity moment
  older parity moment later le bound r is = ⊎_elim
      (λ (same : images later (1 + parity) ≡ images moment (1 + parity)).
      bound r (subst (λ (s : List ℕ). IsRootOf n parity s r) (sym same) is))
      (λ (new : (next : Root) × IsRootOf n parity (images later (1 + parity)) next × (r.generation < next.generation)).
      omega (arith, new.2, bound new.0 new.1))
      (served.newer moment later parity r le is)

  stays : (parity first moment later : ℕ) → first ≤ moment → moment ≤ later → IsBound parity later → IsRootOf n parity (images first (1 + parity)) root
      → IsRootOf n parity (images moment (1 + parity)) root
  stays parity first moment later le until bound is = ⊎_elim
      (λ (same : images moment (1 + parity) ≡ images first (1 + parity)). subst (λ (s : List ℕ). IsRootOf n parity s root) (sym same) is)
      (λ (new : (next : Root) × IsRootOf n parity (images moment (1 + parity)) next × (root.generation < next.generation)).
      absurd (omega (arith, new.2, older parity moment later until bound new.0 new.1)))
      (served.newer first moment parity root le is)

  module _ (from to again upto : ℕ) (looked : HasLooked count n version root images from to) (found : HasLooked count n version root images again upto)
    where
      even_bound : IsBound 0 found.even.0
      even_bound r is = found.lives.greatest r (inl (subst (λ (s : List ℕ). IsRootOf n 0 s r) (sym found.even.3) is))

      odd_bound : IsBound 1 found.odd.0
      odd_bound r is = found.lives.greatest r (inr (subst (λ (s : List ℕ). IsRootOf n 1 s r) (sym found.odd.3) is))

      module _ (moment : ℕ) (after : to ≤ moment) (before : moment ≤ again) where
        until_even : moment ≤ found.even.0
        until_even = omega (arith, before, found.even.1)

        until_odd : moment ≤ found.odd.0
        until_odd = omega (arith, before, found.odd.1)

        has : HasRoot n (images moment) root
        has = ⊎_elim
            (λ (is : IsRootOf n 0 (looked.first 1) root). inl (stays 0 looked.even.0 moment found.even.0 (omega (arith, looked.even.2, after)) until_even
            even_bound (subst (λ (s : List ℕ). IsRootOf n 0 s root) looked.even.3 is)))
            (λ (is : IsRootOf n 1 (looked.first 2) root). inr (stays 1 looked.odd.0 moment found.odd.0 (omega (arith, looked.odd.2, after)) until_odd
            odd_bound (subst (λ (s : List ℕ). IsRootOf n 1 s root) looked.odd.3 is)))
            looked.lives.stands

        lives : LiveRoot count (images moment) n root
        lives = record {
          format = (served.lives moment).format;
          even = (served.lives moment).even;
          odd = (served.lives moment).odd;
          stands = has;
          greatest = λ r is. ⊎_elim
              (λ (even : IsRootOf n 0 (images moment 1) r). older 0 moment found.even.0 until_even even_bound r even)
              (λ (odd : IsRootOf n 1 (images moment 2) r). older 1 moment found.odd.0 until_odd odd_bound r odd)
              is;
        }

        pub same_root : served.root moment ≡ root
        same_root = (one_live count (images moment) n n (served.root moment) root (served.lives moment) lives).1

        pub journal_then : IsJournalOf n version root (served.records moment) (images moment)
        journal_then = subst (λ (r : Root). IsJournalOf n version r (served.records moment) (images moment)) same_root (served.journal moment)

        pub lives_then : LiveRoot count (images moment) n root
        lives_then = lives

      pub stretch : IsStretch n version root served.records images to again
      stretch = record {
        journal = journal_then;
        grows = λ moment later since le until.
            let here : served.root moment ≡ root = same_root moment since (omega (arith, le, until)) in
            let there : served.root later ≡ root = same_root later (omega (arith, since, le)) until in
            subst (λ (r : Root). OnlyGrows n r (served.records moment) (served.records later) (images moment) (images later)) here
            (served.grows moment later le (there ∙ sym here));
      }
