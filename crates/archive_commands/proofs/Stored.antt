-- The bytes that are stored from the first sector of a disk on, as a source.
use Rattle.std.proofs.Common.{◌≡◌, ◌∙◌, ℕ, List, sym, subst}
use Rattle.sector_disk.specs.Disk.{History, seen}
use Rattle.sector_bytes.specs.Bytes.{StandsIn}
use Rattle.sector_bytes.specs.Source.{SourceView, AreItsBytes, IsUntouched}
use Rattle.sector_bytes.proofs.Laws.{still_there}

-- a source that was made over a disk, and of which only parts were read, has the bytes that the disk had
pub has_stored : {D : Type 0} (sectors : D → ℕ) (honest : D → Type 0) (history : D → History) (faults : D → ℕ) (made last : SourceView D) (disk : D) (len : ℕ)
    (bytes : List ℕ) → made.disk.now ≡ disk → made.first ≡ 0 → made.len ≡ len → IsUntouched sectors honest history faults made last → last.len ≡ made.len
    → honest last.disk.now → AreItsBytes 0 len bytes (seen (history disk)) → AreItsBytes last.first last.len bytes (seen (history last.disk.now))
has_stored {D} sectors honest history faults made last disk len bytes disk_is first_is len_is same same_len is are =
    still_there sectors honest history faults made last bytes same same_len is (record {
      length_is = are.length_is ∙ sym len_is;
      stands = subst (λ (d : D). StandsIn made.first bytes (seen (history d))) (sym disk_is)
          (subst (λ (f : ℕ). StandsIn f bytes (seen (history disk))) (sym first_is) are.stands);
    })
