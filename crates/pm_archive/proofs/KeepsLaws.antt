-- Sources that are unchanged, and faults that are passed on.
use Rattle.std.proofs.Common.{◌≡◌, ℕ, List, Result, Err, refl, sym, ap, subst, ◌∙◌}
use Rattle.byte_source.specs.Source.{Keeps}
use Rattle.pm_header.specs.declared.header.Header.{Header}
use Rattle.pm_archive.specs.Reading.{ArePlaced}
use Rattle.pm_archive.specs.declared.fault.ArchiveFault.{ArchiveFault}

-- a source from which nothing is read is unchanged
pub keeps_itself : {S : Type 0} {count : S → ℕ} {holds : S → List ℕ → Type 0} {unchanged : S → S → Type 0}
    → ((a : S) → unchanged a a) → {a : S} → Keeps count holds unchanged a a
keeps_itself itself {a} = record {
  same_count = refl;
  no_others = λ bytes held. held;
  same_behind = itself a;
}

-- a source that is unchanged twice is unchanged
pub keeps_on : {S : Type 0} {count : S → ℕ} {holds : S → List ℕ → Type 0} {unchanged : S → S → Type 0}
    → ((a b c : S) → unchanged a b → unchanged b c → unchanged a c)
    → {a b c : S} → Keeps count holds unchanged a b → Keeps count holds unchanged b c → Keeps count holds unchanged a c
keeps_on on {a} {b} {c} first then = record {
  same_count = then.same_count ∙ first.same_count;
  no_others = λ bytes held. first.no_others bytes (then.no_others bytes held);
  same_behind = on a b c first.same_behind then.same_behind;
}

-- sections that were inside of it still are
pub placed_on : {S : Type 0} {count : S → ℕ} {holds : S → List ℕ → Type 0} {unchanged : S → S → Type 0} (h : Header)
    → {a b : S} → Keeps count holds unchanged a b → ArePlaced (count a) h → ArePlaced (count b) h
placed_on h keeps = subst (λ (n : ℕ). ArePlaced n h) (sym keeps.same_count)

abbrev failing : (T : Type 0) → ArchiveFault → Result T ArchiveFault
failing T d = Err d

-- a fault that is passed on is still this one
pub passed_on : (T U : Type 0) (d e : ArchiveFault) → failing U d ≡ failing U e → failing T d ≡ failing T e
passed_on T U d e is = let same : d ≡ e = cc in ap (failing T) same
