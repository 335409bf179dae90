use Rattle.pm_archive.specs.Reading.{ArePlaced}
use Rattle.reader.proofs.Steps.{not_both}
use Rattle.std.proofs.Common.{◌≡◌, ℕ, List, length, refl, sym, ◌∙◌, subst}
use Rattle.std.proofs.lemmas.Bool.{false≢true}
use Rattle.std.proofs.lemmas.Result.{err_from_is_err_and}
use Rattle.pm_archive.specs.Sections.{HasSections}
use Rattle.pm_archive.proofs.KeepsLaws.{passed_on, keeps_on}
use Rattle.pm_archive.proofs.OpenedLaws.{misplaced_fault, compressed_fault, has_sections, root_read, root_refused}
use Rattle.pm_archive.proofs.opening.header_and_root.Goals as goal

pub returns-in-Some-clause-fault : goal.returns-in-Some-clause-fault
returns-in-Some-clause-fault g c = λ bytes holds _.
    let all : c.len.result ≡ length bytes = c.len.ensures ∙ c.header_in.ensures.source.same_count
    ∙ sym (g.met.B.Bytes.sized c.args.source.now bytes (c.header_in.ensures.source.no_others bytes holds)) in
    misplaced_fault bytes c.in_ok-header.header c.len.result all (c.in_ok-header.ensures.found bytes holds) c.in-Some.section c.in-Some.ensures.section

pub returns-then-not-has_plain_directories-clause-fault : goal.returns-then-not-has_plain_directories-clause-fault
returns-then-not-has_plain_directories-clause-fault g c = λ bytes holds _.
    let all : c.len.result ≡ length bytes = c.len.ensures ∙ c.header_in.ensures.source.same_count
    ∙ sym (g.met.B.Bytes.sized c.args.source.now bytes (c.header_in.ensures.source.no_others bytes holds)) in
    compressed_fault bytes c.in_ok-header.header c.len.result all (c.in_ok-header.ensures.found bytes holds) c.in_default.ensures.none
    (λ plain. absurd (false≢true (c.if-not-has_plain_directories.ensures.1 plain)))

pub returns-clause-found : goal.returns-clause-found
returns-clause-found g c = λ bytes holds.
    let header = c.in_ok-root.ensures.source.no_others bytes holds in
    let before = c.header_in.ensures.source.no_others bytes header in
    let all : c.len.result ≡ length bytes = c.len.ensures ∙ c.header_in.ensures.source.same_count
    ∙ sym (g.met.B.Bytes.sized c.args.source.now bytes before) in (
      has_sections bytes c.in_ok-header.header c.len.result all (c.in_ok-header.ensures.found bytes header) c.in_default.ensures.none
          (c.if-not-has_plain_directories.ensures.0 refl),
      root_read bytes c.in_ok-header.header c.in_ok-root.root.items (c.in_ok-root.ensures.directory bytes holds),
    )

-- the bytes have these sections, if the root directory couldn't be read
has : (g : _) (c : goal.After-from_residual-in_err-root g) (bytes : List ℕ) → g.B.Bytes.holds c.directory_from.new.source bytes
    → HasSections bytes c.in_ok-header.header
has g c bytes holds =
    let header = c.in_err-root.ensures.source.no_others bytes holds in
    let before = c.header_in.ensures.source.no_others bytes header in
    let all : c.len.result ≡ length bytes = c.len.ensures ∙ c.header_in.ensures.source.same_count ∙ sym (g.met.B.Bytes.sized c.args.source.now bytes before) in
    has_sections bytes c.in_ok-header.header c.len.result all (c.in_ok-header.ensures.found bytes header) c.in_default.ensures.none
    (c.if-not-has_plain_directories.ensures.0 refl)

pub returns-in_err-root-clause-fault : goal.returns-in_err-root-clause-fault
returns-in_err-root-clause-fault g c =
    let p = err_from_is_err_and c.from_residual-in_err-root.result c.from_residual-in_err-root.ensures.1 in
    rw (p.1, p.2) (λ bytes holds.
    root_refused bytes c.in_ok-header.header c.in_err-root.field-0.0 (has g c bytes holds) (c.in_err-root.ensures.directory bytes holds))

pub returns-in_err-root-clause-memory : goal.returns-in_err-root-clause-memory
returns-in_err-root-clause-memory g c = λ bytes holds _. (c.in_ok-header.header, has g c bytes holds)

pub returns-in_err-root-clause-read : goal.returns-in_err-root-clause-read
returns-in_err-root-clause-read g c =
    let p = err_from_is_err_and c.from_residual-in_err-root.result c.from_residual-in_err-root.ensures.1 in
    rw (p.1, p.2) (λ e. g.met.B.Bytes.failed_on _ _ _ c.in_ok-header.ensures.source.same_behind (c.in_err-root.ensures.read (passed_on _ _ _ _ e)))

pub returns-in_err-root-clause-source : goal.returns-in_err-root-clause-source
returns-in_err-root-clause-source g c = keeps_on g.met.B.Bytes.unchanged_on c.in_ok-header.ensures.source c.in_err-root.ensures.source

pub returns-clause-source : goal.returns-clause-source
returns-clause-source g c = keeps_on g.met.B.Bytes.unchanged_on c.in_ok-header.ensures.source c.in_ok-root.ensures.source

pub returns-in_err-header-clause-source : goal.returns-in_err-header-clause-source
returns-in_err-header-clause-source g c = c.in_err-header.ensures.source

pub returns-in_err-header-clause-placed : goal.returns-in_err-header-clause-placed
returns-in_err-header-clause-placed g c = rw (err_from_is_err_and c.from_residual.result c.from_residual.ensures.1).1 tt

pub returns-in_err-header-clause-ascending : goal.returns-in_err-header-clause-ascending
returns-in_err-header-clause-ascending g c = rw (err_from_is_err_and c.from_residual.result c.from_residual.ensures.1).1 tt

pub returns-in_err-header-clause-each : goal.returns-in_err-header-clause-each
returns-in_err-header-clause-each g c = rw (err_from_is_err_and c.from_residual.result c.from_residual.ensures.1).1 tt

pub returns-in_err-header-clause-found : goal.returns-in_err-header-clause-found
returns-in_err-header-clause-found g c = rw (err_from_is_err_and c.from_residual.result c.from_residual.ensures.1).1 (λ _ _. tt)

pub returns-in_err-header-clause-read : goal.returns-in_err-header-clause-read
returns-in_err-header-clause-read g c =
    let p = err_from_is_err_and c.from_residual.result c.from_residual.ensures.1 in
    rw (p.1, p.2) (λ e. c.in_err-header.ensures.read (passed_on _ _ _ _ e))

pub returns-in_err-header-clause-memory : goal.returns-in_err-header-clause-memory
returns-in_err-header-clause-memory g c =
    let p = err_from_is_err_and c.from_residual.result c.from_residual.ensures.1 in
    rw (p.1, p.2) (λ _ _ e. absurd (c.in_err-header.ensures.memory (passed_on _ _ _ _ e)))

pub returns-in-Some-clause-source : goal.returns-in-Some-clause-source
returns-in-Some-clause-source g c = c.in_ok-header.ensures.source

pub returns-then-not-has_plain_directories-clause-source : goal.returns-then-not-has_plain_directories-clause-source
returns-then-not-has_plain_directories-clause-source g c = c.in_ok-header.ensures.source

pub returns-in_err-root-clause-placed : goal.returns-in_err-root-clause-placed
returns-in_err-root-clause-placed g c = rw (err_from_is_err_and c.from_residual-in_err-root.result c.from_residual-in_err-root.ensures.1).1 tt

pub returns-in_err-root-clause-ascending : goal.returns-in_err-root-clause-ascending
returns-in_err-root-clause-ascending g c = rw (err_from_is_err_and c.from_residual-in_err-root.result c.from_residual-in_err-root.ensures.1).1 tt

pub returns-in_err-root-clause-each : goal.returns-in_err-root-clause-each
returns-in_err-root-clause-each g c = rw (err_from_is_err_and c.from_residual-in_err-root.result c.from_residual-in_err-root.ensures.1).1 tt

pub returns-in_err-root-clause-found : goal.returns-in_err-root-clause-found
returns-in_err-root-clause-found g c = rw (err_from_is_err_and c.from_residual-in_err-root.result c.from_residual-in_err-root.ensures.1).1 (λ _ _. tt)

pub returns-clause-placed : goal.returns-clause-placed
returns-clause-placed g c = subst (λ n. ArePlaced n c.in_ok-header.header) (c.len.ensures ∙ c.header_in.ensures.source.same_count) c.in_default.ensures.none

pub returns-clause-ascending : goal.returns-clause-ascending
returns-clause-ascending g c = c.in_ok-root.ensures.ascending

pub returns-clause-each : goal.returns-clause-each
returns-clause-each g c = c.in_ok-root.ensures.each

pub returns-clause-read : goal.returns-clause-read
returns-clause-read g c = λ e. absurd (not_both _ _ e)

pub returns-clause-memory : goal.returns-clause-memory
returns-clause-memory g c = λ _ _ e. absurd (not_both _ _ e)
