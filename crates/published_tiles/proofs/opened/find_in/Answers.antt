use Rattle.std.specs.Prelude.{IfOk, IfSome}
use Rattle.std.proofs.Common.{◌≡◌, ◌≤◌, ℕ, Option, refl, ap, sym, subst, ◌∙◌}
use Rattle.std.proofs.lemmas.Result.{err_from_is_err_and}
use Rattle.pm_archive.specs.Spans.{end_of_span}
use Rattle.pm_archive.proofs.KeepsLaws.{keeps_on, passed_on}
use Rattle.published_tiles.specs.declared.place.ArchivePlace.{ArchivePlace}
use Rattle.published_tiles.specs.Opened.{OpenedView, IsOpenedOf, IsOpenedUpTo}
use Rattle.published_tiles.proofs.opened.find_in.Goals as goal
use Rattle.published_tiles.proofs.opened.find_in.Goals.{in-Some+else-is_of, in_default}

pub returns-then-is_of-clause-content : goal.returns-then-is_of-clause-content
returns-then-is_of-clause-content g c bytes content holds opened archive =
    let here = subst (λ (o : Option OpenedView). IsOpenedOf c.args.archive bytes o) c.in-Some.is opened in
    c.find.ensures.content bytes content holds (here (c.if-is_of.ensures.0 refl)) archive

pub returns-in_err-made-clause-content : goal.returns-in_err-made-clause-content
returns-in_err-made-clause-content g c =
    let p = err_from_is_err_and c.from_residual.result c.from_residual.ensures.1 in
    rw (p.1, p.2) (λ bytes content holds opened archive. c.in_err-made.ensures.fault bytes content holds archive)

pub returns-clause-content : goal.returns-clause-content
returns-clause-content g c bytes content holds opened archive =
    c.find-span.ensures.content bytes content holds (c.in_ok-made.ensures.found bytes (c.find-span.ensures.source.no_others bytes holds)) archive

pub returns-clause-read : goal.returns-clause-read
returns-clause-read g c e = g.met.B.Bytes.failed_on _ _ _ c.in_ok-made.ensures.source.same_behind (c.find-span.ensures.read e)

pub find-requires : goal.find-requires
find-requires g c = ap (λ (a : ArchivePlace). a.len) (c.if-is_of.ensures.0 refl) ∙ c.requires

pub returns-then-is_of-clause-source : goal.returns-then-is_of-clause-source
returns-then-is_of-clause-source g c = c.find.ensures.source

pub returns-then-is_of-clause-still : goal.returns-then-is_of-clause-still
returns-then-is_of-clause-still g c bytes holds opened same =
    let here = subst (λ (o : Option OpenedView). IsOpenedOf c.args.archive bytes o) c.in-Some.is opened in
    c.find.ensures.still bytes holds (here (c.if-is_of.ensures.0 refl))

pub returns-then-is_of-clause-up_to : goal.returns-then-is_of-clause-up_to
returns-then-is_of-clause-up_to g c last opened before =
    subst (λ (a : ArchivePlace). a.generation ≤ last) (sym (c.find.ensures.archive ∙ c.if-is_of.ensures.0 refl)) before

pub returns-then-is_of-clause-read : goal.returns-then-is_of-clause-read
returns-then-is_of-clause-read g c = c.find.ensures.read

pub open-requires : goal.open-requires
open-requires g c = c.requires

pub returns-in_err-made-clause-source : goal.returns-in_err-made-clause-source
returns-in_err-made-clause-source g c = c.in_err-made.ensures.source

-- a cached look-up of another archive, or none, is still what is cached
kept_opened : (g : _) (c : goal.After-from_residual g) → c.args.opened.now ≡ c.match-opened.opened
kept_opened g c = elim c.match-opened.branch [ in-Some+else-is_of w ↦ w.in-Some.is ∙ sym w.opened-is | in_default w ↦ sym w.opened-is ]

pub returns-in_err-made-clause-still : goal.returns-in_err-made-clause-still
returns-in_err-made-clause-still g c bytes holds opened = subst (λ (o : Option OpenedView). IsOpenedOf c.args.archive bytes o) (kept_opened g c) opened

pub returns-in_err-made-clause-up_to : goal.returns-in_err-made-clause-up_to
returns-in_err-made-clause-up_to g c last opened before = subst (λ (o : Option OpenedView). IsOpenedUpTo last o) (kept_opened g c) opened

pub returns-in_err-made-clause-read : goal.returns-in_err-made-clause-read
returns-in_err-made-clause-read g c =
    let p = err_from_is_err_and c.from_residual.result c.from_residual.ensures.1 in
    rw (p.1, p.2) (λ e. c.in_err-made.ensures.read (passed_on _ _ _ _ e))

pub find-span-requires : goal.find-span-requires
find-span-requires g c = ap (λ (a : ArchivePlace). a.len) c.in_ok-made.ensures.archive ∙ c.requires ∙ sym c.in_ok-made.ensures.source.same_count

pub returns-clause-source : goal.returns-clause-source
returns-clause-source g c = keeps_on g.met.B.Bytes.unchanged_on c.in_ok-made.ensures.source c.find-span.ensures.source

pub returns-clause-still : goal.returns-clause-still
returns-clause-still g c bytes holds opened same =
    c.find-span.ensures.still bytes holds (c.in_ok-made.ensures.found bytes (c.find-span.ensures.source.no_others bytes holds))

pub returns-clause-up_to : goal.returns-clause-up_to
returns-clause-up_to g c last opened before =
    subst (λ (a : ArchivePlace). a.generation ≤ last) (sym (c.find-span.ensures.archive ∙ c.in_ok-made.ensures.archive)) before

pub returns-then-is_of-clause-inside : goal.returns-then-is_of-clause-inside
returns-then-is_of-clause-inside g c = c.find.ensures.inside

pub returns-clause-inside : goal.returns-clause-inside
returns-clause-inside g c =
    subst (λ (n : ℕ). IfOk c.find-span.result (λ found. IfSome found (λ span. end_of_span span ≤ n))) c.in_ok-made.ensures.source.same_count
    c.find-span.ensures.inside
