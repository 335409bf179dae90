use Rattle.std.proofs.Common.{◌≡◌, ◌↔◌, true, sym, subst, ◌∙◌, rules, ap}
use Rattle.std.proofs.lemmas.Bool.{iff_false}
use Rattle.std.proofs.lemmas.Bool.Decides.{Decides-eqb}
use Rattle.std.proofs.lemmas.Slice.Eq.{slice_eq-Decides}
use Rattle.generations.specs.Sectors.{IsVersion, format_sector}
use Rattle.generations.proofs.Formats.{size_there, no_size, no_version}
use Rattle.generations.proofs.encoding.size_of.Goals as goal

pub returns-then-not-is_version : goal.returns-then-not-is_version
returns-then-not-is_version c =
    no_version c.args.sector.now (λ is. iff_false c.is_version.ensures c.if-not-is_version.true (subst IsVersion (sym c.version_at-version.ensures) is))

pub returns-then-eq : goal.returns-then-eq
returns-then-eq c =
    let decides : (c.eq.result ≡ true) ↔ (c.format_bytes-bytes.result ≡ c.args.sector.now) = slice_eq-Decides Decides-eqb _ _ _ c.eq.ensures in
    let version = subst IsVersion c.version_at-version.ensures (c.is_version.ensures.0 c.if-not-is_version.false) in
    size_there c.args.sector.now c.number_at-sectors.result c.number_at-sectors.ensures (search rules)
    (version, sym (decides.0 c.if-eq.true) ∙ c.format_bytes-bytes.ensures ∙ ap (λ v. format_sector v c.number_at-sectors.result) c.version_at-version.ensures)

pub returns-else-eq : goal.returns-else-eq
returns-else-eq c =
    let decides : (c.eq.result ≡ true) ↔ (c.format_bytes-bytes.result ≡ c.args.sector.now) = slice_eq-Decides Decides-eqb _ _ _ c.eq.ensures in
    no_size c.args.sector.now c.number_at-sectors.result c.number_at-sectors.ensures
    (λ is. iff_false decides c.if-eq.false (c.format_bytes-bytes.ensures ∙ ap (λ v. format_sector v c.number_at-sectors.result) c.version_at-version.ensures
    ∙ sym is.1))
