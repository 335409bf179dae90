use Rattle.std.proofs.Common.{refl, sym, ◌∙◌, arith}
use Rattle.std.proofs.lemmas.Bool.{false≢true}
use Rattle.edit_json.proofs.TagLemmas.{names_ascend, length-names_of}
use Rattle.edit_json.proofs.tags.check_tags.Goals.{else-tag_count_fits-via-then-tag_count_fits+else-keys_fit}
use Rattle.edit_json.proofs.tags.check_tags.Goals.{else-tag_count_fits-via-else-tag_count_fits}
use Rattle.edit_json.proofs.tags.check_tags.Goals as goal

pub returns-then-keys_fit-clause-ok : goal.returns-then-keys_fit-clause-ok
returns-then-keys_fit-clause-ok c =
    (omega (arith, length-names_of c.args.tags.now.entries, c.if-tag_count_fits.ensures.0 refl), c.if-keys_fit.ensures.0 refl)

pub returns-then-keys_fit-clause-ascending : goal.returns-then-keys_fit-clause-ascending
returns-then-keys_fit-clause-ascending c = names_ascend c.args.tags.now.entries c.len.ensures.ordered

pub returns-else-tag_count_fits-clause-fault : goal.returns-else-tag_count_fits-clause-fault
returns-else-tag_count_fits-clause-fault c =
    elim c.else-tag_count_fits.branch [
      | else-tag_count_fits-via-then-tag_count_fits+else-keys_fit w ↦
          (refl, λ h. false≢true (sym w.if-keys_fit.false ∙ w.keys_fit.ensures.1 h.1))
      | else-tag_count_fits-via-else-tag_count_fits w ↦ (
        refl,
        λ h. false≢true (sym w.if-tag_count_fits.false
            ∙ c.tag_count_fits.ensures.1 (omega (arith, length-names_of c.args.tags.now.entries, h.0))),
      )
    ]

pub returns-else-tag_count_fits-clause-ascending : goal.returns-else-tag_count_fits-clause-ascending
returns-else-tag_count_fits-clause-ascending c = names_ascend c.args.tags.now.entries c.len.ensures.ordered
