use Rattle.feature_model.specs.Data.{tag_data}
use Rattle.feature_model.specs.Spelled.{spelled_tag}
use Rattle.feature_model.specs.Types.{TagFitsTypes}
use Rattle.edit_text.proofs.Texts.{IsPut}
use Rattle.edit_text.proofs.encoding.put_tags.Given as goal

abbrev pub invariant-loop-tag : goal.invariant-loop-tag
invariant-loop-tag l = IsPut spelled_tag TagFitsTypes tag_data l.tags l.tag-index l.initial.out.items l.out.items
