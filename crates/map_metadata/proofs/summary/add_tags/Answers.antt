use Rattle.std.proofs.Common.{sym, ap, ◌∙◌}
use Rattle.edit_text.specs.Views.{tag_view, tags_view}
use Rattle.map_metadata.specs.Fields.{kinds_of}
use Rattle.map_metadata.specs.Summaries.{kind_at, with_kinds}
use Rattle.map_metadata.proofs.Added.{tags_more}
use Rattle.map_metadata.proofs.summary.add_tags.Goals as goal

pub loop-tag-preserved : goal.loop-tag-preserved
loop-tag-preserved c name =
    tags_more (tags_view c.loop-tag.tag-iterator) (tags_view c.next.new.self) (tag_view c.in-Some.tag) name c.of.result (kind_at c.loop-tag.fields name) _ _
    c.in-Some.ensures.steps c.of.ensures (c.in_ok-add_kind.ensures name) (c.loop-tag.invariant name)

pub returns : goal.returns
returns c name =
    ap (λ ts. with_kinds (kind_at c.loop-tag.fields name) (kinds_of ts name)) (sym c.in-None.ensures.steps.0) ∙ c.loop-tag.invariant name
