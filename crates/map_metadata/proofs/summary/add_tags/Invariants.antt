use Rattle.std.proofs.Common.{◌≡◌, ℕ, List}
use Rattle.edit_text.specs.Views.{tags_view}
use Rattle.map_metadata.specs.Fields.{kinds_of}
use Rattle.map_metadata.specs.Summaries.{kind_at, with_kinds}
use Rattle.map_metadata.proofs.summary.add_tags.Given as goal

-- the kinds so far, and of the tags that are left
abbrev pub invariant-loop-tag : goal.invariant-loop-tag
invariant-loop-tag l =
    (name : List ℕ)
    → with_kinds (kind_at l.fields name) (kinds_of (tags_view l.tag-iterator) name)
    ≡ with_kinds (kind_at l.initial.fields name) (kinds_of (tags_view l.tags) name)
