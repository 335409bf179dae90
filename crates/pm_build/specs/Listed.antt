-- Contents as they are listed.
use Rattle.std.specs.Prelude.{ℕ, List, [], ◌∷◌, ◌++◌, drop}
use Rattle.pm_build.specs.declared.content_list.ContentList.{ContentList}
use Rattle.pm_build.specs.declared.content_list.Listed.{Listed, Nothing, Added'}

-- the contents, in the order in which they were added
abbrev pub contents_in : Listed → List (List ℕ)
contents_in Nothing = []
contents_in (Added' bytes from marker before) = contents_in before ++ drop from bytes.value.items ∷ []

-- the same of a list
abbrev pub contents_listed : ContentList → List (List ℕ)
contents_listed l = contents_in l.listed.value
