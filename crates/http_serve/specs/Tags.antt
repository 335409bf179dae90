-- Entity tags (RFC 9110, 8.8.3).
use Rattle.std.specs.Prelude.{ℕ, List, ◌++◌, codes, decimal}
use Rattle.http_serve.specs.declared.replies.EntityTag.{EntityTag}
use Rattle.http_serve.specs.declared.replies.Tag.{Tag}
use Rattle.http_serve.specs.declared.replies.Tag.TheVariants.{Strong, Weak}
use Rattle.http_serve.specs.declared.replies.WeakTag.{WeakTag}

-- a strong entity tag, as it is written: three numbers with dashes between them, in quotation marks (RFC 9110, 8.8.3)
unfoldable pub tag_text : EntityTag → List ℕ
tag_text tag = codes "\"" ++ decimal tag.version ++ codes "-" ++ decimal tag.change ++ codes "-" ++ decimal tag.length ++ codes "\""

-- what is quoted in a weak entity tag: two numbers with a dash between them, with the quotation marks
unfoldable pub weak_text : WeakTag → List ℕ
weak_text tag = codes "\"" ++ decimal tag.start ++ codes "-" ++ decimal tag.number ++ codes "\""

-- the mark of a weak entity tag
unfoldable pub weak_mark : List ℕ
weak_mark = codes "W/"

-- the entity tag of a reply, as it is written
abbrev pub written_tag : Tag → List ℕ
written_tag (Strong tag) = tag_text tag
written_tag (Weak tag) = weak_mark ++ weak_text tag
