-- How the different contents are stored.
use Rattle.std.specs.Prelude.{ℕ, List, length, drop}
use Rattle.std.specs.List.{concat}
use Rattle.pm_build.specs.declared.contents.Contents.TheInside.{Inside}
use Rattle.pm_build.specs.Ahead.{AreStored}
use Rattle.pm_build.specs.Hashing.{IsHashed}
use Rattle.pm_build.specs.Indexed.{IndexView}

-- what contracts see: the contents that are stored, and the first bytes of the one that is added next, as far as they are put ahead
pub record ContentsView : Type 0 where
  pub index : IndexView
  pub ahead : List ℕ

abbrev pub contents_view : Inside → ContentsView
contents_view c = record { index = c.index; ahead = drop (length (concat c.index.contents)) c.bytes.items }

-- the contents are stored, and it is known what is hashed of the bytes after them
pub record IsStore (c : Inside) : Type 0 where
  pub stored : AreStored c.index.contents c.bytes.items
  pub hashed : IsHashed (drop (length (concat c.index.contents)) c.bytes.items) c.hashed.words c.hashed.hash
