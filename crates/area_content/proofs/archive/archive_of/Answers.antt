use Rattle.std.proofs.Common.{◌≡◌, ℕ, List, [], ◌++◌, inl, sym, ap, ◌∙◌, refl}
use Rattle.std.proofs.lemmas.Bool.{false≢true}
use Rattle.area_content.proofs.Bounds.{none_bounded}
use Rattle.area_content.proofs.Written.{archive_built}
use Rattle.area_content.proofs.archive.archive_of.Goals as goal

pub returns-then-is_empty-clause-of_tiles : goal.returns-then-is_empty-clause-of_tiles
returns-then-is_empty-clause-of_tiles c =
    let contents = c.new-then-is_empty.result.items in
    let empty : c.new.result.items ++ contents ≡ [] = ap (λ (bs : List ℕ). bs ++ contents) c.new.ensures.items ∙ c.new-then-is_empty.ensures.items in
    inl (c.is_empty.ensures.0 c.if-is_empty.true, empty)

pub returns-then-is_empty-clause-bounded : goal.returns-then-is_empty-clause-bounded
returns-then-is_empty-clause-bounded c =
    let contents = c.new-then-is_empty.result.items in
    let empty : c.new.result.items ++ contents ≡ [] = ap (λ (bs : List ℕ). bs ++ contents) c.new.ensures.items ∙ c.new-then-is_empty.ensures.items in
    none_bounded c.args.builder.tiles c.args.metadata.now _ (c.is_empty.ensures.0 c.if-is_empty.true) empty

pub returns-clause-of_tiles : goal.returns-clause-of_tiles
returns-clause-of_tiles c = archive_built c.finish.result c.args.builder.tiles c.args.metadata.now c.finish.ensures.header c.finish.ensures.archive

pub same-builder : goal.same-builder
same-builder c = refl

pub finish-requires-clause-some : goal.finish-requires-clause-some
finish-requires-clause-some c none = false≢true (sym c.if-is_empty.false ∙ c.is_empty.ensures.1 none)

pub finish-requires-clause-metadata : goal.finish-requires-clause-metadata
finish-requires-clause-metadata c = c.requires.metadata
