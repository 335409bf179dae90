use Rattle.std.proofs.Common.{◌≢◌, ℕ, length, sym, subst, ◌∙◌}
use Rattle.std.proofs.lemmas.Bool.{true≢false}
use Rattle.std.proofs.lemmas.Slice.Eq.{bytes_eq-Decides}
use Rattle.pm_build.specs.Different.{content_at}
use Rattle.pm_build.specs.Hashing.{content_hash}
use Rattle.pm_build.specs.Indexed.{IsLastOf, IsNextOf}
use Rattle.pm_build.specs.Storing.{ContentsView}
use Rattle.pm_build.proofs.Indexing.{next_first, falls, next_before, next_over}
use Rattle.pm_build.proofs.contents.Contents.find.Goals as goal
use Rattle.pm_build.proofs.contents.Contents.find.Goals.{After-before-next}

pub loop-next-init : goal.loop-next-init
loop-next-init c =
    next_first c.args.self.now.index.contents c.args.content.now c.last_of-next.result
    (subst (λ (h : ℕ). IsLastOf c.args.self.now.index.contents h (length c.args.self.now.index.contents) c.last_of-next.result) c.requires
    (subst (λ (v : ContentsView). IsLastOf v.index.contents c.args.hash (length v.index.contents) c.last_of-next.result) c.self.view_is c.last_of-next.ensures))

pub at-requires : goal.at-requires
at-requires c = (c.loop-next.invariant.there c.in-Some.place c.in-Some.is).0

-- the place before, by the contents that callers see
before : (c : After-before-next)
    → IsLastOf c.args.self.now.index.contents (content_hash (content_at c.args.self.now.index.contents c.in-Some.place)) c.in-Some.place c.before-next.result
before c =
    subst (λ (v : ContentsView). IsLastOf v.index.contents (content_hash (content_at v.index.contents c.in-Some.place)) c.in-Some.place c.before-next.result)
    c.self.view_is c.before-next.ensures

pub loop-next-smaller : goal.loop-next-smaller
loop-next-smaller c = falls c.args.self.now.index.contents _ c.in-Some.place _ _ c.in-Some.is (before c)

pub loop-next-preserved : goal.loop-next-preserved
loop-next-preserved c =
    let cs = c.args.self.now.index.contents in
    let q = c.args.content.now in
    let place = c.in-Some.place in
    let other : content_at cs place ≢ q = λ same.
    let equal = (bytes_eq-Decides _ q).1 (c.at.ensures ∙ same) in
    true≢false (sym equal ∙ sym c.eq.ensures ∙ c.if-eq.false) in
    next_before cs q place c.before-next.result (subst (λ o. IsNextOf cs q o) c.in-Some.is c.loop-next.invariant) other (before c)

pub returns-clause-none : goal.returns-clause-none
returns-clause-none c same = next_over c.args.self.now.index.contents c.args.content.now c.loop-next.next c.in_default.not-Some c.loop-next.invariant
