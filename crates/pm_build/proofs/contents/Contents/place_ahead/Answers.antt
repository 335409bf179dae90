use Rattle.std.proofs.Common.{◌≡◌, None, ◌++◌, ◌∷◌, [], ℕ, List, drop, refl, sym, ap, ◌∙◌}
use Rattle.std.specs.List.{concat}
use Rattle.pm_build.specs.Different.{offset_from}
use Rattle.pm_build.specs.Storing.{ContentsView}
use Rattle.pm_build.proofs.AheadBytes.{exactly_stored}
use Rattle.pm_build.proofs.Different.{with_at, with_new}
use Rattle.pm_build.proofs.FirstTiles.{firsts_push}
use Rattle.pm_build.proofs.Storing.{ahead_stored, none_ahead}
use Rattle.pm_build.proofs.Words.{none_known}
use Rattle.pm_build.proofs.contents.Contents.place_ahead.Goals as goal

-- all bytes are those of the contents with the one that was ahead
all_are : (c : goal.After-self-1) → c.self.inside.bytes.items ≡ concat c.push.new.self.contents
all_are c =
    let inside = c.self.inside in
    ahead_stored inside.index.contents c.push.new.self.contents c.total-from.result inside.bytes.items c.self.invariant.stored c.total-from.ensures
    c.in_ok-place-in-None.ensures.contents

-- which is what callers see
ahead_is : (c : goal.After-self-1) → drop c.total-from.result c.self.inside.bytes.items ≡ c.args.self.now.ahead
ahead_is c =
    ap (λ (n : ℕ). drop n c.self.inside.bytes.items) c.total-from.ensures ∙ ap (λ (v : ContentsView). v.ahead) c.self.view_is

pub invariant_of-self-in-None : goal.invariant_of-self-in-None
invariant_of-self-in-None c = record {
  stored = exactly_stored c.push.new.self.contents c.self.inside.bytes.items (all_are c);
  hashed = none_known _ c.none-self-inside.result c.none-self-inside.ensures;
}

pub returns-in-Some-clause-contents : goal.returns-in-Some-clause-contents
returns-in-Some-clause-contents c =
    let cs = c.args.self.now.index.contents in
    let place = c.in-Some.place in
    ap (λ (v : ContentsView). v.index.contents) c.drop_ahead.ensures
    ∙ with_at cs place c.args.self.now.ahead c.in-Some.ensures.found.0 (c.in-Some.ensures.found.1 ∙ c.ahead.ensures)

pub returns-in_ok-place-in-None-clause-contents : goal.returns-in_ok-place-in-None-clause-contents
returns-in_ok-place-in-None-clause-contents c =
    let now = c.args.self.now in
    let absent : offset_from 0 now.index.contents now.ahead ≡ None =
    ap (λ (xs : List ℕ). offset_from 0 now.index.contents xs) (sym c.ahead.ensures) ∙ c.in-None.ensures.none refl in
    c.in_ok-place-in-None.ensures.contents ∙ ap (λ (xs : List ℕ). c.self.inside.index.contents ++ xs ∷ []) (ahead_is c)
    ∙ ap (λ (v : ContentsView). v.index.contents ++ now.ahead ∷ []) c.self.view_is ∙ sym (with_new now.index.contents now.ahead absent)

pub returns-in_ok-place-in-None-clause-firsts : goal.returns-in_ok-place-in-None-clause-firsts
returns-in_ok-place-in-None-clause-firsts c ts are there =
    let now = c.args.self.now in
    let new = c.push.new.self in
    let ids = c.in_ok-place-in-None.ensures.firsts ∙ ap (λ (v : ContentsView). v.index.firsts ++ c.args.first ∷ []) c.self.view_is in
    let contents = c.in_ok-place-in-None.ensures.contents ∙ ap (λ (xs : List ℕ). c.self.inside.index.contents ++ xs ∷ []) (ahead_is c)
    ∙ ap (λ (v : ContentsView). v.index.contents ++ now.ahead ∷ []) c.self.view_is in
    firsts_push ts now.index new c.args.first now.ahead ids contents are there

pub returns-in_ok-place-in-None-clause-ahead : goal.returns-in_ok-place-in-None-clause-ahead
returns-in_ok-place-in-None-clause-ahead c = none_ahead c.push.new.self.contents c.self.inside.bytes.items (all_are c)
