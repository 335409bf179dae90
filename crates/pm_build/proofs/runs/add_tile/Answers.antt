use Rattle.std.proofs.Common.{◌≡◌, ℕ, List, [], ◌∷◌, ◌++◌, length, take, drop, true, false, sym, ap, subst, ◌∙◌, arith}
use Rattle.std.specs.Result.{OnErr}
use Rattle.std.proofs.lemmas.List.{take_at}
use Rattle.std.proofs.lemmas.Result.{on_ok_weaker}
use Rattle.pm_build.specs.declared.run.Run.{Run}
use Rattle.pm_build.specs.TileContents.{bytes_of}
use Rattle.pm_build.specs.Joined.{ArePlaces, IsLast, goes_on_last, last_grown, run_of, run_views}
use Rattle.pm_build.specs.Storing.{ContentsView}
use Rattle.pm_build.specs.Tiles.{Tile}
use Rattle.pm_build.proofs.Adding.{joined_there, with_on, with_off, few_on, count_off}
use Rattle.pm_build.proofs.runs.add_tile.Goals as goal
use Rattle.pm_build.proofs.runs.add_tile.Goals.{After-begin_run}

-- runs that were changed in their place
changed : (n : ℕ) (new items : List Run) → length new ≡ n → take n (new ++ drop (length new) items) ≡ new
changed n new items size = take_at new (drop (length new) items) n size

-- runs in which nothing was changed
restored : (n : ℕ) (new items : List Run) → new ≡ items → length items ≡ n → take n (new ++ drop (length new) items) ≡ items
restored n new items same size =
    ap (λ (xs : List Run). take n (xs ++ drop (length xs) items)) same ∙ take_at items (drop (length items) items) n size

joins : (c : goal.After-drop_ahead)
    → goes_on_last (run_views c.args.contents.now.index.contents c.args.runs.now.items)
    (c.args.id, bytes_of c.args.content c.args.contents.now.ahead) ≡ true
joins c =
    let cs = c.args.contents.now.index.contents in
    let t : Tile = (c.args.id, bytes_of c.args.content c.args.contents.now.ahead) in
    let value = c.deref_mut.ensures.value in
    let last = subst (λ (rs : List Run). IsLast cs rs c.last_content-last.result.now) (c.deref.ensures.value ∙ sym value) c.last_content-last.ensures in
    ap (λ (rs : List Run). goes_on_last (run_views cs rs) t) (sym value)
    ∙ ap (λ (bytes : List ℕ). goes_on_last (run_views cs c.deref_mut.result.now) (c.args.id, bytes)) (sym c.bytes_of.ensures)
    ∙ sym (c.if-join_last.ensures.joins cs last)

begins : (c : After-begin_run)
    → goes_on_last (run_views c.args.contents.now.index.contents c.args.runs.now.items)
    (c.args.id, bytes_of c.args.content c.args.contents.now.ahead) ≡ false
begins c =
    let cs = c.args.contents.now.index.contents in
    let t : Tile = (c.args.id, bytes_of c.args.content c.args.contents.now.ahead) in
    let value = c.deref_mut.ensures.value in
    let last = subst (λ (rs : List Run). IsLast cs rs c.last_content-last.result.now) (c.deref.ensures.value ∙ sym value) c.last_content-last.ensures in
    ap (λ (rs : List Run). goes_on_last (run_views cs rs) t) (sym value)
    ∙ ap (λ (bytes : List ℕ). goes_on_last (run_views cs c.deref_mut.result.now) (c.args.id, bytes)) (sym c.bytes_of.ensures)
    ∙ sym (c.if-join_last.ensures.joins cs last)

pub returns-then-join_last-clause-contents : goal.returns-then-join_last-clause-contents
returns-then-join_last-clause-contents c =
    ap (λ (v : ContentsView). v.index.contents) c.drop_ahead.ensures
    ∙ joined_there c.args.contents.now.index.contents c.args.runs.now.items (c.args.id, bytes_of c.args.content c.args.contents.now.ahead)
    c.requires.places (joins c)

pub returns-then-join_last-clause-added : goal.returns-then-join_last-clause-added
returns-then-join_last-clause-added c =
    let cs = c.args.contents.now.index.contents in
    let new = c.join_last.new.runs in
    let items = c.args.runs.now.items in
    let value = c.deref_mut.ensures.value in
    let size : length new ≡ c.args.runs.now.len =
    omega (arith, c.join_last.ensures.count, ap (λ (rs : List Run). length rs) value, c.args.runs.now.ok) in
    ap (λ (v : ContentsView). run_views v.index.contents (take c.args.runs.now.len (new ++ drop (length new) items))) c.drop_ahead.ensures
    ∙ ap (λ (rs : List Run). run_views cs rs) (changed c.args.runs.now.len new items size) ∙ c.if-join_last.ensures.runs cs
    ∙ ap (λ (rs : List Run). last_grown (run_views cs rs)) value ∙ sym
    (with_on (run_views cs items) (c.args.id, bytes_of c.args.content c.args.contents.now.ahead) (joins c))

pub returns-then-join_last-clause-places : goal.returns-then-join_last-clause-places
returns-then-join_last-clause-places c =
    let cs = c.args.contents.now.index.contents in
    let new = c.join_last.new.runs in
    let value = c.deref_mut.ensures.value in
    let size : length new ≡ c.args.runs.now.len =
    omega (arith, c.join_last.ensures.count, ap (λ (rs : List Run). length rs) value, c.args.runs.now.ok) in
    subst (λ (v : ContentsView). ArePlaces v.index.contents (take c.args.runs.now.len (new ++ drop (length new) c.args.runs.now.items)))
    (sym c.drop_ahead.ensures)
    (subst (λ (rs : List Run). ArePlaces cs rs) (sym (changed c.args.runs.now.len new c.args.runs.now.items size))
    (c.if-join_last.ensures.places cs (subst (λ (rs : List Run). ArePlaces cs rs) (sym value) c.requires.places)))

pub returns-then-join_last-clause-few : goal.returns-then-join_last-clause-few
returns-then-join_last-clause-few c =
    let new = c.join_last.new.runs in
    let size : length new ≡ c.args.runs.now.len =
    omega (arith, c.join_last.ensures.count, ap (λ (rs : List Run). length rs) c.deref_mut.ensures.value, c.args.runs.now.ok) in
    omega (arith, size, c.args.runs.now.ok, c.requires.few, ap (λ (rs : List Run). length rs) (changed c.args.runs.now.len new c.args.runs.now.items size))

pub returns-then-join_last-clause-many : goal.returns-then-join_last-clause-many
returns-then-join_last-clause-many c =
    let t : Tile = (c.args.id, bytes_of c.args.content c.args.contents.now.ahead) in
    let few = few_on c.args.contents.now.index.contents c.args.runs.now.items t 131072 (joins c) c.requires.few in (
      λ bad. absurd (cc),
      λ more. absurd (omega (arith, few, more)),
    )

pub begin_run-requires-clause-few : goal.begin_run-requires-clause-few
begin_run-requires-clause-few c =
    let items = c.args.runs.now.items in
    let same = c.if-join_last.ensures.unchanged ∙ c.deref_mut.ensures.value in
    let still = restored c.args.runs.now.len c.join_last.new.runs items same (omega (arith, c.args.runs.now.ok)) in
    omega (arith, c.requires.few, ap (λ (rs : List Run). length rs) still)

pub begin_run-requires-clause-places : goal.begin_run-requires-clause-places
begin_run-requires-clause-places c =
    let items = c.args.runs.now.items in
    let same = c.if-join_last.ensures.unchanged ∙ c.deref_mut.ensures.value in
    subst (λ (rs : List Run). ArePlaces c.args.contents.now.index.contents rs)
    (sym (restored c.args.runs.now.len c.join_last.new.runs items same (omega (arith, c.args.runs.now.ok)))) c.requires.places

pub returns-clause-unchanged : goal.returns-clause-unchanged
returns-clause-unchanged c =
    let items = c.args.runs.now.items in
    let same = c.if-join_last.ensures.unchanged ∙ c.deref_mut.ensures.value in
    subst (λ (runs : List Run). OnErr c.begin_run.result (c.begin_run.new.runs.items ≡ runs))
    (restored _ c.join_last.new.runs items same (omega (arith, c.args.runs.now.ok))) c.begin_run.ensures.unchanged

pub returns-clause-added : goal.returns-clause-added
returns-clause-added c =
    let cs = c.args.contents.now.index.contents in
    let items = c.args.runs.now.items in
    let t : Tile = (c.args.id, bytes_of c.args.content c.args.contents.now.ahead) in
    let same = c.if-join_last.ensures.unchanged ∙ c.deref_mut.ensures.value in
    let stays = restored c.args.runs.now.len c.join_last.new.runs items same (omega (arith, c.args.runs.now.ok)) in
    on_ok_weaker c.begin_run.result
    (λ begun. begun ∙ ap (λ (rs : List Run). run_views cs rs ++ run_of t ∷ []) stays ∙ sym (with_off (run_views cs items) t (begins c)))
    c.begin_run.ensures.begun

pub returns-clause-many : goal.returns-clause-many
returns-clause-many c =
    let items = c.args.runs.now.items in
    let same = c.if-join_last.ensures.unchanged ∙ c.deref_mut.ensures.value in
    let stays = restored c.args.runs.now.len c.join_last.new.runs items same (omega (arith, c.args.runs.now.ok)) in
    let size = ap (λ (rs : List Run). length rs) stays in
    let count = count_off c.args.contents.now.index.contents items (c.args.id, bytes_of c.args.content c.args.contents.now.ahead) (begins c) in (
      λ told. omega (arith, size, count, c.begin_run.ensures.many.0 told),
      λ more. c.begin_run.ensures.many.1 (omega (arith, size, count, more)),
    )

pub returns-clause-memory : goal.returns-clause-memory
returns-clause-memory c _ = begins c
