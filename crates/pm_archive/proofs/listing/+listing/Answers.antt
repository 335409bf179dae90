use Rattle.reader.proofs.Steps.{not_both}
use Rattle.std.proofs.lemmas.Grind.{common_steps}
use Rattle.std.proofs.Common.{◌≡◌, ◌∙◌, arith, rules, refl}
use Rattle.std.proofs.lemmas.Result.{err_from_is_err_and}
use Rattle.pm_archive.specs.Reading.{lists_at, tile_at}
use Rattle.pm_archive.proofs.KeepsLaws.{keeps_on, keeps_itself, placed_on}
use Rattle.pm_archive.proofs.ListedLaws.{each_on, each_fault, first_lies, lists_tile, lists_leaf, leaf_fault, tile_lies, leaf_lies, tile_is_no_leaf, not_zero}
use Rattle.pm_archive.proofs.listing.+listing.Goals as goal

pub push_each-returns-in_err-push_listed-clause-listed : goal.push_each-returns-in_err-push_listed-clause-listed
push_each-returns-in_err-push_listed-clause-listed g t c =
    let p = err_from_is_err_and c.from_residual.result c.from_residual.ensures.1 in
    rw (p.1, p.2) (λ bytes held.
    each_fault (lists_at bytes c.args.header.now c.args.more) c.args.bound c.args.entries.now c.loop-i.i _ c.loop-i.tiles.items
    c.bound_behind-bound.result _ c.in_err-push_listed.field-0.0 c.loop-i-test.true c.bound_behind-bound.ensures
    (c.loop-i.invariant.listed bytes (c.in_err-push_listed.ensures.source.no_others bytes held))
    (c.in_err-push_listed.ensures.listed bytes held))

pub push_each-returns-in_err-push_listed-clause-memory : goal.push_each-returns-in_err-push_listed-clause-memory
push_each-returns-in_err-push_listed-clause-memory g t c =
    let p = err_from_is_err_and c.from_residual.result c.from_residual.ensures.1 in
    rw (p.1, p.2) (λ e. first_lies c.args.header.now c.args.entries.now c.loop-i.i _ c.loop-i-test.true c.loop-i.invariant.lies
    (c.in_err-push_listed.ensures.memory e))

pub push_each-loop-i-preserved : goal.push_each-loop-i-preserved
push_each-loop-i-preserved g t c = record {
  source = keeps_on g.met.B.Bytes.unchanged_on c.loop-i.invariant.source c.in_ok-push_listed.ensures.source;
  listed = λ bytes held. c.loop-i.invariant.listed bytes (c.in_ok-push_listed.ensures.source.no_others bytes held)
      ∙ each_on (lists_at bytes c.args.header.now c.args.more) c.args.bound c.args.entries.now c.loop-i.i _ c.loop-i.tiles.items
      c.bound_behind-bound.result _ c.loop-i-test.true c.bound_behind-bound.ensures (c.in_ok-push_listed.ensures.listed bytes held);
  lies = λ _. first_lies c.args.header.now c.args.entries.now c.loop-i.i _ c.loop-i-test.true c.loop-i.invariant.lies c.in_ok-push_listed.ensures.inside;
}

pub push_listed-returns-then-entry-gt0-clause-listed :
    goal.push_listed-returns-then-entry-gt0-clause-listed
push_listed-returns-then-entry-gt0-clause-listed g t c = λ bytes held.
    let same : lists_at bytes c.args.header.now c.args.more c.args.entry c.args.bound ≡ tile_at c.args.header.now c.args.entry =
    lists_tile bytes c.args.header.now c.args.more c.args.entry c.args.bound c.if-entry-gt0.true in
    rw same c.push_tile.ensures.tile

pub push_listed-returns-clause-listed : goal.push_listed-returns-clause-listed
push_listed-returns-clause-listed g t c = λ bytes held.
    let leaf = c.in_ok-entries.ensures.leaf bytes (c.push_each.ensures.source.no_others bytes held) in
    let same = lists_leaf bytes c.args.header.now c.args.more c.args.entry c.args.bound c.if-more-eq0.false c.if-entry-gt0.false in
    let value = c.deref.ensures.value in
    rw (same, leaf, ← value) (c.push_each.ensures.listed bytes held)

pub push_listed-returns-in_err-entries-clause-listed : goal.push_listed-returns-in_err-entries-clause-listed
push_listed-returns-in_err-entries-clause-listed g t c =
    let p = err_from_is_err_and c.from_residual.result c.from_residual.ensures.1 in
    rw (p.1, p.2) (λ bytes held.
    leaf_fault bytes c.args.header.now c.args.more c.args.entry c.args.bound c.args.tiles.now.items c.in_err-entries.field-0.0
    c.if-more-eq0.false c.if-entry-gt0.false (c.in_err-entries.ensures.leaf bytes held))

pub push_each-returns-in_err-push_listed-clause-read : goal.push_each-returns-in_err-push_listed-clause-read
push_each-returns-in_err-push_listed-clause-read g t c =
    let p = err_from_is_err_and c.from_residual.result c.from_residual.ensures.1 in
    rw (p.1, p.2) (λ e. g.met.B.Bytes.failed_on _ _ _ c.loop-i.invariant.source.same_behind (c.in_err-push_listed.ensures.read e))

pub push_listed-returns-clause-read : goal.push_listed-returns-clause-read
push_listed-returns-clause-read g t c e = g.met.B.Bytes.failed_on _ _ _ c.in_ok-entries.ensures.source.same_behind (c.push_each.ensures.read e)

pub push_each-returns-clause-listed : goal.push_each-returns-clause-listed
push_each-returns-clause-listed g t c = grind (arith, common_steps)

pub push_listed-returns-clause-source : goal.push_listed-returns-clause-source
push_listed-returns-clause-source g t c = keeps_on g.met.B.Bytes.unchanged_on c.in_ok-entries.ensures.source c.push_each.ensures.source

pub push_each-loop-i-init : goal.push_each-loop-i-init
push_each-loop-i-init g t c = record {
  source = keeps_itself g.met.B.Bytes.unchanged_itself;
  listed = λ _ _. refl;
  lies = λ none. absurd (not_zero none);
}

pub push_each-push_listed-requires : goal.push_each-push_listed-requires
push_each-push_listed-requires g t c κs within = (search rules, (search rules, placed_on c.args.header.now c.loop-i.invariant.source c.requires))

pub push_each-returns-in_err-push_listed-clause-source : goal.push_each-returns-in_err-push_listed-clause-source
push_each-returns-in_err-push_listed-clause-source g t c = keeps_on g.met.B.Bytes.unchanged_on c.loop-i.invariant.source c.in_err-push_listed.ensures.source

pub push_each-returns-clause-source : goal.push_each-returns-clause-source
push_each-returns-clause-source g t c = c.loop-i.invariant.source

pub push_each-returns-clause-read : goal.push_each-returns-clause-read
push_each-returns-clause-read g t c = λ e. absurd (not_both _ _ e)

pub push_each-returns-clause-memory : goal.push_each-returns-clause-memory
push_each-returns-clause-memory g t c = λ e. absurd (not_both _ _ e)

pub push_listed-returns-then-entry-gt0-clause-source : goal.push_listed-returns-then-entry-gt0-clause-source
push_listed-returns-then-entry-gt0-clause-source g t c = keeps_itself g.met.B.Bytes.unchanged_itself

pub push_listed-returns-then-entry-gt0-clause-read : goal.push_listed-returns-then-entry-gt0-clause-read
push_listed-returns-then-entry-gt0-clause-read g t c = λ e. absurd (c.push_tile.ensures.read e)

pub push_listed-returns-then-entry-gt0-clause-depth : goal.push_listed-returns-then-entry-gt0-clause-depth
push_listed-returns-then-entry-gt0-clause-depth g t c = λ run _. absurd (tile_is_no_leaf c.args.entry c.if-entry-gt0.true run)

pub push_listed-returns-then-entry-gt0-clause-memory : goal.push_listed-returns-then-entry-gt0-clause-memory
push_listed-returns-then-entry-gt0-clause-memory g t c = λ e. tile_lies c.args.header.now c.args.entry c.if-entry-gt0.true (c.push_tile.ensures.memory e)

pub push_listed-leaf_of-requires : goal.push_listed-leaf_of-requires
push_listed-leaf_of-requires g t c = c.requires

pub push_listed-returns-in_err-entries-clause-source : goal.push_listed-returns-in_err-entries-clause-source
push_listed-returns-in_err-entries-clause-source g t c = c.in_err-entries.ensures.source

pub push_listed-push_each-requires : goal.push_listed-push_each-requires
push_listed-push_each-requires g t c κs within = (search rules, (search rules, placed_on c.args.header.now c.in_ok-entries.ensures.source c.requires))

pub push_listed-returns-clause-depth : goal.push_listed-returns-clause-depth
push_listed-returns-clause-depth g t c = λ _ none. absurd (c.if-more-eq0.false none)

pub push_listed-returns-clause-memory : goal.push_listed-returns-clause-memory
push_listed-returns-clause-memory g t c = λ _. leaf_lies c.args.header.now c.args.entry c.if-entry-gt0.false c.in_ok-entries.ensures.inside
