use Rattle.std.proofs.Common.{◌≡◌, ◌+◌, length, rules, ap, arith}
use Rattle.feature_store.specs.Inside.{entries_data}
use Rattle.feature_store.specs.declared.listing.TheConstants.{LIST_NUMBERS}
use Rattle.feature_store.proofs.Reading.{few_listed}
use Rattle.feature_store.proofs.stage.Stage.list_part.Goals as goal

pub returns-then-branch-clause-left : goal.returns-then-branch-clause-left
returns-then-branch-clause-left c =
    let m = entries_data c.args.features.now.entries in
    let new = c.list_part.new.self in
    let more : length new.numbers.items ≡ length c.args.listing.numbers.items + LIST_NUMBERS = search rules in
    omega (arith, few_listed m new.next, ap length c.in_ok-list_part.ensures.listed.numbers, more)
