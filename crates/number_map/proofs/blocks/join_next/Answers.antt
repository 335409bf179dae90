use Rattle.std.proofs.Common.{◌≡◌, ℕ, ◌+◌, List, length, set, subst, sym, ap, ◌∙◌, arith}
use Rattle.std.proofs.lemmas.List.{get_or_default}
use Rattle.number_map.specs.Blocks.{firsts_of, AreFilled}
use Rattle.number_map.proofs.Firsts.{firsts_len, firsts_joined}
use Rattle.number_map.proofs.Joined.{length_kept, joined_one}
use Rattle.number_map.proofs.Filled.{IsFilled, filled_set, filled_removed, filled_joined}
use Rattle.number_map.proofs.blocks.join_next.Given as given
use Rattle.number_map.proofs.blocks.join_next.Goals as goal
use Rattle.number_map.proofs.blocks.join_next.Goals.{After-append}

pub remove-requires : goal.remove-requires
remove-requires g c = omega (arith, firsts_len c.args.blocks.now.items c.args.firsts.now.items c.requires.firsts)

pub returns-clause-entries : goal.returns-clause-entries
returns-clause-entries g c =
    joined_one c.args.blocks.now.items c.remove-next.new.self.items c.args.at c.index_mut.result.now c.remove-next.result c.append.new.self
    (omega arith) (omega arith) c.remove-next.ensures.by_index.2 c.index_mut.ensures.value c.remove-next.ensures.value c.append.ensures

-- each block that is left has entries
rest_filled : (g : given.Over) (c : After-append g) → AreFilled c.remove-next.new.self.items
rest_filled g c =
    subst AreFilled (sym c.remove-next.ensures.by_index.2) (filled_removed c.args.blocks.now.items (c.args.at + 1) c.requires.filled)

some_left : (g : given.Over) (c : After-append g) → IsFilled c.index_mut.result.now
some_left g c = subst IsFilled (sym c.index_mut.ensures.value) (rest_filled g c c.args.at c.index_mut.result.now (omega arith))

pub returns-clause-filled : goal.returns-clause-filled
returns-clause-filled g c =
    let after = (goal.at.returns-clause-filled g c).After-append in
    filled_set c.remove-next.new.self.items c.args.at c.append.new.self
    (filled_joined c.index_mut.result.now c.remove-next.result c.append.new.self (some_left g after) c.append.ensures) (rest_filled g after)

pub returns-clause-firsts : goal.returns-clause-firsts
returns-clause-firsts g c =
    let after = (goal.at.returns-clause-firsts g c).After-append in
    subst (λ (ns : List ℕ). ns ≡ firsts_of (set c.remove-next.new.self.items c.args.at c.append.new.self)) (sym c.remove.ensures.items)
    (firsts_joined c.args.blocks.now.items c.remove-next.new.self.items c.args.firsts.now.items c.args.at c.index_mut.result.now c.remove-next.result
    c.append.new.self c.requires.firsts c.remove-next.ensures.items c.index_mut.ensures.value c.append.ensures (some_left g after))

pub append-requires : goal.append-requires
append-requires g c =
    let bs = c.args.blocks.now.items in
    let at = c.args.at in
    let next = c.index-else-saturating_sub-lt2.result.now in
    let lower = length_kept bs c.remove-next.new.self.items at c.index_mut.result.now c.index.result.now (omega arith)
    c.remove-next.ensures.by_index.2 c.index_mut.ensures.value c.index.ensures in
    let same : c.remove-next.result ≡ next =
    c.remove-next.ensures.value ∙ get_or_default bs (at + 1) c.remove-next.result next (omega arith) ∙ sym c.index-else-saturating_sub-lt2.ensures in
    omega (arith, lower, ap length same)
