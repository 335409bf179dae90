use Rattle.std.proofs.Common.{rules}
use Rattle.std.proofs.lemmas.List.Sorted.{answers_always}
use Rattle.number_map.proofs.Search.{searched}
use Rattle.number_map.proofs.block.find.Goals as goal

-- the closure gives an entry's number
pub returns-in-None-clause-found : goal.returns-in-None-clause-found
returns-in-None-clause-found g c =
    let facts = c.binary_search_by_key.ensures in
    let by_key = facts.position (λ entry. entry.0) (answers_always _ _ _ (λ f a r g called. search rules)) in
    (searched c.args.number _ _ c.requires facts.bound by_key).found

pub returns-in-None-clause-absent : goal.returns-in-None-clause-absent
returns-in-None-clause-absent g c =
    let facts = c.binary_search_by_key.ensures in
    let by_key = facts.position (λ entry. entry.0) (answers_always _ _ _ (λ f a r g called. search rules)) in
    (searched c.args.number _ _ c.requires facts.bound by_key).absent
