use Rattle.feature_store.proofs.Reading.{all_numbers_show}
use Rattle.feature_store.proofs.listing.Listing.into_parts.Goals as goal

pub returns-clause-making : goal.returns-clause-making
returns-clause-making c = λ m is_map all.
    let at = c.args.self.at in
    c.of.ensures.making m (all_numbers_show m at.z at.x at.y c.args.self.numbers.items is_map all)
