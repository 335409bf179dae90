use Rattle.feature_store.proofs.tile_parts.tile_of_numbers.Goals as goal

pub loop-parts-init : goal.loop-parts-init
loop-parts-init c = record { making = c.of-parts.ensures.making c.args.moment.now.features c.requires.shown; at = c.of-parts.ensures.at }
