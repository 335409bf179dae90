use Rattle.tile_routes.specs.Targets.{asked_of}
use Rattle.map_replies.proofs.SendingLemmas.{whole_answer, whole_words}
use Rattle.map_replies.proofs.OldestLemmas.{archives_stay}
use Rattle.map_replies.proofs.calls.Calls.allowed.Goals as goal

pub returns-in-Tile-clause-answered : goal.returns-in-Tile-clause-answered
returns-in-Tile-clause-answered g c = rw c.in-Tile.is (whole_answer _ _ c.tile.result c.tile.ensures.answered c.tile.ensures.writable)

pub returns-in-Tile-clause-words : goal.returns-in-Tile-clause-words
returns-in-Tile-clause-words g c = whole_words c.tile.result c.tile.ensures.writable

pub returns-in-Tile-clause-held : goal.returns-in-Tile-clause-held
returns-in-Tile-clause-held g c = c.tile.ensures.held

pub returns-in-Feature-clause-answered : goal.returns-in-Feature-clause-answered
returns-in-Feature-clause-answered g c =
    rw (c.in-Feature.is, ← c.needed.ensures)
    (whole_answer _ _ c.on_feature.result c.on_feature.ensures.answered c.on_feature.ensures.writable)

pub returns-in-Feature-clause-words : goal.returns-in-Feature-clause-words
returns-in-Feature-clause-words g c = whole_words c.on_feature.result c.on_feature.ensures.writable

pub returns-in-Feature-clause-held : goal.returns-in-Feature-clause-held
returns-in-Feature-clause-held g c = c.on_feature.ensures.held

pub returns-in-FeatureFrom-clause-answered : goal.returns-in-FeatureFrom-clause-answered
returns-in-FeatureFrom-clause-answered g c =
    rw c.in-FeatureFrom.is (whole_answer _ _ c.feature_from.result c.feature_from.ensures.answered c.feature_from.ensures.writable)

pub returns-in-FeatureFrom-clause-words : goal.returns-in-FeatureFrom-clause-words
returns-in-FeatureFrom-clause-words g c = whole_words c.feature_from.result c.feature_from.ensures.writable

pub returns-in-FeatureFrom-clause-held : goal.returns-in-FeatureFrom-clause-held
returns-in-FeatureFrom-clause-held g c = c.feature_from.ensures.held

pub returns-in-EditsFrom-clause-answered : goal.returns-in-EditsFrom-clause-answered
returns-in-EditsFrom-clause-answered g c =
    rw c.in-EditsFrom.is (whole_answer _ _ c.edits_from.result c.edits_from.ensures.answered c.edits_from.ensures.writable)

pub returns-in-EditsFrom-clause-words : goal.returns-in-EditsFrom-clause-words
returns-in-EditsFrom-clause-words g c = whole_words c.edits_from.result c.edits_from.ensures.writable

pub returns-in-EditsFrom-clause-held : goal.returns-in-EditsFrom-clause-held
returns-in-EditsFrom-clause-held g c = c.edits_from.ensures.held

pub returns-in-View-clause-answered : goal.returns-in-View-clause-answered
returns-in-View-clause-answered g c = rw c.in-View.is c.on_view.ensures.answered

pub returns-in-View-clause-words : goal.returns-in-View-clause-words
returns-in-View-clause-words g c = c.on_view.ensures.words

pub returns-in-View-clause-held : goal.returns-in-View-clause-held
returns-in-View-clause-held g c = c.on_view.ensures.held

pub returns-in-Action-clause-answered : goal.returns-in-Action-clause-answered
returns-in-Action-clause-answered g c =
    rw c.in-Action.is (whole_answer _ _ c.on_action.result c.on_action.ensures.answered c.on_action.ensures.writable)

pub returns-in-Action-clause-words : goal.returns-in-Action-clause-words
returns-in-Action-clause-words g c = whole_words c.on_action.result c.on_action.ensures.writable

pub returns-in-Action-clause-held : goal.returns-in-Action-clause-held
returns-in-Action-clause-held g c = c.on_action.ensures.held

pub returns-in-FeaturePage-clause-answered : goal.returns-in-FeaturePage-clause-answered
returns-in-FeaturePage-clause-answered g c =
    rw c.in-FeaturePage.is (whole_answer _ _ c.feature_page.result c.feature_page.ensures.answered c.feature_page.ensures.writable)

pub returns-in-FeaturePage-clause-words : goal.returns-in-FeaturePage-clause-words
returns-in-FeaturePage-clause-words g c = whole_words c.feature_page.result c.feature_page.ensures.writable

pub returns-in-FeaturePage-clause-held : goal.returns-in-FeaturePage-clause-held
returns-in-FeaturePage-clause-held g c = c.feature_page.ensures.held

pub returns-in-FeatureBox-clause-answered : goal.returns-in-FeatureBox-clause-answered
returns-in-FeatureBox-clause-answered g c =
    rw c.in-FeatureBox.is (whole_answer _ _ c.box_page.result c.box_page.ensures.answered c.box_page.ensures.writable)

pub returns-in-FeatureBox-clause-words : goal.returns-in-FeatureBox-clause-words
returns-in-FeatureBox-clause-words g c = whole_words c.box_page.result c.box_page.ensures.writable

pub returns-in-FeatureBox-clause-held : goal.returns-in-FeatureBox-clause-held
returns-in-FeatureBox-clause-held g c = c.box_page.ensures.held

pub returns-in-EditsAt-clause-answered : goal.returns-in-EditsAt-clause-answered
returns-in-EditsAt-clause-answered g c =
    rw c.in-EditsAt.is (whole_answer _ _ c.numbered_batch.result c.numbered_batch.ensures.answered c.numbered_batch.ensures.writable)

pub returns-in-EditsAt-clause-words : goal.returns-in-EditsAt-clause-words
returns-in-EditsAt-clause-words g c = whole_words c.numbered_batch.result c.numbered_batch.ensures.writable

pub returns-in-EditsAt-clause-held : goal.returns-in-EditsAt-clause-held
returns-in-EditsAt-clause-held g c = c.numbered_batch.ensures.held

pub returns-in-Tile-clause-oldest : goal.returns-in-Tile-clause-oldest
returns-in-Tile-clause-oldest g c = archives_stay (asked_of c.args.target) c.tile.result _ _ c.tile.ensures.oldest

pub returns-in-Feature-clause-oldest : goal.returns-in-Feature-clause-oldest
returns-in-Feature-clause-oldest g c = archives_stay (asked_of c.args.target) c.on_feature.result _ _ c.on_feature.ensures.oldest

pub returns-in-FeatureFrom-clause-oldest : goal.returns-in-FeatureFrom-clause-oldest
returns-in-FeatureFrom-clause-oldest g c = archives_stay (asked_of c.args.target) c.feature_from.result _ _ c.feature_from.ensures.oldest

pub returns-in-EditsFrom-clause-oldest : goal.returns-in-EditsFrom-clause-oldest
returns-in-EditsFrom-clause-oldest g c = archives_stay (asked_of c.args.target) c.edits_from.result _ _ c.edits_from.ensures.oldest

pub returns-in-View-clause-oldest : goal.returns-in-View-clause-oldest
returns-in-View-clause-oldest g c = archives_stay (asked_of c.args.target) c.on_view.result _ _ c.on_view.ensures.oldest

pub returns-in-FeaturePage-clause-oldest : goal.returns-in-FeaturePage-clause-oldest
returns-in-FeaturePage-clause-oldest g c = archives_stay (asked_of c.args.target) c.feature_page.result _ _ c.feature_page.ensures.oldest

pub returns-in-FeatureBox-clause-oldest : goal.returns-in-FeatureBox-clause-oldest
returns-in-FeatureBox-clause-oldest g c = archives_stay (asked_of c.args.target) c.box_page.result _ _ c.box_page.ensures.oldest

pub returns-in-EditsAt-clause-oldest : goal.returns-in-EditsAt-clause-oldest
returns-in-EditsAt-clause-oldest g c = archives_stay (asked_of c.args.target) c.numbered_batch.result _ _ c.numbered_batch.ensures.oldest

pub returns-in-Action-clause-oldest : goal.returns-in-Action-clause-oldest
returns-in-Action-clause-oldest g c = rw c.in-Action.is c.on_action.ensures.oldest

pub returns-in-FeatureAt-clause-answered : goal.returns-in-FeatureAt-clause-answered
returns-in-FeatureAt-clause-answered g c =
    rw (c.in-FeatureAt.is, ← c.needed-in-FeatureAt.ensures) (whole_answer _ _ c.numbered_put.result c.numbered_put.ensures.answered c.numbered_put.ensures.writable)

pub returns-in-FeatureAt-clause-words : goal.returns-in-FeatureAt-clause-words
returns-in-FeatureAt-clause-words g c = whole_words c.numbered_put.result c.numbered_put.ensures.writable

pub returns-in-FeatureAt-clause-held : goal.returns-in-FeatureAt-clause-held
returns-in-FeatureAt-clause-held g c = c.numbered_put.ensures.held

pub returns-in-FeatureAt-clause-oldest : goal.returns-in-FeatureAt-clause-oldest
returns-in-FeatureAt-clause-oldest g c = archives_stay (asked_of c.args.target) c.numbered_put.result _ _ c.numbered_put.ensures.oldest
