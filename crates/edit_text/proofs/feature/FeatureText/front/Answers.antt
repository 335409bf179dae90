use Rattle.edit_text.specs.Trusted.{feature_in}
use Rattle.edit_text.proofs.feature.FeatureText.front.Goals as goal

pub front-tags-requires : goal.front-tags-requires
unfolding feature_in
front-tags-requires c =
    rw (c.geometry_in.ensures.rest, c.byte_in-maxzoom.ensures.rest, c.byte_in-minzoom.ensures.rest, c.name_in.ensures.rest) c.requires.tags
