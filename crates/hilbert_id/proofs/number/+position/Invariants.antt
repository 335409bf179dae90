use Rattle.hilbert_id.proofs.number.+position.Given as goal

abbrev pub decreases-position : goal.decreases-position
decreases-position l = l.zoom
