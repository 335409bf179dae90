use Rattle.hilbert_id.proofs.number.+column_and_row.Given as goal

abbrev pub decreases-column_and_row : goal.decreases-column_and_row
decreases-column_and_row l = l.zoom
