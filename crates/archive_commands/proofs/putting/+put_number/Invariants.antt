use Rattle.archive_commands.proofs.putting.+put_number.Given as goal

abbrev pub decreases-put_number : goal.decreases-put_number
decreases-put_number g l = l.number
