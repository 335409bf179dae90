-- Where the call is made, the outcome that is asked for is the one that the disk gave.
use Rattle.sector_disk.proofs.faulty.FaultyDiskSectors.read.Goals as goal
use Rattle.sector_disk.proofs.faulty.FaultyDiskSectors.read.Goals.{in-Passed, in-NotMade}

pub returns-clause-made : goal.returns-clause-made
returns-clause-made g c fails made = elim c.match-turn.branch [
  | in-Passed w ↦
      let call = w.read-outcome in (
        call.result,
        rw (c.report.ensures.disk, w.self-is, w.into-is, ← c.count_call-turn.ensures.disk, ← c.self.view_is)
            (call.ensures.faults, call.ensures.gives),
      )
  | in-NotMade w ↦ absurd (w.in-NotMade.ensures.turn.1 made)
]
