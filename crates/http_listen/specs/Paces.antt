-- How much time a peer has.
use Rattle.std.specs.Prelude.{ℕ, ◌+◌, ◌-◌, ◌*◌, ◌/◌, ◌%◌, min}
use Rattle.http_listen.specs.declared.paces.Pace.{Pace}
use Rattle.http_listen.specs.declared.paces.Stage.{Stage}

-- a stage begins: a minute is left, and nothing was sent
abbrev pub begun : Stage → Pace
begun stage = record { stage = stage; left = 60000000000; spare = 0 }

-- n nanoseconds were waited
abbrev pub less_time : Pace → ℕ → Pace
less_time pace n = record { stage = pace.stage; left = pace.left - n; spare = pace.spare }

-- n more bytes were sent: each 16 KiB of a reply earn a second, up to the whole minute
abbrev pub earned : Pace → ℕ → Pace
earned pace n = record { stage = pace.stage; left = min (pace.left + (pace.spare + n) / 16384 * 1000000000) 60000000000; spare = (pace.spare + n) % 16384 }
