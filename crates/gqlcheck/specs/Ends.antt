-- The exit status of a run's end, and why a run has no whole report.
use Rattle.std.specs.Prelude.{ℕ, Option, Some, None}
use Rattle.streams.specs.declared.whole.Stop.{Stop}
use Rattle.streams.specs.declared.whole.Stop.TheVariants as stop
use Rattle.gqlcheck_report.specs.declared.report.RunEnd.{RunEnd}
use Rattle.gqlcheck_report.specs.declared.report.RunEnd.TheVariants.{Tree, Refused, NotUtf8, TooDeep, Device, Memory}

-- the exit status
abbrev pub status_at : RunEnd → ℕ
status_at Tree = 0
status_at Refused = 1
status_at NotUtf8 = 2
status_at Device = 3
status_at Memory = 4
status_at TooDeep = 5

-- what is written to standard error
abbrev pub stop_at : RunEnd → Option Stop
stop_at Tree = None
stop_at Refused = None
stop_at NotUtf8 = None
stop_at TooDeep = None
stop_at Device = Some stop.Device
stop_at Memory = Some stop.Memory
