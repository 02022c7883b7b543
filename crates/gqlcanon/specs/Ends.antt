-- The exit status of a run's end.
use Rattle.std.specs.Prelude.{ℕ, Result, Ok, Err}
use Rattle.streams.specs.declared.whole.Stop.{Stop}
use Rattle.streams.specs.declared.whole.Stop.TheVariants.{Device, Memory}
use Rattle.gqlcanon.specs.declared.report.CanonicalEnd.{CanonicalEnd}
use Rattle.gqlcanon.specs.declared.report.CanonicalEnd.TheVariants.{Text, Refused, NotUtf8}

abbrev pub status_at : Result CanonicalEnd Stop → ℕ
status_at (Ok Text) = 0
status_at (Ok Refused) = 1
status_at (Ok NotUtf8) = 2
status_at (Err Device) = 3
status_at (Err Memory) = 4
