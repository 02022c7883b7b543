-- What a clause reads of a watched reader or writer.
use Rattle.std.specs.Prelude.{ℕ, Bool, true, ◌&&◌, nat_lt, nat_eq, Option, is_some, Result, Ok, Err}
use Rattle.std.specs.declared.io.Error.{Error}
use Rattle.streams.specs.declared.watched.Watched.{Watched}

-- the reader or writer inside
abbrev pub inner_of : {T : Type 0} → Watched T → T
inner_of w = w.inner

-- the last failure of a read or a write, if there was one
abbrev pub last_failure : {T : Type 0} → Watched T → Option Error
last_failure w = w.failure

abbrev pub has_failed : {T : Type 0} → Watched T → Bool
has_failed w = is_some (last_failure w)

-- a write of n bytes returned an error, or took none of some bytes
abbrev pub is_refused : {E : Type 0} → Result ℕ E → ℕ → Bool
is_refused (Ok taken) n = nat_eq taken 0 && nat_lt 0 n
is_refused (Err e) n = true
