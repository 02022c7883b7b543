-- What keys and values side by side show.
use Rattle.std.specs.Prelude.{ℕ, List, String}
use Rattle.std.specs.Vec.{with_item}
use Rattle.std.specs.List.{zip}
use Rattle.std.specs.declared.alloc.Global.{Global}
use Rattle.juniper_answers.specs.declared.entries.Entries.{Entries}

-- each key with the value at its place
abbrev pub entries_of : {V : Type 0} → Entries V → List (String Global × V)
entries_of e = zip e.keys.keys e.values.items

-- the container with w as the value at place i
abbrev pub with_value : {V : Type 0} → Entries V → ℕ → V → Entries V
with_value e i w = record e { values = with_item e.values i w }
