use Rattle.std.proofs.Common.{◌≡◌, ℕ, ◌<◌, true, get_or, String, Global}
use Rattle.std.specs.Map.{keys_of, lookup}
use Rattle.std.specs.Option.{option_eq}
use Rattle.std.specs.String.{string_eq}
use Rattle.juniper_answers.specs.Entries.{entries_of}
use Rattle.juniper_answers.proofs.entries.EntriesPartialEq.eq.Given as goal

abbrev pub invariant-loop-i : goal.invariant-loop-i
invariant-loop-i g l = (k : ℕ) → k < l.i → (d : String Global)
    → option_eq g.V.PartialEq.eq (lookup (string_eq (get_or (keys_of (entries_of l.self)) k d)) (entries_of l.self))
    (lookup (string_eq (get_or (keys_of (entries_of l.self)) k d)) (entries_of l.other)) ≡ true
