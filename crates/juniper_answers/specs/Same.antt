-- When two lists of entries are equal, in any order: at each key of either, both have a value, and the two are equal.
use Rattle.std.specs.Prelude.{Bool, List, String}
use Rattle.std.specs.HashMap.{HashMap, entries_eq}
use Rattle.std.specs.String.{string_eq}
use Rattle.std.specs.declared.alloc.Global.{Global}
use Rattle.std_collections.specs.Layout.HashMap.{hash_map}
use Rattle.juniper_answers.specs.Entries.{entries_of}
use Rattle.juniper_answers.specs.declared.entries.Entries.{Entries}

-- the entries as a map, so that what std proves of maps serves
abbrev pub as_map : {V : Type 0} → List (String Global × V) → HashMap (String Global) V (Unit {0})
as_map es = hash_map es tt 0

module _ {V : Type 0} (E : V → V → Bool) where
  abbrev pub same_entries : List (String Global × V) → List (String Global × V) → Bool
  same_entries es fs = entries_eq string_eq (λ p q. E p.1 q.1) es fs

  -- the same of what two containers hold
  abbrev pub same_held : Entries V → Entries V → Bool
  same_held a b = same_entries (entries_of a) (entries_of b)
