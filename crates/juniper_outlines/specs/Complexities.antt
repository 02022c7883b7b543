-- Complexities, and how those of parts make that of the whole.
use Rattle.std.specs.Prelude.{ℕ, ◌+◌, ◌-◌, ◌^◌, min, max}
use Rattle.juniper_outlines.specs.declared.complexity.Complexity.{Complexity}

-- of no selection
abbrev pub nothing : Complexity
nothing = record { fields = 0; aliases = 0; directives = 0; root_fields = 0; depth = 0 }

-- of two parts side by side: what is counted adds up, and the deeper part has the depth
abbrev pub plus : Complexity → Complexity → Complexity
plus a b = record {
  fields = a.fields + b.fields;
  aliases = a.aliases + b.aliases;
  directives = a.directives + b.directives;
  root_fields = a.root_fields + b.root_fields;
  depth = max a.depth b.depth;
}

-- of a part in a field: it is one deeper, and no field of it is at the root
abbrev pub in_a_field : Complexity → Complexity
in_a_field a = record a { root_fields = 0; depth = 1 + a.depth }

-- what the code returns for a number: the number, or the largest that the code has if the number is larger
abbrev pub capped : ℕ → ℕ
capped n = min n (2 ^ 64 - 1)

abbrev pub capped_complexity : Complexity → Complexity
capped_complexity a = record {
  fields = capped a.fields;
  aliases = capped a.aliases;
  directives = capped a.directives;
  root_fields = capped a.root_fields;
  depth = capped a.depth;
}
