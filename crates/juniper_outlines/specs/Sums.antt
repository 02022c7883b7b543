-- A part inside many fields, and sums with the numbers of the code.
use Rattle.std.specs.Prelude.{ℕ, zero, suc, ◌+◌, max}
use Rattle.juniper_outlines.specs.Complexities.{capped}
use Rattle.juniper_outlines.specs.declared.complexity.Complexity.{Complexity}

-- of a part inside so many fields
abbrev pub at_level : ℕ → Complexity → Complexity
at_level zero a = a
at_level (suc n) a = record a { root_fields = 0; depth = suc n + a.depth }

-- the same, and the sum of two parts, with the numbers of the code
abbrev pub at_level_capped : ℕ → Complexity → Complexity
at_level_capped zero a = a
at_level_capped (suc n) a = record a { root_fields = 0; depth = capped (suc n + a.depth) }

abbrev pub plus_capped : Complexity → Complexity → Complexity
plus_capped a b = record {
  fields = capped (a.fields + b.fields);
  aliases = capped (a.aliases + b.aliases);
  directives = capped (a.directives + b.directives);
  root_fields = capped (a.root_fields + b.root_fields);
  depth = max a.depth b.depth;
}
