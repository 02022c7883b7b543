-- The order of places.
use Rattle.std.specs.declared.cmp.Ordering.{Ordering}
use Rattle.std.specs.Ordering.{ordering_then, nat_cmp}
use Rattle.graphql_lexical.specs.Place.{Place}

-- by index, then by line, then by column
abbrev pub compare_places : Place → Place → Ordering
compare_places p q = ordering_then (nat_cmp p.index q.index) (ordering_then (nat_cmp p.line q.line) (nat_cmp p.column q.column))
