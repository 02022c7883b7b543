-- The position is the one after the characters so far.
use Rattle.std.proofs.Common.{◌≡◌, ◌+◌, ◌≤◌, length}
use Rattle.graphql_lexical.specs.Place.{position_after}
use Rattle.firthnapkin_results.proofs.excerpt.line_and_column.Given as goal

abbrev pub invariant-loop-c : goal.invariant-loop-c
invariant-loop-c l = record {
  line : l.number ≡ (position_after l.yielded).line + 1;
  column : l.column ≡ (position_after l.yielded).column;
  few_lines : l.number ≤ length l.yielded + 1;
  few_columns : l.column ≤ length l.yielded;
}
