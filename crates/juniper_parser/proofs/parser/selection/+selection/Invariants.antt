use Rattle.std.proofs.Common.{◌≡◌, ◌≤◌, List, length, ◌+◌, ◌*◌}
use Rattle.graphql_grammar.specs.Tree.{Selection}
use Rattle.graphql_grammar.specs.device.Productions.{selections_inner}
use Rattle.juniper_tokens.specs.Taking.{left, GoesOn}
use Rattle.juniper_values.specs.Scalar.{Content}
use Rattle.juniper_parser.specs.Building.{BuildsList}
use Rattle.juniper_tree.specs.Scalars.{stated}
use Rattle.juniper_parser.specs.device.Steps.{cursor}
use Rattle.juniper_parser.proofs.Loops.{before_others}
use Rattle.juniper_parser.proofs.parser.selection.+selection.Given as goal

abbrev pub decreases-parse_selection_set : goal.decreases-parse_selection_set
decreases-parse_selection_set g l = 6 * length (left l.tokens.now) + 0

abbrev pub decreases-parse_field : goal.decreases-parse_field
decreases-parse_field g l = 6 * length (left l.tokens.now) + 1

abbrev pub decreases-parse_optional_selection_set : goal.decreases-parse_optional_selection_set
decreases-parse_optional_selection_set g l = 6 * length (left l.tokens.now) + 2

abbrev pub decreases-parse_spread : goal.decreases-parse_spread
decreases-parse_spread g l = 6 * length (left l.tokens.now) + 2

abbrev pub decreases-parse_inline_fragment : goal.decreases-parse_inline_fragment
decreases-parse_inline_fragment g l = 6 * length (left l.tokens.now) + 2

abbrev pub decreases-parse_selection : goal.decreases-parse_selection
decreases-parse_selection g l = 6 * length (left l.tokens.now) + 4

abbrev pub decreases-parse_selection_list : goal.decreases-parse_selection_list
decreases-parse_selection_list g l = 6 * length (left l.tokens.now) + 5

abbrev pub invariant-parse_selection_list-loop-items : goal.invariant-parse_selection_list-loop-items
invariant-parse_selection_list-loop-items g l =
    let read = cursor (stated g.S.ParseScalarValue.reading g.S.ScalarValue.of_bool) selections_inner in record {
      parts : List (Selection Content);
      so_far : before_others parts (read (left l.tokens)) ≡ read (left l.fn.tokens);
      built : BuildsList g.B.Builder.builds_selection g.B.Selections.Gather.gathered l.fn.builder l.builder l.items parts;
      not_longer : length (left l.tokens) ≤ length (left l.fn.tokens);
      on : GoesOn l.fn.tokens l.tokens;
    }

abbrev pub decreases-parse_selection_list-loop-items : goal.decreases-parse_selection_list-loop-items
decreases-parse_selection_list-loop-items g l = length (left l.tokens)

abbrev pub decreases-parse_inline_parts : goal.decreases-parse_inline_parts
decreases-parse_inline_parts g l = 6 * length (left l.tokens.now) + 1

abbrev pub decreases-parse_some_selection_set : goal.decreases-parse_some_selection_set
decreases-parse_some_selection_set g l = 6 * length (left l.tokens.now) + 1

abbrev pub decreases-parse_some_spread : goal.decreases-parse_some_spread
decreases-parse_some_spread g l = 6 * length (left l.tokens.now) + 3
