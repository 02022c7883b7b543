use Rattle.std.proofs.Common.{◌≡◌, ◌≤◌, List, length}
use Rattle.graphql_grammar.specs.Tree.{VariableDefinition}
use Rattle.graphql_grammar.specs.device.Productions.{variables_inner}
use Rattle.juniper_tokens.specs.Taking.{left, GoesOn}
use Rattle.juniper_values.specs.Scalar.{Content}
use Rattle.juniper_parser.specs.Building.{BuildsList}
use Rattle.juniper_tree.specs.Scalars.{stated}
use Rattle.juniper_parser.specs.device.Steps.{cursor}
use Rattle.juniper_parser.proofs.Loops.{before_others}
use Rattle.juniper_parser.proofs.parser.variables.parse_variable_list.Given as goal

abbrev pub invariant-loop-items : goal.invariant-loop-items
invariant-loop-items g l =
    let read = cursor (stated g.S.ParseScalarValue.reading g.S.ScalarValue.of_bool) variables_inner in record {
      parts : List (VariableDefinition Content);
      so_far : before_others parts (read (left l.tokens)) ≡ read (left l.fn.tokens);
      built : BuildsList g.B.Builder.builds_variable g.B.VariableList.Gather.gathered l.fn.builder l.builder l.items parts;
      not_longer : length (left l.tokens) ≤ length (left l.fn.tokens);
      on : GoesOn l.fn.tokens l.tokens;
    }

abbrev pub decreases-loop-items : goal.decreases-loop-items
decreases-loop-items g l = length (left l.tokens)
