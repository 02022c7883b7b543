use Rattle.std.proofs.Common.{◌≡◌, List, length}
use Rattle.graphql_grammar.specs.Tree.{Definition}
use Rattle.graphql_grammar.specs.device.Productions.{document}
use Rattle.juniper_tokens.specs.Taking.{left, GoesOn}
use Rattle.juniper_values.specs.Scalar.{Content}
use Rattle.juniper_parser.specs.Building.{BuildsList}
use Rattle.juniper_tree.specs.Scalars.{stated}
use Rattle.juniper_parser.specs.device.Steps.{cursor}
use Rattle.juniper_parser.proofs.Public.{before_others}
use Rattle.juniper_documents.proofs.document.parts.build_definitions.Given as goal

abbrev pub invariant-loop-definitions : goal.invariant-loop-definitions
invariant-loop-definitions g l =
    let read = cursor (stated g.S.ParseScalarValue.reading g.S.ScalarValue.of_bool) document in record {
      parts : List (Definition Content);
      so_far : before_others parts (read (left l.tokens)) ≡ read (left l.fn.tokens);
      built : BuildsList g.B.Builder.builds_definition g.B.Definitions.Gather.gathered l.fn.builder l.builder l.definitions parts;
      goes : GoesOn l.fn.tokens l.tokens;
    }

abbrev pub decreases-loop-definitions : goal.decreases-loop-definitions
decreases-loop-definitions g l = length (left l.tokens)
