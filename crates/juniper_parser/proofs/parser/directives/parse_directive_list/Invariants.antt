use Rattle.std.proofs.Common.{◌≡◌, ◌≤◌, List, true, length}
use Rattle.graphql_lexical.specs.declared.kind.Kind.TheVariants.{At}
use Rattle.graphql_lexical.specs.Kinds.{same_kind}
use Rattle.graphql_grammar.specs.Tokens.{Located}
use Rattle.graphql_grammar.specs.Tree.{Directive}
use Rattle.graphql_grammar.specs.device.Productions.{directive}
use Rattle.graphql_grammar.specs.device.Reading.{of}
use Rattle.juniper_tokens.specs.Cursor.{EndsOnce, kind_at}
use Rattle.juniper_tokens.specs.Taking.{left, GoesOn}
use Rattle.juniper_values.specs.Scalar.{Content}
use Rattle.juniper_parser.specs.Building.{BuildsList}
use Rattle.juniper_tree.specs.Scalars.{stated}
use Rattle.juniper_parser.specs.device.Steps.{each_read}
use Rattle.juniper_parser.proofs.Loops.{before_others}
use Rattle.juniper_parser.proofs.parser.directives.parse_directive_list.Given as goal

abbrev pub invariant-loop-items : goal.invariant-loop-items
invariant-loop-items g l =
    let read = each_read (stated g.S.ParseScalarValue.reading g.S.ScalarValue.of_bool) (of At) directive in record {
      parts : List (Located (Directive Content));
      so_far : before_others parts (read (left l.tokens)) ≡ read (left l.fn.tokens);
      built : BuildsList g.B.Builder.builds_directive g.B.Directives.Gather.gathered l.fn.builder l.builder l.items parts;
      not_longer : length (left l.tokens) ≤ length (left l.fn.tokens);
      on : GoesOn l.fn.tokens l.tokens;
      at : same_kind (kind_at (left l.tokens)) At ≡ true;
      ended : EndsOnce (left l.tokens);
    }

abbrev pub decreases-loop-items : goal.decreases-loop-items
decreases-loop-items g l = length (left l.tokens)
