use Rattle.std.proofs.Common.{◌≡◌, ◌≤◌, List, length, not, ◌+◌, ◌*◌}
use Rattle.graphql_lexical.specs.declared.kind.Kind.TheVariants.{BracketClose, CurlyClose}
use Rattle.graphql_grammar.specs.Tokens.{Located, Word}
use Rattle.graphql_grammar.specs.Tree.{Value}
use Rattle.graphql_grammar.specs.device.Productions.{key_and_value}
use Rattle.graphql_grammar.specs.device.Reading.{of, symbol, a_value}
use Rattle.juniper_tokens.specs.Taking.{left, GoesOn}
use Rattle.juniper_values.specs.Scalar.{Content}
use Rattle.juniper_parser.specs.Building.{BuildsEach}
use Rattle.juniper_tree.specs.Scalars.{stated}
use Rattle.juniper_parser.specs.device.Steps.{closed_read}
use Rattle.juniper_parser.proofs.Loops.{with_front}
use Rattle.juniper_parser.proofs.parser.value.+value.Given as goal

abbrev pub decreases-parse_list : goal.decreases-parse_list
decreases-parse_list g l = 4 * length (left l.tokens.now) + 2

abbrev pub decreases-parse_object : goal.decreases-parse_object
decreases-parse_object g l = 4 * length (left l.tokens.now) + 2

abbrev pub decreases-parse_object_field : goal.decreases-parse_object_field
decreases-parse_object_field g l = 4 * length (left l.tokens.now)

abbrev pub decreases-parse_value : goal.decreases-parse_value
decreases-parse_value g l = 4 * length (left l.tokens.now) + 3

abbrev pub decreases-parse_items : goal.decreases-parse_items
decreases-parse_items g l = 4 * length (left l.tokens.now) + 4

abbrev pub decreases-parse_fields : goal.decreases-parse_fields
decreases-parse_fields g l = 4 * length (left l.tokens.now) + 1

abbrev pub invariant-parse_items-loop-items : goal.invariant-parse_items-loop-items
invariant-parse_items-loop-items g l =
    let S = stated g.S.ParseScalarValue.reading g.S.ScalarValue.of_bool in
    let read = closed_read S (of BracketClose) (symbol (a_value (not l.is_const))) in record {
      parts : List (Located (Value Content));
      so_far : with_front parts (read (left l.tokens)) ≡ read (left l.fn.tokens);
      built : BuildsEach g.B.Builder.builds_value l.fn.builder l.builder (g.B.Items.Gather.gathered l.items) parts;
      not_longer : length (left l.tokens) ≤ length (left l.fn.tokens);
      on : GoesOn l.fn.tokens l.tokens;
    }

abbrev pub decreases-parse_items-loop-items : goal.decreases-parse_items-loop-items
decreases-parse_items-loop-items g l = length (left l.tokens)

abbrev pub invariant-parse_fields-loop-items : goal.invariant-parse_fields-loop-items
invariant-parse_fields-loop-items g l =
    let S = stated g.S.ParseScalarValue.reading g.S.ScalarValue.of_bool in
    let read = closed_read S (of CurlyClose) (key_and_value (not l.is_const)) in record {
      parts : List (Word × Located (Value Content));
      so_far : with_front parts (read (left l.tokens)) ≡ read (left l.fn.tokens);
      built : BuildsEach g.B.Builder.builds_field l.fn.builder l.builder (g.B.Fields.Gather.gathered l.items) parts;
      not_longer : length (left l.tokens) ≤ length (left l.fn.tokens);
      on : GoesOn l.fn.tokens l.tokens;
    }

abbrev pub decreases-parse_fields-loop-items : goal.decreases-parse_fields-loop-items
decreases-parse_fields-loop-items g l = length (left l.tokens)
