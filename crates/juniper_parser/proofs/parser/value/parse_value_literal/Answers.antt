use Rattle.std.proofs.Common.{List}
use Rattle.std.specs.Prelude.{not}
use Rattle.graphql_lexical.specs.Cutting.{Lexeme}
use Rattle.juniper_tokens.specs.Cursor.{OnMemory}
use Rattle.juniper_tokens.specs.Delimited.{IsRest}
use Rattle.juniper_tokens.proofs.Public.{follows, on_memory, rest_of}
use Rattle.juniper_tokens.specs.Taking.{left}
use Rattle.juniper_parser.specs.Promise.{ReturnsValue}
use Rattle.juniper_tree.specs.Scalars.{stated}
use Rattle.juniper_tree.specs.View.{view_value}
use Rattle.juniper_parser.proofs.Literals.{answers_value}
use Rattle.juniper_parser.proofs.parser.value.parse_value_literal.Goals as goal

pub returns-clause-answers : goal.returns-clause-answers
returns-clause-answers g c =
    let S = stated g.S.ParseScalarValue.reading g.S.ScalarValue.of_bool in
    let view = view_value g.S.ParseScalarValue.content in
    let parsed = c.parse_value_tree-result in
    follows (ReturnsValue S (not c.args.is_const) view parsed.result) _ _ _ _ _ c.cursor-tokens.ensures
    (rest_of _ _ parsed.ensures.on) c.count-left.ensures.is c.take_until.ensures
    (answers_value S (not c.args.is_const) view parsed.result (left c.cursor-tokens.result) (left parsed.new.tokens)
    parsed.ensures.ended parsed.ensures.gives)

pub returns-clause-memory : goal.returns-clause-memory
returns-clause-memory g c =
    let parsed = c.parse_value_tree-result in
    follows (λ (old new : List Lexeme). OnMemory parsed.result (IsRest old new)) _ _ _ _ _ c.cursor-tokens.ensures
    (rest_of _ _ parsed.ensures.on) c.count-left.ensures.is c.take_until.ensures
    (on_memory parsed.result (left c.cursor-tokens.result) (left parsed.new.tokens) (rest_of _ _ parsed.ensures.on))
