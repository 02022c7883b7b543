use Rattle.std.proofs.Common.{List}
use Rattle.graphql_lexical.specs.Cutting.{Lexeme}
use Rattle.juniper_tokens.specs.Cursor.{OnMemory}
use Rattle.juniper_tokens.specs.Delimited.{IsRest}
use Rattle.juniper_tokens.proofs.Public.{follows, on_memory, rest_of}
use Rattle.juniper_tokens.specs.Taking.{left}
use Rattle.juniper_parser.specs.Promise.{ReturnsType}
use Rattle.juniper_tree.specs.View.{view_spanned_type}
use Rattle.juniper_parser.proofs.Literals.{answers_type}
use Rattle.juniper_parser.proofs.parser.types.parse_type.Goals as goal

pub returns-clause-answers : goal.returns-clause-answers
returns-clause-answers c =
    let parsed = c.parse_any_type-result in
    follows (ReturnsType view_spanned_type parsed.result) _ _ _ _ _ c.cursor-tokens.ensures (rest_of _ _ parsed.ensures.on)
    c.count-left.ensures.is c.take_until.ensures
    (answers_type view_spanned_type parsed.result (left c.cursor-tokens.result) (left parsed.new.tokens) parsed.ensures.ended
    parsed.ensures.gives)

pub returns-clause-memory : goal.returns-clause-memory
returns-clause-memory c =
    let parsed = c.parse_any_type-result in
    follows (λ (old new : List Lexeme). OnMemory parsed.result (IsRest old new)) _ _ _ _ _ c.cursor-tokens.ensures
    (rest_of _ _ parsed.ensures.on) c.count-left.ensures.is c.take_until.ensures
    (on_memory parsed.result (left c.cursor-tokens.result) (left parsed.new.tokens) (rest_of _ _ parsed.ensures.on))
