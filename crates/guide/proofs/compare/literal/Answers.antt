use Rattle.std.proofs.Common.{List, Err, subst}
use Rattle.std.specs.Str.{chars}
use Rattle.graphql_lexical.specs.Cutting.{Lexeme}
use Rattle.juniper_tokens.specs.Errors.{view_lexer_error}
use Rattle.juniper_tokens.specs.Gathering.{IfFault, HasLeft, BreaksOff}
use Rattle.juniper_tokens.specs.Lexing.{LexerState}
use Rattle.juniper_tree.specs.View.{view_value}
use Rattle.juniper_tree.specs.Scalars.{stated}
use Rattle.guide.proofs.Fronts.{no_value_begins, refused_by_lexer}
use Rattle.guide.proofs.compare.literal.Goals as goal

pub returns-clause-refused : goal.returns-clause-refused
returns-clause-refused g c =
    let source = chars c.args.source.now in
    no_value_begins (stated g.S.ParseScalarValue.reading g.S.ScalarValue.of_bool) source
    (c.one_cut_or_break.ensures source) c.in_ok-parser.parser c.parse_value_literal.new.parser
    (subst (λ (s : LexerState). HasLeft s c.in_ok-parser.parser) c.new-lexer.ensures
    c.in_ok-parser.ensures.tokens)
    (view_value g.S.ParseScalarValue.content) c.parse_value_literal.result c.parse_value_literal.ensures.answers

pub returns-in_err-parser-clause-refused : goal.returns-in_err-parser-clause-refused
returns-in_err-parser-clause-refused g c =
    let source = chars c.args.source.now in
    let failed = c.in_err-parser.field-0.0 in
    let reported = c.lexer_failures_are_reported.ensures source failed (record {
      breaks = subst (λ (s : LexerState). IfFault {X = List Lexeme} (Err failed)
          (λ fault. BreaksOff s (view_lexer_error fault.item) fault.span.start)) c.new-lexer.ensures
          c.in_err-parser.ensures.fault;
      zero_width = c.in_err-parser.ensures.zero_width;
    }) in
    refused_by_lexer (stated g.S.ParseScalarValue.reading g.S.ScalarValue.of_bool) source
    (c.one_cut_or_break.ensures source) _ failed c.from_residual.ensures.1 reported
