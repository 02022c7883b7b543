use Rattle.std.proofs.Common.{◌≡◌, ◌+◌, ap, fold, take, ◌∙◌, arith}
use Rattle.std.specs.Str.{chars}
use Rattle.graphql_lexical.specs.Place.{place, past_character}
use Rattle.juniper_tokens.specs.Lexing.{LexerState}
use Rattle.juniper_tokens.proofs.Places.{place_on}
use Rattle.juniper_tokens.proofs.lexer.Lexer.span_from.Goals as goal

pub returns-clause-start : goal.returns-clause-start
returns-clause-start c =
    let source = chars c.self.inside.source.now in
    let n = c.args.index in
    let none : 0 + n ≡ n = omega arith in
    c.walk_characters.ensures ∙ ap (λ p. fold past_character p (take n source)) c.new_origin-origin.ensures
    ∙ place_on source 0 n ∙ ap (place source) none ∙ ap (λ (w : LexerState). place w.source n) c.self.view_is

pub returns-clause-end : goal.returns-clause-end
returns-clause-end c =
    c.position.ensures ∙ c.self.invariant.place_is ∙ ap (λ (w : LexerState). place w.source w.index) c.self.view_is
