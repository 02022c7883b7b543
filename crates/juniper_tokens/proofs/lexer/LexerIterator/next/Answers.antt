use Rattle.std.proofs.Common.{Ok, Err, ap, ap₂, subst, sym, ◌∙◌, rules}
use Rattle.graphql_lexical.specs.Place.{place}
use Rattle.juniper_tokens.specs.Lexing.{LexerState}
use Rattle.juniper_tokens.specs.device.Ranges.{TakesRange, TakesItem, range_lexeme}
use Rattle.juniper_tokens.proofs.Lexing.{items_fewer}
use Rattle.juniper_tokens.proofs.Ranges.{token_given, failure_given}
use Rattle.juniper_tokens.proofs.lexer.LexerIterator.next.Goals as goal

pub token-requires-clause-start : goal.token-requires-clause-start
token-requires-clause-start c =
    c.position-start.ensures ∙ c.self.invariant.place_is ∙ ap (λ (s : LexerState). place s.source s.index)
    c.self.view_is
    ∙ ap₂ place (sym c.in-Some.ensures.source) (sym c.in-Some.ensures.takes.from)

pub returns-in-Some-clause-steps : goal.returns-in-Some-clause-steps
returns-in-Some-clause-steps c =
    let same = c.in-Some.ensures.source ∙ ap (λ (s : LexerState). s.source) c.skip_ignored-class.ensures.passes in (
      sym c.has_ended.ensures ∙ c.if-has_ended.false,
      same,
      token_given c.args.self.now c.in-Some.range c.token.result c.take_plain.new.self
          (subst (λ (s : LexerState). TakesRange s c.in-Some.range c.take_plain.new.self)
          c.skip_ignored-class.ensures.passes
          c.in-Some.ensures.takes)
          (c.token.ensures ∙ ap (λ t. range_lexeme t c.in-Some.range) same),
    )

pub returns-in-Some-clause-goes : goal.returns-in-Some-clause-goes
returns-in-Some-clause-goes c =
    let less = items_fewer c.args.self.now (Ok c.token.result) c.take_plain.new.self (returns-in-Some-clause-steps c) in
    record { on = λ _. search (rules, less); keeps = search rules; rests = λ _. search rules }

pub returns-in-Ok-clause-steps : goal.returns-in-Ok-clause-steps
returns-in-Ok-clause-steps c =
    let here = c.in-None.ensures.takes ∙ c.skip_ignored-class.ensures.passes in
    let same = c.in-Ok.ensures.source ∙ ap (λ (s : LexerState). s.source) here in (
      sym c.has_ended.ensures ∙ c.if-has_ended.false,
      same,
      token_given c.args.self.now c.in-Ok.range c.token-in-Ok.result c.scan.new.self
          (subst (λ (s : LexerState). TakesRange s c.in-Ok.range c.scan.new.self) here c.in-Ok.ensures.takes)
          (c.token-in-Ok.ensures ∙ ap (λ t. range_lexeme t c.in-Ok.range) same),
    )

pub returns-in-Ok-clause-goes : goal.returns-in-Ok-clause-goes
returns-in-Ok-clause-goes c =
    let less = items_fewer c.args.self.now (Ok c.token-in-Ok.result) c.scan.new.self (returns-in-Ok-clause-steps c) in
    record { on = λ _. search (rules, less); keeps = search rules; rests = λ _. search rules }

pub returns-in-Err-clause-steps : goal.returns-in-Err-clause-steps
returns-in-Err-clause-steps c =
    let here = c.in-None.ensures.takes ∙ c.skip_ignored-class.ensures.passes in (
      sym c.has_ended.ensures ∙ c.if-has_ended.false,
      c.in-Err.ensures.source ∙ ap (λ (s : LexerState). s.source) here,
      failure_given c.args.self.now c.in-Err.failure c.scan.new.self
          (subst (λ (s : LexerState). TakesItem s (Err c.in-Err.failure) c.scan.new.self) here c.in-Err.ensures.takes),
    )
