use Rattle.std.proofs.Common.{◌∙◌, ap, sym, rules}
use Rattle.std.specs.Str.{chars}
use Rattle.graphql_lexical.specs.Kinds as kinds
use Rattle.juniper_tokens.specs.Errors.{view_lexer_error}
use Rattle.firthnapkin_results.proofs.Messages.{unknown_named, unexpected_named, in_string_named, escape_named, token_characters, some_if, is_some_and}
use Rattle.firthnapkin_results.specs.Messages.{HasLexicalWords, of_escape}
use Rattle.firthnapkin_results.proofs.message.lexical_error_of.Goals as goal

pub returns-in-1-clause-exact : goal.returns-in-1-clause-exact
returns-in-1-clause-exact c = λ e at b f.
    let it = unknown_named c.args.source.now c.utf8.source c.args.error.now e at b f c.in-1.is in
    let some = some_if c.named.result c.args.error.now.character c.named.ensures it.1 in
    is_some_and c.map.result _ _ (rw some at c.map.ensures.cases) (λ y p. ap view_lexer_error p ∙ sym it.0)

pub returns-in-2-clause-exact : goal.returns-in-2-clause-exact
returns-in-2-clause-exact c = λ e at b f.
    let it = unexpected_named c.args.source.now c.utf8.source c.args.error.now e at b f c.in-2.is in
    let some = some_if c.named-in-2.result c.args.error.now.character c.named-in-2.ensures it.1 in
    is_some_and c.map-in-2.result _ _ (rw some at c.map-in-2.ensures.cases) (λ y p. ap view_lexer_error p ∙ sym it.0)

pub returns-in-4-clause-exact : goal.returns-in-4-clause-exact
returns-in-4-clause-exact c = λ e at b f.
    let it = in_string_named c.args.source.now c.utf8.source c.args.error.now e at b f c.in-4.is in
    let some = some_if c.named-in-4.result c.args.error.now.character c.named-in-4.ensures it.1 in
    is_some_and c.map-in-4.result _ _ (rw some at c.map-in-4.ensures.cases) (λ y p. ap view_lexer_error p ∙ sym it.0)

pub returns-in_ok-from_str-in-Some-clause-exact : goal.returns-in_ok-from_str-in-Some-clause-exact
returns-in_ok-from_str-in-Some-clause-exact c = λ e at b f.
    let it = escape_named c.args.source.now c.utf8.source c.args.error.now e at b f c.in-5.is in
    let same = token_characters c.args.source.now c.args.error.now c.in-Some.escape.now it.0 it.2 c.in-Some.ensures.1 in
    ap (λ t. kinds.UnknownEscapeSequence (chars t)) c.in_ok-from_str-in-Some.ensures.ok
    ∙ (ap kinds.UnknownEscapeSequence same ∙ sym it.1)

pub returns-in-None-clause-exact : goal.returns-in-None-clause-exact
returns-in-None-clause-exact c = λ e at b f.
    c.in-None.ensures (escape_named c.args.source.now c.utf8.source c.args.error.now e at b f c.in-5.is).2.is_text

pub returns-in_ok-from_str-in-Some-clause-words : goal.returns-in_ok-from_str-in-Some-clause-words
returns-in_ok-from_str-in-Some-clause-words c = of_escape c.in-5.is c.in-Some.ensures.0

pub returns-in_err-from_str-in-Some-clause-memory : goal.returns-in_err-from_str-in-Some-clause-memory
returns-in_err-from_str-in-Some-clause-memory c =
    let words : HasLexicalWords c.args.source.now c.args.error.now = of_escape c.in-5.is c.in-Some.ensures.0 in
    search (rules, words)
