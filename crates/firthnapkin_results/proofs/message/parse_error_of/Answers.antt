use Rattle.std.proofs.Common.{◌∙◌, ap, sym, subst, arith}
use Rattle.std.specs.Prelude.{string_bytes}
use Rattle.std.specs.Str.{chars}
use Rattle.std.proofs.lemmas.Str.{chars_from_encodes, IsUtf8-string_bytes}
use Rattle.graphql_lexical.specs.Characters.{Text}
use Rattle.graphql_lexical.specs.Display.{shown}
use Rattle.graphql_lexical.specs.Tokens.{Spells}
use Rattle.juniper_tokens.specs.Errors as errors
use Rattle.firthnapkin_results.proofs.Messages.{refusal_told, tells_token, tells_lexical, tells_some, token_shown, token_characters}
use Rattle.firthnapkin_results.proofs.message.parse_error_of.Goals as goal

pub returns-in_ok-shown_token-in-Some-clause-exact : goal.returns-in_ok-shown_token-in-Some-clause-exact
returns-in_ok-shown_token-in-Some-clause-exact c = λ found r f.
    let source = c.args.source.now in
    let error = c.args.error.now in
    let it = tells_token (chars source) error found (refusal_told (chars source) found r) f
    c.if-error-eq-UNEXPECTED_TOKEN.true in
    let whole = it.stands.1 in
    let same = token_characters source error c.in-Some.written.now whole
    (token_shown source c.utf8.source error found.error it) c.in-Some.ensures.1 in
    let spelled = subst (λ (t : Text). Spells t it.token.kind it.token.text) (sym same) (it.stands.6 it.other) in
    let bytes = c.in_ok-shown_token-in-Some.ensures it.token.kind it.token.text spelled in
    let text = c.in_ok-shown_token-in-Some.field-0 in
    ap errors.UnexpectedToken
    (sym (chars_from_encodes (shown it.token.kind it.token.text) (string_bytes text) (IsUtf8-string_bytes text)
    (sym bytes)))
    ∙ sym it.is

pub returns-in-None-clause-exact : goal.returns-in-None-clause-exact
returns-in-None-clause-exact c = λ found r f.
    let source = c.args.source.now in
    let error = c.args.error.now in
    let it = tells_token (chars source) error found (refusal_told (chars source) found r) f
    c.if-error-eq-UNEXPECTED_TOKEN.true in
    c.in-None.ensures (token_shown source c.utf8.source error found.error it).is_text

pub returns-in-Some-2-clause-exact : goal.returns-in-Some-2-clause-exact
returns-in-Some-2-clause-exact c = λ found r f.
    let source = c.args.source.now in
    let it = tells_lexical (chars source) c.args.error.now found (refusal_told (chars source) found r) f
    c.if-error-eq-LEXICAL.true in
    let same = rw c.in-Some-2.is at c.in_ok-lexer_error.ensures.exact it.lexical_error it.at it.breaks it.error_is in
    ap errors.Lexical same ∙ sym it.is

pub returns-in-None-2-clause-exact : goal.returns-in-None-2-clause-exact
returns-in-None-2-clause-exact c = λ found r f.
    let source = c.args.source.now in
    let it = tells_lexical (chars source) c.args.error.now found (refusal_told (chars source) found r) f
    c.if-error-eq-LEXICAL.true in
    rw c.in-None-2.is at c.in_ok-lexer_error.ensures.exact it.lexical_error it.at it.breaks it.error_is

pub returns-else-error-eq-LEXICAL-clause-exact : goal.returns-else-error-eq-LEXICAL-clause-exact
returns-else-error-eq-LEXICAL-clause-exact c = λ found r f.
    let source = c.args.source.now in
    let few = tells_some (chars source) c.args.error.now found (refusal_told (chars source) found r) f in
    omega (
      arith,
      few,
      c.if-error-eq-UNEXPECTED_TOKEN.false,
      c.if-error-eq-UNEXPECTED_END.false,
      c.if-error-eq-LEXICAL.false,
    )
