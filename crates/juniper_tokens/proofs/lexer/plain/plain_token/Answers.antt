use Rattle.std.proofs.Common.{◌<◌, length, sym, subst, ap, ◌∙◌, arith, get_or}
use Rattle.graphql_lexical.specs.Tokens.{punctuator}
use Rattle.juniper_tokens.proofs.PlainTokens.{class_there, some_there, name_found, mark_found}
use Rattle.juniper_tokens.proofs.lexer.plain.plain_token.Goals as goal

pub returns-in-NameStart-clause-finds : goal.returns-in-NameStart-clause-finds
returns-in-NameStart-clause-finds c =
    let text = c.args.text.now in
    let class = sym c.in-NameStart.is ∙ (c.requires ∙ class_there text c.utf8.text) in
    name_found text _ c.utf8.text c.as_bytes-bytes.ensures.value (some_there text _ class (λ e. absurd (cc e)))
    (omega (arith, c.type_inv.text 0)) _ class c.run_over.ensures.runs

pub returns-in_ok-punctuator-in-Punctuator-clause-finds : goal.returns-in_ok-punctuator-in-Punctuator-clause-finds
returns-in_ok-punctuator-in-Punctuator-clause-finds c =
    let text = c.args.text.now in
    let same = c.as_bytes-bytes.ensures.value in
    let class = sym c.in-Punctuator.is ∙ (c.requires ∙ class_there text c.utf8.text) in
    mark_found text _ c.utf8.text same (some_there text _ class (λ e. absurd (cc e)))
    (omega (arith, c.type_inv.text 0)) _ class
    (ap (λ t. punctuator (get_or t 0 0)) (sym same)
    ∙ (sym c.punctuator.ensures ∙ c.in_ok-punctuator-in-Punctuator.was))

pub bounds-bytes-0 : goal.bounds-bytes-0
bounds-bytes-0 c = subst (λ t. 0 < length t) (sym c.as_bytes-bytes.ensures.value)
    (some_there c.args.text.now _ (sym c.in-Punctuator.is ∙ (c.requires ∙ class_there c.args.text.now c.utf8.text))
    (λ e. absurd (cc e)))

pub bounds-bytes-0-in-Digit : goal.bounds-bytes-0-in-Digit
bounds-bytes-0-in-Digit c = subst (λ t. 0 < length t) (sym c.as_bytes-bytes.ensures.value)
    (some_there c.args.text.now _ (sym c.in-Digit.is ∙ (c.requires ∙ class_there c.args.text.now c.utf8.text))
    (λ e. absurd (cc e)))

pub plain_int-requires-clause-digit : goal.plain_int-requires-clause-digit
plain_int-requires-clause-digit c =
    sym (sym c.in-Digit.is ∙ (c.requires ∙ class_there c.args.text.now c.utf8.text))

pub plain_dots-requires : goal.plain_dots-requires
plain_dots-requires c = sym (sym c.in-Dot.is ∙ (c.requires ∙ class_there c.args.text.now c.utf8.text))

pub plain_string-requires : goal.plain_string-requires
plain_string-requires c = sym (sym c.in-Quote.is ∙ (c.requires ∙ class_there c.args.text.now c.utf8.text))
