use Rattle.std.proofs.Common.{◌∙◌, ◌≡◌, Ok, Err, ap, subst, sym}
use Rattle.std.specs.Prelude.{Option}
use Rattle.std.specs.Str.{chars}
use Rattle.std.proofs.lemmas.Result.{err_from_is_err_and}
use Rattle.juniper_tokens.specs.declared.span.Span.{Span}
use Rattle.juniper_tokens.specs.Taking.{left}
use Rattle.juniper_tree.specs.View.{view_spanned_type}
use Rattle.graphql_grammar.specs.Grammar.{IsLocated, IsType}
use Rattle.juniper_documents.specs.Limited.{failure_limited}
use Rattle.juniper_documents.specs.Literals.{FailsType, HasType, NamesTypeError}
use Rattle.juniper_documents.specs.Within.{failure_within}
use Rattle.juniper_documents.proofs.LiteralLimits.{literal_limited, literal_uncounted, type_decided}
use Rattle.juniper_documents.proofs.StreamedLimits.{checked_ends}
use Rattle.juniper_documents.proofs.literals.parse_type_source.Goals as goal

pub returns-in_err-deep-clause-failed : goal.returns-in_err-deep-clause-failed
returns-in_err-deep-clause-failed c =
    let p = err_from_is_err_and c.from_residual.result c.from_residual.ensures.1 in
    let limits = c.args.limits in
    let failed = c.in_err-deep.ensures in
    rw (p.1, p.2) (literal_uncounted (IsLocated IsType) NamesTypeError limits.depth (chars c.args.s.now) limits.tokens
    (Option Span) c.in_err-deep.field-0.0 failed.fault failed.zero_width failed.few failed.many failed.limited)

pub returns-in-Ok-clause-accepted : goal.returns-in-Ok-clause-accepted
returns-in-Ok-clause-accepted c =
    let source = chars c.args.s.now in
    let limits = c.args.limits in
    let first = left c.of_source-tokens.result in
    let deep = c.in_ok-deep.deep in
    let ended = checked_ends limits.depth limits.tokens source first c.of_source-tokens.ensures.nested deep
    c.in_ok-deep.ensures.nested in
    let decided = type_decided (λ x y. y ≡ view_spanned_type x) limits.depth source deep first (Ok c.in-Ok.of_type)
    ended
    c.in-Ok.ensures in
    subst (HasType source) decided.1 decided.2

pub returns-in-Ok-clause-within : goal.returns-in-Ok-clause-within
returns-in-Ok-clause-within c =
    let source = chars c.args.s.now in
    let limits = c.args.limits in
    let first = left c.of_source-tokens.result in
    let deep = c.in_ok-deep.deep in
    let ended = checked_ends limits.depth limits.tokens source first c.of_source-tokens.ensures.nested deep
    c.in_ok-deep.ensures.nested in
    let decided = type_decided (λ x y. y ≡ view_spanned_type x) limits.depth source deep first (Ok c.in-Ok.of_type)
    ended
    c.in-Ok.ensures in
    decided.3

pub returns-in-Err-clause-failed : goal.returns-in-Err-clause-failed
returns-in-Err-clause-failed c =
    let source = chars c.args.s.now in
    let limits = c.args.limits in
    let first = left c.of_source-tokens.result in
    let deep = c.in_ok-deep.deep in
    let ended = checked_ends limits.depth limits.tokens source first c.of_source-tokens.ensures.nested deep
    c.in_ok-deep.ensures.nested in
    let failed = c.in-Err in
    let decided = type_decided (λ x y. y ≡ view_spanned_type x) limits.depth source deep first (Err failed.failure)
    ended
    failed.ensures in
    let says = literal_limited (IsLocated IsType) NamesTypeError limits.depth source limits.tokens
    (failure_within deep failed.failure) decided c.in_ok-deep.ensures.few in
    subst (FailsType limits.depth limits.tokens source)
    (sym (c.from.ensures ∙ ap failure_limited c.depth_failure.ensures))
    says
