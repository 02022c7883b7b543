use Rattle.std.proofs.Common.{◌∙◌, List, [], Err, refl, sym, ap, subst, rules}
use Rattle.std.specs.Prelude.{Option}
use Rattle.std.specs.Str.{chars}
use Rattle.graphql_grammar.specs.Tree.{Definition}
use Rattle.juniper_tokens.specs.declared.span.Span.{Span}
use Rattle.juniper_tokens.specs.Lexing.{started}
use Rattle.juniper_tokens.specs.Taking.{left}
use Rattle.juniper_values.specs.Scalar.{Content}
use Rattle.juniper_documents.specs.declared.document.limited.LimitFailure.{LimitFailure}
use Rattle.juniper_documents.specs.Limited.{ReturnsLimited, failure_limited}
use Rattle.juniper_tree.specs.Scalars.{stated}
use Rattle.juniper_documents.specs.Within.{failure_within}
use Rattle.juniper_documents.proofs.BothLimits.{err_limited, tokens_failed}
use Rattle.juniper_documents.proofs.Sinks.{given_of_text, none_given}
use Rattle.juniper_documents.proofs.StreamedLimits.{checked_ends, checked_failure, tree_of}
use Rattle.juniper_documents.proofs.document.sink.parse_document_source_into.Goals as goal

pub returns-in_err-deep : goal.returns-in_err-deep
returns-in_err-deep g c =
    let S = stated g.S.ParseScalarValue.reading g.S.ScalarValue.of_bool in
    let limits = c.args.limits in
    let source = chars c.args.s.now in
    let view : Unit {0} → List (Definition Content) = λ x. [] in
    let failed = c.in_err-deep in
    let q = tokens_failed S limits.depth limits.tokens source view (Option Span) failed.field-0.0
    c.from_residual.result c.from_residual.ensures.1 (started source) refl failed.ensures.fault
    failed.ensures.zero_width failed.ensures.few failed.ensures.many failed.ensures.limited in
    record {
      accepted = search rules;
      refused = q.refused;
      within = q.within;
      too_deep = q.too_deep;
      few = q.few;
      too_many = q.too_many;
      limited = q.limited;
      given = none_given g.D.DefinitionSink.holds S source c.args.definitions.now;
    }

pub returns-in-Ok : goal.returns-in-Ok
returns-in-Ok g c =
    let S = stated g.S.ParseScalarValue.reading g.S.ScalarValue.of_bool in
    let limits = c.args.limits in
    let source = chars c.args.s.now in
    let first = left c.of_source-tokens.result in
    let checked = c.in_ok-deep in
    let ended = checked_ends limits.depth limits.tokens source first c.of_source-tokens.ensures.nested checked.deep
    checked.ensures.nested in
    let given = c.in-Ok.ensures in
    let tree = tree_of S limits.depth source first checked.deep ended given.answer.0 given.answer.1 given.answer.2 in
    record {
      accepted = record { tree = given.answer.0; has_tree = tree.0; gains = given.answer.3 };
      refused = tt;
      within = tree.1;
      too_deep = tt;
      few = checked.ensures.few;
      too_many = tt;
      limited = tt;
      given = given_of_text g.D.DefinitionSink.holds S limits.depth source ended.0 first checked.deep ended.1 ended.2
          given.given;
    }

pub returns-in-Err : goal.returns-in-Err
returns-in-Err g c =
    let S = stated g.S.ParseScalarValue.reading g.S.ScalarValue.of_bool in
    let limits = c.args.limits in
    let source = chars c.args.s.now in
    let view : Unit {0} → List (Definition Content) = λ x. [] in
    let first = left c.of_source-tokens.result in
    let checked = c.in_ok-deep in
    let deep = checked.deep in
    let nested = c.of_source-tokens.ensures.nested in
    let ended = checked_ends limits.depth limits.tokens source first nested deep checked.ensures.nested in
    let failed = c.in-Err in
    let fails = failed.ensures.answer in
    let said = checked_failure S limits.depth limits.tokens source first fails.0 nested failed.failure fails.1 deep
    checked.ensures.nested checked.ensures.few in
    let is = c.from.ensures ∙ ap failure_limited c.depth_failure.ensures in
    let q = subst (λ (e : LimitFailure). ReturnsLimited S limits.depth limits.tokens source view (Err e)) (sym is)
    (err_limited S limits.depth limits.tokens source view (failure_limited (failure_within deep failed.failure)) said) in
    record {
      accepted = tt;
      refused = q.refused;
      within = q.within;
      too_deep = q.too_deep;
      few = q.few;
      too_many = q.too_many;
      limited = q.limited;
      given = given_of_text g.D.DefinitionSink.holds S limits.depth source ended.0 first deep ended.1 ended.2
          failed.ensures.given;
    }
