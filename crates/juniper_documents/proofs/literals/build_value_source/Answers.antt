use Rattle.std.proofs.Common.{◌∙◌, ℕ, List, Ok, Err, ap, subst, sym}
use Rattle.std.specs.Prelude.{Option, not}
use Rattle.std.specs.Str.{chars}
use Rattle.juniper_tokens.specs.declared.span.Span.{Span}
use Rattle.juniper_tokens.specs.Taking.{left}
use Rattle.juniper_tree.specs.Scalars.{stated}
use Rattle.graphql_grammar.specs.Grammar.{IsLocated, IsValue}
use Rattle.juniper_documents.specs.Limited.{failure_limited, tokens_limited, HasFewTokens}
use Rattle.juniper_documents.specs.Literals.{FailsValue, NamesValueError}
use Rattle.juniper_documents.specs.Within.{failure_within}
use Rattle.juniper_documents.proofs.LiteralLimits.{literal_limited, literal_uncounted, value_decided}
use Rattle.juniper_documents.proofs.StreamedLimits.{Checked, checked_ends}
use Rattle.juniper_documents.proofs.literals.build_value_source.Goals as goal

pub returns-in-Ok-build_value-clause-accepted : goal.returns-in-Ok-build_value-clause-accepted
returns-in-Ok-build_value-clause-accepted g c =
    let S = stated g.S.ParseScalarValue.reading g.S.ScalarValue.of_bool in
    let source = g.B.Name.SourceText.characters c.args.source.now in
    let limits = c.args.limits in
    let first = left c.of_source-tokens.result in
    let checked = subst (λ (cs : List ℕ). Checked limits.depth limits.tokens cs c.in-Ok.deep) c.as_str.ensures
    c.in-Ok.ensures.nested in
    let ended = checked_ends limits.depth limits.tokens source first c.of_source-tokens.ensures.nested c.in-Ok.deep
    checked in
    let decided = value_decided S (not c.args.is_const)
    (g.B.Builder.builds_value c.args.builder.now c.build_value.new.builder) limits.depth source c.in-Ok.deep first
    (Ok c.in-Ok-build_value.value) ended c.in-Ok-build_value.ensures in
    (decided.0, decided.1, decided.2)

pub returns-in-Ok-build_value-clause-within : goal.returns-in-Ok-build_value-clause-within
returns-in-Ok-build_value-clause-within g c =
    let S = stated g.S.ParseScalarValue.reading g.S.ScalarValue.of_bool in
    let source = g.B.Name.SourceText.characters c.args.source.now in
    let limits = c.args.limits in
    let first = left c.of_source-tokens.result in
    let checked = subst (λ (cs : List ℕ). Checked limits.depth limits.tokens cs c.in-Ok.deep) c.as_str.ensures
    c.in-Ok.ensures.nested in
    let ended = checked_ends limits.depth limits.tokens source first c.of_source-tokens.ensures.nested c.in-Ok.deep
    checked in
    let decided = value_decided S (not c.args.is_const)
    (g.B.Builder.builds_value c.args.builder.now c.build_value.new.builder) limits.depth source c.in-Ok.deep first
    (Ok c.in-Ok-build_value.value) ended c.in-Ok-build_value.ensures in
    decided.3

pub returns-in-Err-build_value-clause-failed : goal.returns-in-Err-build_value-clause-failed
returns-in-Err-build_value-clause-failed g c =
    let S = stated g.S.ParseScalarValue.reading g.S.ScalarValue.of_bool in
    let free = not c.args.is_const in
    let source = g.B.Name.SourceText.characters c.args.source.now in
    let limits = c.args.limits in
    let deep = c.in-Ok.deep in
    let first = left c.of_source-tokens.result in
    let checked = subst (λ (cs : List ℕ). Checked limits.depth limits.tokens cs deep) c.as_str.ensures
    c.in-Ok.ensures.nested in
    let few = subst (λ (cs : List ℕ). HasFewTokens limits.tokens cs) c.as_str.ensures c.in-Ok.ensures.few in
    let ended = checked_ends limits.depth limits.tokens source first c.of_source-tokens.ensures.nested deep checked in
    let failed = c.in-Err-build_value in
    let decided = value_decided S free (g.B.Builder.builds_value c.args.builder.now c.build_value.new.builder)
    limits.depth source deep first (Err failed.failure) ended failed.ensures in
    let says = literal_limited (IsLocated (IsValue S free)) (NamesValueError S free) limits.depth source limits.tokens
    (failure_within deep failed.failure) decided few in (
      c.from.result,
      c.from-in-Err-build_value.ensures,
      subst (FailsValue S free limits.depth limits.tokens source)
          (sym (c.from.ensures ∙ ap failure_limited c.depth_failure.ensures)) says,
    )

pub returns-in-Err-clause-failed : goal.returns-in-Err-clause-failed
returns-in-Err-clause-failed g c =
    let S = stated g.S.ParseScalarValue.reading g.S.ScalarValue.of_bool in
    let free = not c.args.is_const in
    let limits = c.args.limits in
    let failed = c.in-Err.ensures in
    let failure = c.in-Err.failure in
    let fails = literal_uncounted (IsLocated (IsValue S free)) (NamesValueError S free) limits.depth
    (chars c.as_str.result.now) limits.tokens (Option Span) failure failed.fault failed.zero_width failed.few
    failed.many failed.limited in (
      c.from-in-Err.result,
      c.from-in-Err-2.ensures,
      rw c.from-in-Err.ensures
          (subst (λ (cs : List ℕ). FailsValue S free limits.depth limits.tokens cs (tokens_limited failure))
          c.as_str.ensures fails),
    )
