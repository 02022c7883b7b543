use Rattle.std.proofs.Common.{◌∙◌, ℕ, List, None, refl, sym, subst}
use Rattle.std.specs.Prelude.{Option}
use Rattle.std.specs.Str.{chars}
use Rattle.juniper_tokens.specs.declared.span.Span.{Span}
use Rattle.juniper_tokens.specs.Lexing.{started}
use Rattle.juniper_tokens.specs.Taking.{left}
use Rattle.juniper_documents.specs.Limited.{FailsLimited, tokens_limited}
use Rattle.juniper_tree.specs.Scalars.{stated}
use Rattle.juniper_documents.specs.device.Ended.{EndsWithin}
use Rattle.juniper_documents.proofs.BothLimits.{tokens_fail}
use Rattle.juniper_documents.proofs.StreamedLimits.{Checked, checked_ends, tree_of}
use Rattle.juniper_documents.proofs.document.parts.build_document_source.Goals as goal

pub returns-then-is_whole-clause-accepted : goal.returns-then-is_whole-clause-accepted
returns-then-is_whole-clause-accepted g c =
    let S = stated g.S.ParseScalarValue.reading g.S.ScalarValue.of_bool in
    let source = g.B.Name.SourceText.characters c.args.source.now in
    let first = left c.of_source-tokens.result in
    let known = c.of_source-tokens.ensures.whole
    (sym c.in-Ok.ensures.on.still ∙ c.is_whole.ensures.whole c.if-is_whole.true) in
    let given = c.in-Ok.ensures.gives in
    let tree = tree_of S c.args.limits.depth source first None (first, known.0, (known.2, refl)) given.1.part given.0
    given.1.reads in
    record { tree = given.1.part; has_tree = tree.0; are_built = given.1.is_built }

pub returns-then-is_whole-clause-within : goal.returns-then-is_whole-clause-within
returns-then-is_whole-clause-within g c =
    let S = stated g.S.ParseScalarValue.reading g.S.ScalarValue.of_bool in
    let source = g.B.Name.SourceText.characters c.args.source.now in
    let first = left c.of_source-tokens.result in
    let known = c.of_source-tokens.ensures.whole
    (sym c.in-Ok.ensures.on.still ∙ c.is_whole.ensures.whole c.if-is_whole.true) in
    let given = c.in-Ok.ensures.gives in
    (tree_of S c.args.limits.depth source first None (first, known.0, (known.2, refl)) given.1.part given.0
    given.1.reads).1

pub returns-in-Ok-check_tokens-clause-accepted : goal.returns-in-Ok-check_tokens-clause-accepted
returns-in-Ok-check_tokens-clause-accepted g c =
    let S = stated g.S.ParseScalarValue.reading g.S.ScalarValue.of_bool in
    let source = g.B.Name.SourceText.characters c.args.source.now in
    let limits = c.args.limits in
    let first = left c.of_source-tokens.result in
    let deep = c.in-Ok-check_tokens.field-0 in
    let checked = subst (λ (characters : List ℕ). Checked limits.depth limits.tokens characters deep) c.as_str.ensures
    c.in-Ok-check_tokens.ensures.nested in
    let ended = checked_ends limits.depth limits.tokens source first c.of_source-tokens.ensures.nested deep checked in
    let given = c.in-Ok.ensures.gives in
    let tree = tree_of S limits.depth source first deep ended given.1.part given.0 given.1.reads in
    record { tree = given.1.part; has_tree = tree.0; are_built = given.1.is_built }

pub returns-in-Ok-check_tokens-clause-within : goal.returns-in-Ok-check_tokens-clause-within
returns-in-Ok-check_tokens-clause-within g c =
    let S = stated g.S.ParseScalarValue.reading g.S.ScalarValue.of_bool in
    let source = g.B.Name.SourceText.characters c.args.source.now in
    let limits = c.args.limits in
    let first = left c.of_source-tokens.result in
    let deep = c.in-Ok-check_tokens.field-0 in
    let checked = subst (λ (characters : List ℕ). Checked limits.depth limits.tokens characters deep) c.as_str.ensures
    c.in-Ok-check_tokens.ensures.nested in
    let ended = checked_ends limits.depth limits.tokens source first c.of_source-tokens.ensures.nested deep checked in
    let given = c.in-Ok.ensures.gives in
    (tree_of S limits.depth source first deep ended given.1.part given.0 given.1.reads).1

pub returns-in-Err-check_tokens-clause-failed : goal.returns-in-Err-check_tokens-clause-failed
returns-in-Err-check_tokens-clause-failed g c =
    let S = stated g.S.ParseScalarValue.reading g.S.ScalarValue.of_bool in
    let limits = c.args.limits in
    let text = chars c.as_str.result.now in
    let failed = c.in-Err-check_tokens.ensures in
    let failure = c.in-Err-check_tokens.failure in
    let fails = tokens_fail S limits.depth limits.tokens text (Option Span) failure (started text) refl failed.fault
    failed.zero_width failed.few failed.many failed.limited in (
      c.from.result,
      c.from-in-Err-check_tokens.ensures,
      rw c.from.ensures
          (subst (λ (cs : List ℕ). FailsLimited S limits.depth limits.tokens cs (tokens_limited failure))
          c.as_str.ensures fails),
    )

pub returns-in-Err-clause-failed : goal.returns-in-Err-clause-failed
returns-in-Err-clause-failed g c =
    let S = stated g.S.ParseScalarValue.reading g.S.ScalarValue.of_bool in
    let limits = c.args.limits in
    let first = left c.of_source-tokens.result in
    let nested = subst (λ (characters : List ℕ). EndsWithin limits.depth limits.tokens characters first)
    (sym c.as_str-in-Err.ensures) c.of_source-tokens.ensures.nested in
    let given = c.in-Err.ensures.gives in
    let failed = c.limit_failure in
    let fails = failed.ensures S first given.0 nested (rw given.1.1 given.1.2) in (
      failed.result,
      c.from-in-Err.ensures,
      subst (λ (characters : List ℕ). FailsLimited S limits.depth limits.tokens characters failed.result)
          c.as_str-in-Err.ensures fails,
    )
