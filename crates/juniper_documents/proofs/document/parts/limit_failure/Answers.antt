use Rattle.std.proofs.Common.{refl}
use Rattle.std.specs.Prelude.{Option}
use Rattle.std.specs.Str.{chars}
use Rattle.juniper_tokens.specs.declared.span.Span.{Span}
use Rattle.juniper_tokens.specs.Lexing.{started}
use Rattle.juniper_documents.proofs.BothLimits.{tokens_fail}
use Rattle.juniper_documents.proofs.StreamedLimits.{checked_failure}
use Rattle.juniper_documents.proofs.document.parts.limit_failure.Goals as goal

pub returns-in-Ok : goal.returns-in-Ok
returns-in-Ok c = λ scalars tokens rest nested fails.
    let limits = c.args.limits in
    let checked = c.in-Ok.ensures in
    rw (c.from.ensures, c.depth_failure.ensures)
    (checked_failure scalars limits.depth limits.tokens (chars c.args.source.now) tokens rest nested c.args.failure
    fails c.in-Ok.deep checked.nested checked.few)

pub returns-in-Err : goal.returns-in-Err
returns-in-Err c = λ scalars tokens rest nested fails.
    let limits = c.args.limits in
    let source = chars c.args.source.now in
    let failed = c.in-Err.ensures in
    rw c.from-in-Err.ensures (tokens_fail scalars limits.depth limits.tokens source (Option Span) c.in-Err.failure
    (started source) refl failed.fault failed.zero_width failed.few failed.many failed.limited)
