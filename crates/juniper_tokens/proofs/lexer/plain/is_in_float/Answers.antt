use Rattle.std.proofs.Common.{◌<◌, not, length, sym, ap, ◌∙◌, arith}
use Rattle.std.proofs.lemmas.Bool.{eqb-true, eqb-false}
use Rattle.std.specs.Prelude.{is_some}
use Rattle.juniper_tokens.proofs.TokenWalks.{in_float, not_in_float}
use Rattle.juniper_tokens.proofs.lexer.plain.is_in_float.Goals as goal

pub returns-then-not-is_empty : goal.returns-then-not-is_empty
returns-then-not-is_empty c =
    let bytes = c.as_bytes-bytes.result.now in
    let some : 0 < length bytes = omega (
      arith,
      eqb-false (length bytes) 0 (sym c.is_empty.ensures ∙ c.if-not-is_empty.true),
    ) in
    c.is_some.ensures ∙ (ap is_some c.step_after_integer.ensures
    ∙ in_float c.args.rest.now bytes c.utf8.rest c.as_bytes-bytes.ensures.value some)

pub returns-else-not-is_empty : goal.returns-else-not-is_empty
returns-else-not-is_empty c =
    let bytes = c.as_bytes-bytes.result.now in
    ap not c.if-not-is_empty.false
    ∙ not_in_float c.args.rest.now bytes c.utf8.rest c.as_bytes-bytes.ensures.value
    (eqb-true (length bytes) 0 (sym c.is_empty.ensures ∙ c.if-not-is_empty.false))
