use Rattle.std.proofs.Common.{◌≡◌, ◌<◌, length, drop, ap, sym, subst, ◌∙◌, arith}
use Rattle.std.proofs.lemmas.Bool.{eqb-false}
use Rattle.std.specs.Str.{chars}
use Rattle.graphql_lexical.specs.declared.kind.Kind.TheVariants.{Int}
use Rattle.graphql_lexical.specs.device.Scan.{after_zero, found}
use Rattle.juniper_tokens.specs.device.Scans.{MeetsScan}
use Rattle.juniper_tokens.proofs.Stops.{zero_goes_on, zero_at_end, zero_ends}
use Rattle.juniper_tokens.proofs.lexer.scan.scan_zero.Goals.{else-not-is_empty-via-then-not-is_empty+else-is_ascii_digit, else-not-is_empty-via-else-not-is_empty}
use Rattle.juniper_tokens.proofs.lexer.scan.scan_zero.Goals as goal

pub returns-then-is_ascii_digit : goal.returns-then-is_ascii_digit
returns-then-is_ascii_digit c =
    let bytes = c.as_bytes-bytes.result.now in
    let n = c.args.end.characters in
    let some : 0 < length bytes = omega (
      arith,
      eqb-false (length bytes) 0 (sym c.is_empty.ensures ∙ c.if-not-is_empty.true),
    ) in
    ap (after_zero n (chars c.args.text.now)) (sym c.text_from.ensures.characters)
    ∙ zero_goes_on n (chars c.args.text.now) c.text_from.result.now bytes c.text_from.utf8 c.as_bytes-bytes.ensures.value
    some (sym c.is_ascii_digit.ensures.value ∙ c.if-is_ascii_digit.true)

pub returns : goal.returns
returns c =
    let bytes = c.as_bytes-bytes.result.now in
    let n = c.args.end.characters in
    let text = chars c.args.text.now in
    let rest = c.text_from.result.now in
    let same = c.as_bytes-bytes.ensures.value in
    let ends : after_zero n text (chars rest) ≡ found n Int text = elim c.else-not-is_empty.branch [
      | else-not-is_empty-via-then-not-is_empty+else-is_ascii_digit w ↦
          let some : 0 < length bytes = omega (
            arith,
            eqb-false (length bytes) 0 (sym c.is_empty.ensures ∙ w.if-not-is_empty.true),
          ) in
          zero_ends n text rest bytes c.text_from.utf8 same some
          (sym w.is_ascii_digit.ensures.value ∙ w.if-is_ascii_digit.false)
      | else-not-is_empty-via-else-not-is_empty w ↦
          zero_at_end n text rest bytes c.text_from.utf8 same (sym c.is_empty.ensures ∙ w.if-not-is_empty.false)
    ] in
    subst (λ r. MeetsScan r text (after_zero n text (drop n text))) (sym c.token_of.ensures)
    (ap (after_zero n text) (sym c.text_from.ensures.characters) ∙ ends, c.requires)
