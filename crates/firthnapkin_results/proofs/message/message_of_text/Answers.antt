use Rattle.std.proofs.Common.{◌≡◌, ◌<◌, ◌∙◌, length, sym, subst, arith}
use Rattle.std.specs.Prelude.{encode_utf8_all, string_bytes}
use Rattle.juniper_tokens.specs.Errors.{error_text, view_error}
use Rattle.firthnapkin_results.proofs.Messages.{are_words, is_no_error, some_words}
use Rattle.firthnapkin_results.proofs.message.message_of_text.Goals as goal

pub returns-in_ok-format-in-Some-clause-message : goal.returns-in_ok-format-in-Some-clause-message
returns-in_ok-format-in-Some-clause-message c =
    let e = view_error c.in-Some.parse_error in
    let exact = rw c.in-Some.is at c.in_ok-parse_error.ensures.exact in
    let own = rw c.in-Some.is at c.in_ok-parse_error.ensures.own in
    let are = are_words c.args.text.now c.args.error.now e
    (λ h. omega (arith, h, c.if-error-eq-TOO_DEEP.false)) (λ h. omega (arith, h, c.if-error-eq-TOO_MANY_TOKENS.false))
    (λ h. omega (arith, h, c.if-error-eq-UNKNOWN_FRAGMENT.false))
    (λ h. omega (arith, h, c.if-error-eq-FRAGMENT_CYCLE.false)) exact in
    let same : string_bytes c.in_ok-format-in-Some.field-0 ≡ encode_utf8_all (error_text e) =
    c.in_ok-format-in-Some.ensures.ok in (
      c.requires,
      (
        c.utf8.text,
        (subst (λ bytes. 0 < length bytes) (sym same) (some_words e own), λ words is. same ∙ are words is),
      ),
    )

pub returns-in-None-clause-message : goal.returns-in-None-clause-message
returns-in-None-clause-message c = (
  c.requires,
  (
    c.utf8.text,
    is_no_error c.args.text.now c.args.error.now (λ h. omega (arith, h, c.if-error-eq-TOO_DEEP.false))
        (λ h. omega (arith, h, c.if-error-eq-TOO_MANY_TOKENS.false))
        (λ h. omega (arith, h, c.if-error-eq-UNKNOWN_FRAGMENT.false))
        (λ h. omega (arith, h, c.if-error-eq-FRAGMENT_CYCLE.false))
        (rw c.in-None.is at c.in_ok-parse_error.ensures.exact),
  ),
)
