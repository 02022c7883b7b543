use Rattle.std.proofs.Common.{◌≤◌, ◌<◌, ◌⊎◌, length, inl, inr, sym, subst, ◌∙◌, arith}
use Rattle.std.specs.Str.{chars}
use Rattle.juniper_tokens.specs.device.Scans.{Misses}
use Rattle.juniper_tokens.proofs.EscapeFaults.{unicode_mark, letters_fit, stands_after, u_ends, u_goes_on}
use Rattle.juniper_tokens.proofs.lexer.scan.unicode_fault.Goals.{else-count-lt4-via-then-count-lt4+else-is_empty, else-count-lt4-via-else-count-lt4}
use Rattle.juniper_tokens.proofs.lexer.scan.unicode_fault.Goals as goal

pub overflow_add-result-then-is_empty : goal.overflow_add-result-then-is_empty
overflow_add-result-then-is_empty c = omega (
  arith,
  letters_fit c.args.at c.count_alphanumerics-count.result
      c.args.rest.now c.utf8.rest c.requires c.count_alphanumerics-count.ensures,
)

pub returns-then-is_empty : goal.returns-then-is_empty
returns-then-is_empty c =
    let ends = stands_after c.count_alphanumerics-count.result (chars c.args.rest.now) c.text_after.result.now _
    c.text_after.utf8 c.text_after.ensures (sym c.is_empty.ensures ∙ c.if-is_empty.true) in
    u_ends c.args.at _ _ c.count_alphanumerics-count.ensures ends c.if-count-lt4.true

pub returns-else-count-lt4 : goal.returns-else-count-lt4
returns-else-count-lt4 c =
    let more : (4 ≤ c.count_alphanumerics-count.result)
    ⊎ (c.count_alphanumerics-count.result < length (chars c.args.rest.now)) = elim c.else-count-lt4.branch [
      | else-count-lt4-via-then-count-lt4+else-is_empty w ↦ inr
          (stands_after c.count_alphanumerics-count.result (chars c.args.rest.now) w.text_after.result.now _
          w.text_after.utf8 w.text_after.ensures (sym w.is_empty.ensures ∙ w.if-is_empty.false))
      | else-count-lt4-via-else-count-lt4 w ↦ inl w.if-count-lt4.false
    ] in
    subst (Misses c.escape_fault.result)
    (u_goes_on c.args.at c.count_alphanumerics-count.result _ _ _ (chars c.args.rest.now)
    c.count_alphanumerics-count.ensures more (omega (arith, c.max.ensures)) unicode_mark c.first_characters.ensures)
    c.escape_fault.ensures
