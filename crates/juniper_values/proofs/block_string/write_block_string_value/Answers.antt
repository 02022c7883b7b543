use Rattle.std.proofs.Common.{◌≡◌, ap, subst, sym, ◌∙◌}
use Rattle.std.specs.Prelude.{if◌then◌else◌, OnOk}
use Rattle.std.specs.Fmt.{WritesInCalls}
use Rattle.std.specs.Str.{chars}
use Rattle.std.proofs.Output.{writes_in_calls_nil}
use lib.Utf8.{encodes}
use Rattle.juniper_values.proofs.BlockUnindented.{all_blank_value, value_left}
use Rattle.juniper_values.proofs.block_string.write_block_string_value.Goals as goal
use Rattle.juniper_values.proofs.block_string.write_block_string_value.Goals.{then-skipped, else-skipped}

pub returns-in_default : goal.returns-in_default
returns-in_default g c =
    let took = g.W.Write.write_str_gives in
    let out = c.args.out.now in
    subst (λ t. WritesInCalls took out (encodes t) out)
    (all_blank_value (chars c.args.text.now) c.in_default.ensures.lines) (writes_in_calls_nil took out)

pub returns : goal.returns
returns g c =
    let found = c.in-Some in
    let k = c.measure-measured.result.indent in
    let start : c.if-skipped.removed ≡ (if found.skipped then k else 0) =
    elim c.if-skipped.branch [
      | then-skipped w ↦ w.removed-is ∙ ap (λ b. if b then k else 0) (sym w.if-skipped.true)
      | else-skipped w ↦ w.removed-is ∙ ap (λ b. if b then k else 0) (sym w.if-skipped.false)
    ] in
    subst (λ t. OnOk c.write_lines.result
    (WritesInCalls g.W.Write.write_str_gives c.args.out.now (encodes t) c.write_lines.new.out))
    (value_left (chars c.args.text.now) (chars found.rest.now) found.skipped k c.if-skipped.removed
    c.measure-measured.result.feeds found.ensures.lines found.ensures.skipped
    c.measure-measured.ensures.indent c.measure-measured.ensures.feeds start)
    c.write_lines.ensures
