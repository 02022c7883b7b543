use Rattle.std.proofs.Common.{◌∙◌, refl, sym}
use Rattle.std.specs.Str.{chars}
use Rattle.firthnapkin_results.proofs.ReadScalars.{string_read, not_read, block_read}
use Rattle.firthnapkin_results.proofs.builder.NodeBuilder.push_token.Goals as goal

pub returns-in-Ok-true : goal.returns-in-Ok-true
returns-in-Ok-true c =
    let written = c.in-Ok-true.ensures in
    rw c.in-String.is
    (string_read (chars c.in-String.text.now) c.args.self.now c.write_string_value.new.out _ refl
    (sym c.in-Ok-true.field-0-test ∙ written.whole) written.text)

pub returns-in_ok-from_str-in-Ok-false : goal.returns-in_ok-from_str-in-Ok-false
returns-in_ok-from_str-in-Ok-false c =
    let found = c.in-Ok-false in
    absurd (not_read (chars c.in-String.text.now) _ _ refl (sym found.field-0-test ∙ found.ensures.whole)
    (rw c.in-String.is at c.in_ok-from_str-in-Ok-false.ensures))

pub returns-in-Ok : goal.returns-in-Ok
returns-in-Ok c =
    rw c.in-BlockString.is
    (block_read (chars c.in-BlockString.text.now) c.args.self.now c.write_block_string_value.new.out c.in-Ok.ensures)
