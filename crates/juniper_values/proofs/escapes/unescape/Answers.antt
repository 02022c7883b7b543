use Rattle.juniper_values.proofs.Writing.{string_whole, none_whole}
use Rattle.juniper_values.proofs.escapes.unescape.Goals as goal

pub returns-in-Ok-true : goal.returns-in-Ok-true
returns-in-Ok-true c =
    let wrote = c.in-Ok-true.ensures in
    string_whole c.in_ok-value.value _ _ _ wrote.whole c.in-Ok-true.field-0-test c.in_ok-value.ensures.bytes wrote.text

pub returns-in-Ok-false : goal.returns-in-Ok-false
returns-in-Ok-false c = none_whole _ _ c.in-Ok-false.ensures.whole c.in-Ok-false.field-0-test
