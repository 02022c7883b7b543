use Rattle.juniper_values.proofs.Writing.{string_written}
use Rattle.juniper_values.proofs.block_string.block_value.Goals as goal

pub returns-in-Ok : goal.returns-in-Ok
returns-in-Ok c =
    string_written c.in_ok-value.value _ _ c.in_ok-value.ensures.bytes c.in-Ok.ensures
