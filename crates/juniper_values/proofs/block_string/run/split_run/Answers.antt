use Rattle.std.proofs.Common.{ap, ◌∙◌}
use Rattle.std.specs.Str.{chars}
use Rattle.juniper_tokens.proofs.Public.{byte_at_boundary, chars_take, chars_drop}
use Rattle.juniper_values.specs.device.BlockSteps.{run_length}
use Rattle.juniper_values.proofs.BlockRuns.{run_offset}
use Rattle.juniper_values.proofs.block_string.run.split_run.Goals as goal

pub split_at-requires : goal.split_at-requires
split_at-requires c =
    let n = run_offset c.args.text.now _ c.utf8.text (c.run_length.ensures ∙ ap run_length c.as_bytes.ensures.value) in
    byte_at_boundary _ _ _ c.utf8.text n

pub returns-clause-run : goal.returns-clause-run
returns-clause-run c =
    let n = run_offset c.args.text.now _ c.utf8.text (c.run_length.ensures ∙ ap run_length c.as_bytes.ensures.value) in
    ap chars c.split_at.ensures.front ∙ chars_take _ _ _ c.utf8.text n

pub returns-clause-after : goal.returns-clause-after
returns-clause-after c =
    let n = run_offset c.args.text.now _ c.utf8.text (c.run_length.ensures ∙ ap run_length c.as_bytes.ensures.value) in
    ap chars c.split_at.ensures.back ∙ chars_drop _ _ _ c.utf8.text n
