use Rattle.std.proofs.Common.{length, IsUtf8}
use Rattle.std.specs.Str.{chars}
use Rattle.juniper_values.specs.device.BlockSteps.{lines_of}
use Rattle.juniper_values.proofs.BlockFronts.{Skips}
use Rattle.juniper_values.proofs.block_string.skip_blank_lines.Given as goal

abbrev pub invariant-loop-c : goal.invariant-loop-c
invariant-loop-c l = record {
  utf8 : IsUtf8 l.rest;
  start_utf8 : IsUtf8 l.start;
  skips : Skips (lines_of (chars l.fn.text)) (lines_of (chars l.start)) (lines_of (chars l.rest)) l.skipped;
}

abbrev pub decreases-loop-c : goal.decreases-loop-c
decreases-loop-c l = length l.rest
