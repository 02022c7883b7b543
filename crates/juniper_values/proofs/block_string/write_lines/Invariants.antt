use Rattle.std.proofs.Common.{length, IsUtf8, Some}
use Rattle.std.specs.Str.{chars}
use Rattle.juniper_values.specs.device.BlockSteps.{lines_of, left_text}
use Rattle.juniper_values.proofs.Writing.{Written}
use Rattle.juniper_values.proofs.block_string.write_lines.Given as goal

abbrev pub invariant-loop-c : goal.invariant-loop-c
invariant-loop-c g l = record {
  utf8 : IsUtf8 l.rest;
  written : Written g.W.Write.write_str_gives l.initial.out l.out
      (Some (left_text l.fn.measured.indent l.fn.removed l.fn.measured.feeds (lines_of (chars l.fn.text))))
      (Some (left_text l.measured.indent l.removed l.feeds (lines_of (chars l.rest))));
}

abbrev pub decreases-loop-c : goal.decreases-loop-c
decreases-loop-c g l = length l.rest
