use Rattle.std.proofs.Common.{◌≡◌, ◌+◌, ◌≤◌, false, None, length, IsUtf8}
use Rattle.std.specs.Str.{chars}
use Rattle.juniper_values.specs.device.BlockSteps.{lines_of, is_in_indent, white_before}
use Rattle.juniper_values.proofs.BlockIndents.{least_with}
use Rattle.juniper_values.proofs.BlockFeeds.{feeds_with}
use Rattle.juniper_values.proofs.block_string.measure.Given as goal

abbrev pub invariant-loop-c : goal.invariant-loop-c
invariant-loop-c l = record {
  utf8 : IsUtf8 l.rest;
  fits : white_before l.place + length l.rest ≤ length l.fn.text;
  ends_fit : l.ends + length l.rest ≤ length l.fn.text;
  past_indent : is_in_indent l.place ≡ false → l.feeds ≡ l.ends;
  least : least_with l.least l.place (lines_of (chars l.rest))
      ≡ least_with None l.initial.place (lines_of (chars l.fn.text));
  feeds : feeds_with l.feeds l.ends (lines_of (chars l.rest)) ≡ feeds_with 0 0 (lines_of (chars l.fn.text));
}

abbrev pub decreases-loop-c : goal.decreases-loop-c
decreases-loop-c l = length l.rest
