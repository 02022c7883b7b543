use Rattle.std.proofs.Common.{length}
use denote.Text.{Utf8}
use denote.Shadow.{shadow}
use Rattle.std.specs.Str.{chars}
use Rattle.juniper_values.specs.Escapes.{unescape}
use Rattle.juniper_values.proofs.Writing.{Written}
use Rattle.juniper_values.proofs.escapes.write_string_value.Given as goal

abbrev pub invariant-loop-plain : goal.invariant-loop-plain
invariant-loop-plain g l = record {
  utf8 : shadow (Utf8 l.rest);
  written : Written g.W.Write.write_str_gives l.initial.out l.out (unescape (chars l.fn.text))
      (unescape (chars l.rest));
}

abbrev pub decreases-loop-plain : goal.decreases-loop-plain
decreases-loop-plain g l = length l.rest
