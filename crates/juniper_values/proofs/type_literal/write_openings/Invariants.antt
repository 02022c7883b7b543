use Rattle.std.proofs.Common.{take}
use Rattle.std.specs.Prelude.{flat_map}
use Rattle.std.specs.Fmt.{IsPlainFormatter, HasWritten}
use Rattle.std.specs.Str.{encode_utf8_all}
use Rattle.juniper_values.specs.TypeLiteral.{opening}
use Rattle.juniper_values.proofs.type_literal.write_openings.Given as goal

abbrev pub invariant-loop-modifier : goal.invariant-loop-modifier
invariant-loop-modifier g l =
    IsPlainFormatter l.initial.f → HasWritten g.W.Write.write_str_gives l.initial.f
    (encode_utf8_all (flat_map opening (take l.modifier-index l.modifiers))) l.f
