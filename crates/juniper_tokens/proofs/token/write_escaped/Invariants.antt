use Rattle.std.specs.Fmt.{IsPlainFormatter, HasWritten}
use Rattle.std.specs.Str.{encode_utf8_all}
use Rattle.graphql_lexical.specs.Display.{escaped}
use Rattle.juniper_tokens.proofs.token.write_escaped.Given as goal

abbrev pub invariant-loop-c : goal.invariant-loop-c
invariant-loop-c g l =
    IsPlainFormatter l.initial.f → HasWritten g.W.Write.write_str_gives l.initial.f
    (encode_utf8_all (escaped l.yielded)) l.f
