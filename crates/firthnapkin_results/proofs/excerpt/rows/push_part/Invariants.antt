use Rattle.std.proofs.Common.{◌≡◌, ◌++◌, map, string_bytes, encode_utf8_all}
use Rattle.firthnapkin_results.specs.Excerpts.{visible}
use Rattle.firthnapkin_results.proofs.excerpt.rows.push_part.Given as goal

abbrev pub invariant-loop-c : goal.invariant-loop-c
invariant-loop-c l = string_bytes l.out ≡ string_bytes l.initial.out ++ encode_utf8_all (map visible l.yielded)
