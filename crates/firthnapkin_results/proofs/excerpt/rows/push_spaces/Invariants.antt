use Rattle.std.proofs.Common.{◌≡◌, ◌++◌, string_bytes, encode_utf8_all}
use Rattle.firthnapkin_results.specs.Excerpts.{spaces}
use Rattle.firthnapkin_results.proofs.excerpt.rows.push_spaces.Given as goal

abbrev pub invariant-loop : goal.invariant-loop
invariant-loop l = string_bytes l.out ≡ string_bytes l.initial.out ++ encode_utf8_all (spaces l.counter)
