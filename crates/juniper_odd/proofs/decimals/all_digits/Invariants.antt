-- The bytes are all digits where those that are left are.
use Rattle.std.proofs.Common.{◌≡◌, drop}
use Rattle.std.specs.Str.{all_ascii_digits}
use Rattle.juniper_odd.proofs.decimals.all_digits.Given as goal

abbrev pub invariant-loop-byte : goal.invariant-loop-byte
invariant-loop-byte l = all_ascii_digits l.bytes ≡ all_ascii_digits (drop l.byte-index l.bytes)
