use Rattle.std.proofs.Common.{◌≡◌, ◌+◌, ◌≤◌, length, vec_len, vec_capacity}
use Rattle.juniper_values.proofs.Maps.{placed}
use Rattle.juniper_values.proofs.Reading.{prepend}
use Rattle.juniper_values.proofs.Trees.{put_field}
use Rattle.juniper_values.proofs.input_value.make.placed_fields.Given as goal

abbrev pub invariant-loop-key : goal.invariant-loop-key
invariant-loop-key g l = record {
  capacity : vec_len l.placed + length l.key-iterator ≤ vec_capacity l.placed;
  made : prepend (put_field (λ s. s)) l.placed.items (placed l.key-iterator) ≡ placed l.fn.fields.entries;
}
