use Rattle.std.proofs.Common.{◌∙◌, sym, arith}
use Rattle.firthnapkin_results.proofs.Bytes.{next_start, same_starts}
use Rattle.firthnapkin_results.proofs.byte_table.push_starts.Goals as goal
use Rattle.firthnapkin_results.proofs.byte_table.push_starts.Goals.{then-begins_character, else-begins_character}

pub loop-at-preserved : goal.loop-at-preserved
loop-at-preserved c =
    let bytes = c.args.bytes.now in
    let at = c.loop-at.at in
    let starts = c.loop-at.starts.items in
    let begins = sym c.begins_character.ensures in
    let h = c.loop-at.invariant in
    elim c.if-begins_character.branch [
      | then-begins_character w ↦
          let begun = begins ∙ w.if-begins_character.true in
          let push = w.push_reserved.ensures in
          rw w.starts-is record {
            begun = next_start bytes starts _ at 0 (omega arith) h.begun begun push.items;
            few = omega (arith, h.few, push.len);
            capacity = omega (arith, h.capacity, push.capacity);
          }
      | else-begins_character w ↦
          let inner = begins ∙ w.if-begins_character.false in
          rw w.starts-is record {
            begun = same_starts bytes starts at 0 (omega arith) h.begun inner;
            few = omega (arith, h.few);
            capacity = h.capacity;
          }
    ]
