use Rattle.std.proofs.Common.{◌≡◌, ◌+◌, get_or, subst, arith}
use Rattle.firthnapkin_results.specs.ByteTables.{HasStarts}
use Rattle.firthnapkin_results.proofs.Bytes.{low_begins, next_start}
use Rattle.firthnapkin_results.proofs.byte_table.push_all.Goals as goal

pub loop-more-preserved : goal.loop-more-preserved
loop-more-preserved c =
    let bytes = c.args.bytes.now in
    let at = c.args.from + c.loop-more.more in
    let h = c.loop-more.invariant in
    let push = c.push_reserved.ensures in
    let begins = low_begins (get_or bytes at 0) (c.requires.ascii at (omega arith) (omega arith)) in
    let next : at + 1 ≡ c.args.from + (c.loop-more.more + 1) = omega arith in
    subst (λ to. HasStarts bytes to c.push_reserved.new.self) next record {
      begun = next_start bytes c.loop-more.starts.items _ at 0 (omega arith) h.begun begins push.items;
      few = omega (arith, h.few, push.len);
      capacity = omega (arith, h.capacity, push.capacity);
    }
