use Rattle.std.proofs.Common.{length}
use Rattle.std.specs.Str.{chars}
use Rattle.juniper_requests.specs.device.Offsets.{AreWithin, BeginsFirst}
use Rattle.juniper_requests.proofs.Borders.{IsRest}
use Rattle.juniper_requests.proofs.bytes.ByteTable.new.Given as goal

abbrev pub invariant-loop-c : goal.invariant-loop-c
invariant-loop-c l =
    IsRest l.source l.rest l.here.characters × BeginsFirst l.lines.items × AreWithin (chars l.source) l.lines.items

abbrev pub decreases-loop-c : goal.decreases-loop-c
decreases-loop-c l = length l.rest
