use Rattle.juniper_requests.proofs.Borders.{IsRest}
use Rattle.juniper_requests.proofs.bytes.byte_offset.Given as goal

abbrev pub invariant-loop-i : goal.invariant-loop-i
invariant-loop-i l = IsRest l.source l.rest l._i
