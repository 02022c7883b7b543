use Rattle.std.proofs.Common.{length}
use Rattle.juniper_tokens.proofs.ListParts.{ListSoFar}
use Rattle.juniper_tokens.proofs.parser.Parser.delimited_list.Given as goal

abbrev pub invariant-loop-list : goal.invariant-loop-list
invariant-loop-list g l = ListSoFar (λ p r q. g.F.Fn.post l.fn.f (p, tt) (r, (q, tt))) l.fn.opening l.fn.closing
    l.fn.self l.start l.list.items l.self

abbrev pub decreases-loop-list : goal.decreases-loop-list
decreases-loop-list g l = length l.self
