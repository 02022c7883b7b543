use Rattle.std.proofs.Common.{length}
use Rattle.juniper_tokens.proofs.ListParts.{NonemptySoFar}
use Rattle.juniper_tokens.proofs.parser.Parser.unlocated_delimited_nonempty_list.Given as goal

abbrev pub invariant-loop-items : goal.invariant-loop-items
invariant-loop-items g l = NonemptySoFar (λ p r q. g.F.Fn.post l.fn.f (p, tt) (r, (q, tt))) l.fn.opening l.fn.closing
    l.fn.self l.start l.items.items l.self

abbrev pub decreases-loop-items : goal.decreases-loop-items
decreases-loop-items g l = length l.self
