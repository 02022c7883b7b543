use Rattle.std.proofs.Common.{append_assoc}
use Rattle.guide.proofs.faults.described.Goals as goal

pub returns : goal.returns
returns c = rw (← c.line-line.ensures, ← c.column-column.ensures) (simp append_assoc c.format.ensures.ok)
