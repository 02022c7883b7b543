use Rattle.std.proofs.Common.{ap, ◌∙◌}
use Rattle.juniper_tokens.specs.LineTables.{Lines}
use Rattle.juniper_tokens.proofs.Lines.{table_starts}
use Rattle.juniper_tokens.proofs.line_table.LineTable.place.Goals as goal

pub line_of-requires : goal.line_of-requires
line_of-requires c = rw c.deref-starts.ensures.value (table_starts _ c.self.invariant)

pub place_on-requires-clause-starts : goal.place_on-requires-clause-starts
place_on-requires-clause-starts c = rw c.deref-starts.ensures.value (table_starts _ c.self.invariant)

pub returns : goal.returns
returns c source e w =
    c.place_on.ensures source (c.deref-starts.ensures.value ∙ (ap (λ (t : Lines). t.starts) c.self.view_is
    ∙ ap (λ (t : Lines). t.starts) e)) w
