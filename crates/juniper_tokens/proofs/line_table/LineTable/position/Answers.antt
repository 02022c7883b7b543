use Rattle.std.proofs.Common.{ap, subst}
use Rattle.juniper_tokens.specs.LineTables.{Lines, IsTable}
use Rattle.juniper_tokens.proofs.Lines.{counted_within, place_some}
use Rattle.juniper_tokens.proofs.line_table.LineTable.position.Goals as goal

pub returns-clause-table : goal.returns-clause-table
returns-clause-table c = subst IsTable c.self.view_is c.self.invariant

pub returns-clause-place : goal.returns-clause-place
returns-clause-place c source e =
    let within = counted_within source c.args.self.now c.args.index e
    (rw (← ap (λ (t : Lines). t.count) c.self.view_is) c.if-index-self.false) in
    place_some source c.args.index _ within (c.place.ensures source e within)
