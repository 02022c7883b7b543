use Rattle.std.proofs.lemmas.Result.{on_ok_weaker}
use Rattle.gqlcheck_report.specs.Lines.{node_line}
use Rattle.gqlcheck_report.proofs.LineBytes.{line_grown}
use Rattle.gqlcheck_report.proofs.lines.write_node.Goals as goal

pub returns : goal.returns
unfolding node_line
returns g c =
    let place = rw (c.index.ensures, c.index-2.ensures) at c.in_ok-write_place.ensures in
    on_ok_weaker c.writeln.result
    (λ e. line_grown _ _ _ _ _ _ place c.in_ok-write_label.ensures e)
    c.writeln.ensures.bytes
