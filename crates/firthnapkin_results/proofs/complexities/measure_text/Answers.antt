use Rattle.firthnapkin_results.proofs.Buildings.{outlined_are_gathered, outlined_are_marked}
use Rattle.firthnapkin_results.proofs.complexities.measure_text.Goals as goal

pub returns-in-Ok : goal.returns-in-Ok
returns-in-Ok c =
    let written = c.in-Ok.ensures.written in
    let tree = written.0 in
    let outlines = c.in-Ok.definitions.items.items in
    c.measure.ensures c.args.text.now c.args.limits.now tree c.args.nodes.now _ c.args.texts.now _ c.requires
    c.in_ok-table.ensures written.1
    (rw c.deref.ensures.value (outlined_are_gathered 0 outlines tree written.2))
    (rw c.deref.ensures.value (outlined_are_marked 0 outlines tree written.2))
