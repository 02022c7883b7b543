use Rattle.firthnapkin_results.proofs.flat.write_nodes_of_text.Goals as goal

pub returns-in-Ok : goal.returns-in-Ok
returns-in-Ok c = let written = c.in-Ok.ensures.written in
    (c.requires, (written.0, written.1.document, written.1.written))
