use Rattle.firthnapkin_results.proofs.literal.write_type_of_text.Goals as goal

pub returns-in-Ok : goal.returns-in-Ok
returns-in-Ok c = (c.requires, c.in-Ok.ensures.written)
