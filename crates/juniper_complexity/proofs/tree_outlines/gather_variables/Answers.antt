use Rattle.juniper_complexity.proofs.tree_outlines.gather_variables.Goals as goal

pub returns-in-Some : goal.returns-in-Some
returns-in-Some g c = rw c.in-Some.is (rw c.deref.ensures.value at c.gather_each_variable.ensures)
