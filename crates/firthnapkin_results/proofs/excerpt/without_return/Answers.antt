use Rattle.firthnapkin_results.proofs.TextLines.{return_stripped, no_return_stripped}
use Rattle.firthnapkin_results.proofs.excerpt.without_return.Goals as goal

pub returns-in-Some : goal.returns-in-Some
returns-in-Some c = return_stripped c.args.line.now c.in-Some.rest c.utf8.line c.in-Some.ensures.cases

pub returns-in-None : goal.returns-in-None
returns-in-None c = no_return_stripped c.args.line.now c.utf8.line c.in-None.ensures.cases
