use Rattle.std.proofs.Common.{refl}
use Rattle.firthnapkin_results.proofs.TextLines.{last_parts, no_feed}
use Rattle.firthnapkin_results.proofs.excerpt.last_line.Goals as goal

pub returns-in-Some : goal.returns-in-Some
returns-in-Some c =
    last_parts c.args.text.now c.in-Some.earlier.now c.in-Some.line.now c.utf8.text c.in-Some.ensures.cases

pub returns-in-None : goal.returns-in-None
returns-in-None c = (refl, no_feed c.args.text.now c.utf8.text c.in-None.ensures.cases)
