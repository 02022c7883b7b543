use Rattle.std.specs.Str.{chars}
use Rattle.firthnapkin_results.proofs.Fitting.{broken_fits, few_characters}
use Rattle.firthnapkin_results.proofs.canonical.canonical_of_text.Goals as goal

pub returns-in_ok-found-in-Err-Fault : goal.returns-in_ok-found-in-Err-Fault
returns-in_ok-found-in-Err-Fault c =
    let text = c.args.text.now in
    let it = c.in-Err-Fault in
    let breaks = rw it.field-0-is at it.ensures.fault in
    let fits = broken_fits (chars text) _ _ (few_characters text c.utf8.text c.requires) breaks in
    (c.requires, c.utf8.text, (_, _, breaks, c.in_ok-found-in-Err-Fault.ensures fits))
