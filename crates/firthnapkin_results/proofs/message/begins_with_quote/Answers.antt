use Rattle.std.proofs.Common.{◌≡◌, ◌∙◌, true, false, sym, arith}
use Rattle.std.proofs.lemmas.Str.Pattern.{starts_char}
use Rattle.firthnapkin_results.proofs.message.begins_with_quote.Goals as goal

pub returns-clause-yes : goal.returns-clause-yes
returns-clause-yes c = λ e. (starts_char 34 c.args.text.now c.starts_with.result c.starts_with.ensures.cases
    (omega arith) (omega arith)).0 e

pub returns-clause-no : goal.returns-clause-no
returns-clause-no c = λ e f.
    let both : false ≡ true = sym e
    ∙ (starts_char 34 c.args.text.now c.starts_with.result c.starts_with.ensures.cases (omega arith)
    (omega arith)).1 f in
    absurd (cc both)
