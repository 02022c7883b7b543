use Rattle.std.proofs.Common.{◌++◌, ap}
use Rattle.std.specs.Str.{chars}
use Rattle.std.proofs.lemmas.Str.{chars-nil}
use Rattle.graphql_lexical.specs.Characters.{Text}
use Rattle.firthnapkin_results.proofs.excerpt.rows.whole.Goals as goal

pub returns : goal.returns
returns c = ap (λ (t : Text). t ++ chars c.args.line.now) chars-nil
