use Rattle.std.proofs.Common.{ap, sym, ◌∙◌}
use Rattle.std.specs.Str.{chars}
use Rattle.graphql_lexical.specs.Cutting.{Lexeme}
use Rattle.juniper_tokens.specs.Cursor.{kind_at}
use Rattle.juniper_tokens.proofs.Steps.{first_left, left_within}
use Rattle.juniper_tokens.proofs.parser.Parser.kind.Goals as goal

pub returns-clause-is : goal.returns-clause-is
returns-clause-is c =
    let here = c.self.inside in
    let source = chars here.source.now in
    let first = first_left source here.ranges.items here.taken c.index.result.now
    (left_within source here.ranges.items here.taken c.self.invariant.left.ended) (sym c.index.ensures) in
    sym (ap (λ (t : Lexeme). t.kind) first) ∙ ap kind_at c.self.view_is
