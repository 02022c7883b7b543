use Rattle.std.proofs.Common.{ap}
use Rattle.graphql_grammar.specs.Tree as tree
use Rattle.juniper_tokens.specs.Spans.{view_span}
use Rattle.juniper_tree.specs.View.{view_word}
use Rattle.juniper_parser.proofs.BuiltTrees.{directives_show}
use Rattle.juniper_parser.proofs.parser.trees.TreesBuilder.fragment_spread.Goals as goal

pub returns : goal.returns
returns g c first opened ds is_open each =
    rw (c.new.ensures, c.copied.ensures)
    (ap (λ es. tree.FragmentSpread (view_word c.args.name.now) es (view_span c.args.span))
    (directives_show g.S.ParseScalarValue.content opened c.args.self.now c.args.directives ds each))
