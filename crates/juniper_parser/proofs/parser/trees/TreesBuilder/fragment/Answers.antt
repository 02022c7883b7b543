use Rattle.std.proofs.Common.{ap₂}
use Rattle.graphql_grammar.specs.Tree as tree
use Rattle.juniper_tokens.specs.Spans.{view_span}
use Rattle.juniper_tree.specs.View.{view_word}
use Rattle.juniper_parser.proofs.BuiltTrees.{directives_show, set_shows}
use Rattle.juniper_parser.proofs.parser.trees.TreesBuilder.fragment.Goals as goal

pub returns : goal.returns
returns g c first opened with_directives ds set is_open each all =
    let content = g.S.ParseScalarValue.content in
    rw (c.new.ensures, c.copied.ensures, c.copied-2.ensures)
    (ap₂ (λ es s. tree.Fragment (view_word c.args.name.now) (view_word c.args.type_condition.now) es s (view_span c.args.span))
    (directives_show content opened with_directives c.args.directives ds each)
    (set_shows content with_directives c.args.self.now c.args.selection_set set all))
