use Rattle.std.proofs.Common.{ap, ◌∙◌}
use Rattle.std.specs.Prelude.{option_map}
use Rattle.graphql_grammar.specs.Tree as tree
use Rattle.juniper_tokens.specs.Spans.{view_span}
use Rattle.juniper_tree.specs.View.{view_word, view_selection}
use Rattle.juniper_tree.specs.declared.ast.Selection.TheVariants.{InlineFragment}
use Rattle.juniper_tree.proofs.Public.{view_of_inline}
use Rattle.juniper_parser.proofs.BuiltTrees.{ap₃, directives_show, set_shows}
use Rattle.juniper_parser.proofs.parser.trees.TreesBuilder.inline_fragment.Goals as goal

pub returns : goal.returns
returns g c first opened with_directives ds set is_open each all =
    let content = g.S.ParseScalarValue.content in
    ap (λ f. view_selection content (InlineFragment f)) c.new.ensures
    ∙ (view_of_inline content (record {
      item = record {
        type_condition = c.copied_option.result;
        directives = c.args.directives;
        selection_set = c.args.selection_set;
      };
      span = c.args.span;
    })
    ∙ ap₃ (λ n es s. tree.InlineFragment (option_map view_word n) es s (view_span c.args.span))
    c.copied_option.ensures
    (directives_show content opened with_directives c.args.directives ds each)
    (set_shows content with_directives c.args.self.now c.args.selection_set set all))
