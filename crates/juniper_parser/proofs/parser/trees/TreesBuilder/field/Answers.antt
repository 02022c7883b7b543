use Rattle.std.proofs.Common.{ap, ap₂, ◌∙◌}
use Rattle.std.specs.Prelude.{option_map}
use Rattle.graphql_grammar.specs.Tree as tree
use Rattle.juniper_tokens.specs.Spans.{view_span}
use Rattle.juniper_tree.specs.View.{view_word, view_arguments, view_selection}
use Rattle.juniper_tree.specs.declared.ast.Selection.TheVariants.{Field}
use Rattle.juniper_tree.proofs.Public.{view_of_field}
use Rattle.juniper_parser.proofs.BuiltTrees.{ap₃, optional_shows, directives_show, optional_set_shows}
use Rattle.juniper_parser.proofs.parser.trees.TreesBuilder.field.Goals as goal

pub returns : goal.returns
returns g c first opened with_arguments with_directives xs ds set is_open some each all =
    let content = g.S.ParseScalarValue.content in
    ap (λ f. view_selection content (Field f)) c.new.ensures
    ∙ (view_of_field content (record {
      item = record {
        alias = c.copied_option.result;
        name = c.copied.result;
        arguments = c.args.arguments;
        directives = c.args.directives;
        selection_set = c.args.selection_set;
      };
      span = c.args.span;
    })
    ∙ (ap₃ (λ ys es s. tree.Field (option_map view_word c.copied_option.result) (view_word c.copied.result) ys es s
    (view_span c.args.span))
    (optional_shows (view_arguments content) opened with_arguments c.args.arguments xs some)
    (directives_show content with_arguments with_directives c.args.directives ds each)
    (optional_set_shows content with_directives c.args.self.now c.args.selection_set set all)
    ∙ ap₂ (λ a n. tree.Field (option_map view_word a) (view_word n) xs ds set (view_span c.args.span))
    c.copied_option.ensures c.copied.ensures))
