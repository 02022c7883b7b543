use Rattle.std.specs.Prelude.{option_map}
use Rattle.graphql_grammar.specs.Tree as tree
use Rattle.juniper_tokens.specs.Spans.{view_span}
use Rattle.juniper_tree.specs.View.{view_word, view_variables}
use Rattle.juniper_parser.proofs.BuiltTrees.{ap₃, optional_shows, directives_show, set_shows}
use Rattle.juniper_parser.proofs.parser.trees.TreesBuilder.operation.Goals as goal

pub returns : goal.returns
returns g c first opened with_variables with_directives vs ds set is_open some each all =
    let content = g.S.ParseScalarValue.content in
    rw (c.new.ensures, c.copied_option.ensures)
    (ap₃ (λ ws es s. tree.Operation c.args.operation_type (option_map view_word c.args.name.now) ws es s (view_span c.args.span))
    (optional_shows (view_variables content) opened with_variables c.args.variable_definitions vs some)
    (directives_show content with_variables with_directives c.args.directives ds each)
    (set_shows content with_directives c.args.self.now c.args.selection_set set all))
