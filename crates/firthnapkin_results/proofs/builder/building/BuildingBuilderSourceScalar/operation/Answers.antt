use Rattle.std.proofs.Common.{◌++◌, ℕ, subst, sym}
use Rattle.std.specs.Prelude.{option_map}
use Rattle.graphql_grammar.specs.Tree as tree
use Rattle.graphql_nodes.specs.Nodes.{Label, name_of, over, if_present, selections_nodes, directives_nodes}
use Rattle.graphql_nodes.specs.Nodes.{variables_nodes, definition_nodes}
use Rattle.graphql_nodes.specs.declared.kind.NodeKind.{NodeKind}
use Rattle.juniper_tree.specs.View.{view_word}
use Rattle.juniper_complexity.specs.Gathered.{GathersVariables}
use Rattle.juniper_tokens.specs.Spans.{view_span}
use Rattle.firthnapkin_results.specs.Builders.{Adds, HasNoText}
use Rattle.firthnapkin_results.proofs.Builders.{adds_more, optional_name_text}
use Rattle.firthnapkin_results.proofs.Buildings.{directives_added, optional_added, set_added}
use Rattle.firthnapkin_results.proofs.builder.building.BuildingBuilderSourceScalar.operation.Goals as goal

pub returns : goal.returns
unfolding definition_nodes
returns g c first opened with_variables with_directives vs ds set is_open some each all =
    let old = c.args.self.now in
    let outliner = g.O.Outliner in
    let span = view_span c.args.span in
    let name = option_map view_word c.args.name.now in
    let tells = c.label_of.ensures span in
    let inner = if_present variables_nodes vs ++ (directives_nodes ds ++ selections_nodes set) in
    let variables = optional_added variables_nodes (GathersVariables g.O.VariableOutliner.gathers_variable) opened
    with_variables _
    vs some in
    let directives = directives_added with_variables with_directives _ ds each in
    let selections = set_added outliner.gathers_selection with_directives old _ set all in (
      subst (λ (k : NodeKind). Adds first.nodes c.close.new.self (over k span (name_of name) inner))
          c.operation_kind.ensures
          (subst (λ (label : Label). Adds first.nodes c.close.new.self (over c.operation_kind.result span label inner))
          tells
          (c.close.ensures first.nodes opened.nodes _ _ (subst HasNoText (sym tells) (optional_name_text name))
          is_open.0 (adds_more opened.nodes with_variables.nodes old.nodes _ _ variables.0
          (adds_more with_variables.nodes with_directives.nodes old.nodes _ _ directives.0 selections.0)))),
      subst (λ (at : ℕ). outliner.outlines c.end_operation.result at
          (tree.Operation c.args.operation_type name vs ds set span)) is_open.0.index_is
          (c.end_operation.ensures opened.outlines with_variables.outlines with_directives.outlines
          c.args.operation_type name c.args.variable_definitions vs ds c.args.selection_set set span is_open.1
          variables.1 directives.1 selections.1),
    )
