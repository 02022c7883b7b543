use Rattle.std.proofs.Common.{◌∙◌, subst, sym}
use Rattle.graphql_nodes.specs.Nodes.{value_nodes, variable_nodes}
use Rattle.juniper_tree.specs.View.{view_spanned_type, view_word}
use Rattle.juniper_complexity.specs.Gathered.{Keeps, KeepsDirectives}
use Rattle.juniper_complexity.proofs.Public.{kept_optional}
use Rattle.firthnapkin_results.proofs.Builders.{adds_more, named_text}
use Rattle.firthnapkin_results.proofs.Buildings.{directives_added, optional_added}
use Rattle.firthnapkin_results.proofs.builder.building.BuildingBuilderSourceScalar.variable_definition.Goals as goal

pub returns : goal.returns
unfolding variable_nodes
returns g c first opened with_default v ds is_open some each =
    let old = c.args.self.now in
    let name = view_word c.args.name.now in
    let value = optional_added value_nodes Keeps opened with_default _ v some in
    let directives = directives_added with_default old _ ds each in
    let kept = is_open.1 ∙ kept_optional opened.outlines with_default.outlines _ v value.1 in (
      c.close.ensures first.nodes opened.nodes _ _ (named_text name) is_open.0
          (adds_more opened.nodes with_default.nodes old.nodes _ _ value.0 directives.0),
      c.end_variable.ensures first.outlines name (view_spanned_type c.args.var_type) v ds
          (subst (λ o. KeepsDirectives o old.outlines c.args.directives ds) (sym kept) directives.1),
    )
