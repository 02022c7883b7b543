use Rattle.std.proofs.Common.{subst, sym}
use Rattle.graphql_nodes.specs.Nodes.{variable_nodes, variables_nodes}
use Rattle.juniper_parser.specs.Building.{BuildsEach}
use Rattle.juniper_complexity.specs.Gathered.{gathered}
use Rattle.firthnapkin_results.proofs.Builders.{unnamed_text}
use Rattle.firthnapkin_results.proofs.Buildings.{each_added}
use Rattle.firthnapkin_results.proofs.builder.building.BuildingBuilderSourceScalar.variables.Goals as goal

pub returns : goal.returns
unfolding variables_nodes
returns g c first opened vs is_open each =
    let old = c.args.self.now in
    let gathers = g.O.VariableOutliner.gathers_variable in
    let parts = gathered c.args.items in
    let added = each_added variable_nodes gathers opened old parts vs each in (
      c.close_unnamed.ensures first.nodes opened.nodes _ _ unnamed_text is_open.0 added.0,
      (parts, subst (λ o. BuildsEach gathers o old.outlines parts vs) (sym is_open.1) added.1),
    )
