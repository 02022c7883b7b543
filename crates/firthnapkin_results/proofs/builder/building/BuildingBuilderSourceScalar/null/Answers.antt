use Rattle.std.proofs.Common.{[], refl}
use Rattle.graphql_nodes.specs.Nodes.{nodes_at, items_nodes, fields_nodes}
use Rattle.juniper_parser.specs.Building.{a_list}
use Rattle.firthnapkin_results.specs.Builders.{Opens}
use Rattle.firthnapkin_results.proofs.Builders.{adds_none, unnamed_text}
use Rattle.firthnapkin_results.proofs.builder.building.BuildingBuilderSourceScalar.null.Goals as goal

pub returns : goal.returns
unfolding nodes_at items_nodes fields_nodes
returns g c =
    let it = c.args.self.now.nodes in
    let opened = c.open-part.new.self in
    let is_open : Opens it opened c.open-part.result a_list =
    record { index_is = c.open-part.ensures.index; adds = c.open-part.ensures.adds } in
    (c.close_unnamed.ensures it opened a_list [] unnamed_text is_open (adds_none opened opened refl), refl)
