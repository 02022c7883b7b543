use Rattle.std.proofs.Common.{refl}
use Rattle.graphql_nodes.specs.Nodes.{nodes_at, items_nodes, fields_nodes}
use Rattle.firthnapkin_results.specs.Scalars.{content_of}
use Rattle.firthnapkin_results.proofs.builder.building.BuildingBuilderSourceScalar.scalar_token.Goals as goal

pub returns-in-Ok : goal.returns-in-Ok
unfolding nodes_at items_nodes fields_nodes
returns-in-Ok g c =
    let read = c.in-Ok.ensures in (
      content_of read.0 c.in-Ok.form,
      read.1,
      (c.push_with_text.ensures c.args.self.now.nodes read.0 read.2 refl, refl),
    )

pub returns-in-Err : goal.returns-in-Err
returns-in-Err g c = c.unread.ensures.gives _ c.in-Err.ensures
