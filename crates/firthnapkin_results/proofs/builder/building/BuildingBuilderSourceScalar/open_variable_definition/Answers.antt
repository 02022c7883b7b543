use Rattle.firthnapkin_results.specs.Builders.{counted}
use Rattle.firthnapkin_results.proofs.Builders.{adds_more}
use Rattle.firthnapkin_results.proofs.builder.building.BuildingBuilderSourceScalar.open_variable_definition.Goals as goal

pub returns : goal.returns
returns g c = (
  record {
    index_is = c.open-part.ensures.index;
    adds = adds_more (counted c.args.self.now.nodes) c.open-part.new.self.nodes c.push_type_node.new.self _ _
        c.open-part.ensures.adds c.in_ok-push_type_node.ensures;
  },
  c.open-part.ensures.kept,
)
