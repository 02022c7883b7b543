use Rattle.firthnapkin_results.specs.Builders.{counted}
use Rattle.firthnapkin_results.proofs.Builders.{adds_more}
use Rattle.firthnapkin_results.proofs.builder.building.BuildingBuilderSourceScalar.open_field.Goals as goal

pub returns : goal.returns
returns g c = (
  record {
    index_is = c.open-node.ensures.index;
    adds = adds_more (counted c.args.self.now.nodes) c.open-node.new.self c.push_alias.new.self _ _
        c.open-node.ensures.adds c.push_alias.ensures;
  },
  c.enter_field-around.ensures,
)
