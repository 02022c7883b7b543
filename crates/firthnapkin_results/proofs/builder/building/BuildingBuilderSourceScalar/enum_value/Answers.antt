use Rattle.std.proofs.Common.{refl}
use Rattle.std.specs.Str.{chars}
use Rattle.graphql_nodes.specs.Nodes.{nodes_at, items_nodes, fields_nodes}
use Rattle.juniper_tokens.specs.Spans.{view_span}
use Rattle.firthnapkin_results.proofs.Builders.{named_text}
use Rattle.firthnapkin_results.proofs.builder.building.BuildingBuilderSourceScalar.enum_value.Goals as goal

pub returns : goal.returns
unfolding nodes_at items_nodes fields_nodes
returns g c =
    (c.push.ensures (named_text (record { item = chars c.args.name.now; span = view_span c.args.span })), refl)
