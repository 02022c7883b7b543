use Rattle.juniper_tokens.specs.Spans.{view_span}
use Rattle.juniper_tree.specs.View.{view_argument}
use Rattle.juniper_parser.proofs.Building.{each_seen}
use Rattle.juniper_tree.proofs.Public.{in_place}
use Rattle.juniper_parser.proofs.parser.trees.TreesBuilder.arguments.Goals as goal

pub returns : goal.returns
returns g c first opened xs is_open each =
    rw c.new.ensures
    (in_place (each_seen (view_argument g.S.ParseScalarValue.content) opened c.args.self.now c.args.items.items xs each)
    (view_span c.args.span))
