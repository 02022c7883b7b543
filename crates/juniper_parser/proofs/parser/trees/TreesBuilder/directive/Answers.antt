use Rattle.std.proofs.Common.{ap}
use Rattle.juniper_tokens.specs.Spans.{view_span}
use Rattle.juniper_tree.specs.View.{view_word, view_arguments}
use Rattle.juniper_parser.proofs.BuiltTrees.{optional_shows}
use Rattle.juniper_tree.proofs.Public.{in_place}
use Rattle.juniper_parser.proofs.parser.trees.TreesBuilder.directive.Goals as goal

pub returns : goal.returns
returns g c first opened xs is_open some =
    rw (c.new.ensures, c.copied.ensures)
    (in_place (ap (λ ys. record { name = view_word c.args.name.now; arguments = ys })
    (optional_shows (view_arguments g.S.ParseScalarValue.content) opened c.args.self.now c.args.arguments xs some))
    (view_span c.args.span))
