use Rattle.std.proofs.Common.{ap, ◌∙◌}
use Rattle.graphql_grammar.specs.Tree.{ListOf, items_of}
use Rattle.juniper_tokens.specs.Spans.{view_span}
use Rattle.juniper_tree.specs.View.{view_value}
use Rattle.juniper_parser.proofs.Building.{each_seen}
use Rattle.juniper_tree.proofs.Public.{in_place, view_of_list}
use Rattle.juniper_parser.proofs.parser.trees.TreesBuilder.list.Goals as goal

pub returns : goal.returns
returns g c first opened vs is_open each =
    let content = g.S.ParseScalarValue.content in
    rw c.new.ensures
    (in_place (view_of_list content c.args.items
    ∙ ap (λ xs. ListOf (items_of xs)) (each_seen (view_value content) opened c.args.self.now c.args.items.items vs each))
    (view_span c.args.span))
