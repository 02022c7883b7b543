use Rattle.std.proofs.Common.{sym, ◌∙◌}
use Rattle.juniper_tokens.specs.Spans.{view_span}
use Rattle.juniper_parser.specs.NamedVariables.{gathered_variables, view_named}
use Rattle.juniper_parser.proofs.Building.{each_seen}
use Rattle.juniper_parser.proofs.BuiltTrees.{named_views}
use Rattle.juniper_tree.proofs.Public.{in_place}
use Rattle.juniper_parser.proofs.parser.trees.TreesBuilder.variables.Goals as goal

pub returns : goal.returns
returns g c first opened vs is_open each =
    let content = g.S.ParseScalarValue.content in
    rw c.new.ensures
    (in_place (sym (named_views content c.args.items.items.items)
    ∙ each_seen (view_named content) opened c.args.self.now (gathered_variables c.args.items) vs each)
    (view_span c.args.span))
