use Rattle.std.proofs.Common.{ap, ◌∙◌}
use Rattle.graphql_grammar.specs.Tree.{Object, fields_of}
use Rattle.juniper_tokens.specs.Spans.{view_span}
use Rattle.juniper_tree.specs.View.{view_object_field}
use Rattle.juniper_parser.proofs.Building.{each_seen}
use Rattle.juniper_tree.proofs.Public.{in_place, view_of_object}
use Rattle.juniper_parser.proofs.parser.trees.TreesBuilder.object.Goals as goal

pub returns : goal.returns
returns g c first opened fs is_open each =
    let content = g.S.ParseScalarValue.content in
    rw c.new.ensures
    (in_place (view_of_object content c.args.fields
    ∙ ap (λ xs. Object (fields_of xs))
    (each_seen (view_object_field content) opened c.args.self.now c.args.fields.items fs each))
    (view_span c.args.span))
