use Rattle.std.proofs.Common.{◌∷◌, [], Some, refl, subst, sym}
use Rattle.std.specs.Prelude.{encode_utf8_all}
use Rattle.std.specs.Option.{unwrap_or}
use Rattle.graphql_nodes.specs.Nodes.{Unnamed, nodes_at, items_nodes, fields_nodes}
use Rattle.graphql_nodes.specs.declared.kind.NodeKind.TheVariants.{Scalar}
use Rattle.juniper_tokens.specs.Spans.{view_span}
use Rattle.juniper_nodes.specs.Literal.{str_in}
use Rattle.firthnapkin_results.specs.Builders.{Adds, AddsText, leaf}
use Rattle.firthnapkin_results.specs.Scalars.{scalar_content}
use Rattle.firthnapkin_results.proofs.builder.building.BuildingBuilderSourceScalar.scalar.Goals as goal

pub returns : goal.returns
unfolding nodes_at items_nodes fields_nodes
returns g c =
    let it = c.args.self.now.nodes in
    let span = view_span c.args.span in
    let text = unwrap_or (str_in (scalar_content c.args.scalar)) [] in
    let same = c.form_of-form.ensures in (
      subst (λ content. Adds it c.push_with_text.new.self (leaf Scalar span Unnamed (Some content) ∷ []))
          same
          (c.push_with_text.ensures it text
          (subst (λ content. AddsText it c.push_scalar.new.self (encode_utf8_all (unwrap_or (str_in content) [])))
          (sym same) c.push_scalar.ensures) refl),
      refl,
    )
