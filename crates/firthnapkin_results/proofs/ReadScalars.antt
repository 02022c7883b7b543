-- What is written of a scalar token while it is read.
use Rattle.std.proofs.Common.{◌≡◌, refl, sym, ap, subst, ◌∙◌, true, false, List, ℕ, [], Option, Some, None, Ok}
use Rattle.std.proofs.Common.{option_map}
use Rattle.std.specs.Prelude.{encode_utf8_all, is_some}
use Rattle.std.specs.Option.{unwrap_or}
use Rattle.std.specs.Fmt.{WritesInCalls, WritesText}
use Rattle.graphql_lexical.specs.declared.kind.Kind.TheVariants.{String, BlockString}
use Rattle.juniper_values.specs.Text.{Text}
use Rattle.juniper_values.specs.BlockStrings.{block_value}
use Rattle.juniper_values.specs.Default as default
use Rattle.juniper_values.specs.Escapes.{unescape}
use Rattle.juniper_nodes.proofs.Public.{of_block_means}
use Rattle.firthnapkin_results.specs.Builders.{AddsRead, AddsText}
use Rattle.firthnapkin_results.specs.Scalars.{scalar_content, scalar_reading}
use Rattle.firthnapkin_results.specs.declared.builder.NodeBuilder.{NodeBuilder}
use Rattle.firthnapkin_results.specs.declared.form.ScalarForm.TheVariants as form
use Rattle.firthnapkin_results.specs.declared.scalar.SourceScalar.{SourceScalar}
use Rattle.firthnapkin_results.proofs.Builders.{adds_written}

abbrev Took : NodeBuilder → List ℕ → NodeBuilder → Type 0
Took old bytes new = AddsText old new bytes

pub string_read : (t : Text) (a b : NodeBuilder) (o : Option Text) → unescape t ≡ o → true ≡ is_some o
    → WritesText Took a (option_map encode_utf8_all o) b → AddsRead (scalar_reading String t) a b (Ok form.String)
string_read t a b None e some h = absurd (cc)
string_read t a b (Some u) e some h =
    (u, ap (default.string_reading t) e, adds_written a b (encode_utf8_all u) h)

-- a String that has no meaning isn't read
pub not_read : (t : Text) (s : SourceScalar) (o : Option Text) → unescape t ≡ o → false ≡ is_some o
    → scalar_reading String t ≡ Ok (scalar_content s) → ⊥
not_read t s None e none read = absurd (let no = sym (ap (default.string_reading t) e) ∙ read in cc)
not_read t s (Some u) e none read = absurd (cc)

pub block_read : (t : Text) (a b : NodeBuilder) → WritesInCalls Took a (encode_utf8_all (block_value t)) b
    → AddsRead (scalar_reading BlockString t) a b (Ok form.BlockString)
block_read t a b h = (
  block_value t,
  refl,
  subst (λ o. AddsText a b (encode_utf8_all (unwrap_or o []))) (sym (of_block_means [] (block_value t)))
      (adds_written a b (encode_utf8_all (block_value t)) h),
)
