use Rattle.std.proofs.Common.{◌≡◌, ◌++◌, [], List, ℕ, Bor, map, ap, sym, ◌∙◌}
use Rattle.std.proofs.lemmas.Simd.{map-map}
use Rattle.graphql_lexical.specs.Place.{Span}
use Rattle.graphql_grammar.specs.Tree.{Value}
use Rattle.juniper_tokens.specs.Spans.{view_span}
use Rattle.juniper_tokens.specs.declared.span.Spanning.{Spanning}
use Rattle.juniper_values.specs.Variables.{variables, variable_uses}
use Rattle.juniper_values.specs.View.{view, view_name, name_characters}
use Rattle.juniper_values.proofs.Referring.{uses_name_variables}
use Rattle.juniper_values.proofs.input_value.InputValue.variable_uses.Goals as goal

-- a list that began empty, and has these uses now
named : {C : Type 0} (span : Span) (v : Value C) (old new : List (Spanning (Bor (List ℕ)))) → old ≡ []
    → map view_name new ≡ map view_name old ++ variable_uses span v → map name_characters new ≡ variables v
named span v old new empty e =
    sym (map-map (λ word. word.item) view_name new)
    ∙ ap (map (λ word. word.item)) (e ∙ ap (λ uses. map view_name uses ++ variable_uses span v) empty)
    ∙ uses_name_variables span v

pub returns-clause-names : goal.returns-clause-names
returns-clause-names g c =
    named (view_span c.args.span) (view (λ s. s) c.args.self.now) c.new-uses.result.items c.note_uses.new.uses.items
    c.new-uses.ensures.items c.in_ok-note_uses.ensures
