-- Values without places.
use Rattle.std.specs.Prelude.{List, [], ◌∷◌}
use Rattle.graphql_lexical.specs.Place.{Span}
use Rattle.juniper_tokens.specs.Spans.{origin_span, view_span}
use Rattle.juniper_values.specs.Text.{Text}
use Rattle.graphql_grammar.specs.Tree.{Value, Items, no_items, item, ObjectFields, no_fields, object_field}

-- what has no place stands at the beginning
abbrev pub unlocated : Span
unlocated = view_span origin_span

module _ {C : Type 0} where
  abbrev pub unlocated_items : List (Value C) → Items C
  unlocated_items [] = no_items
  unlocated_items (v ∷ vs) = item v unlocated (unlocated_items vs)

  abbrev pub unlocated_fields : List (Text × Value C) → ObjectFields C
  unlocated_fields [] = no_fields
  unlocated_fields (p ∷ ps) = object_field (record { item = p.0; span = unlocated }) p.1 unlocated (unlocated_fields ps)
