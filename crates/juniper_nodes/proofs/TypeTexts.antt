-- A type displays itself as it is written without spaces.
use Rattle.std.proofs.Common.{◌≡◌, List, ℕ, [], ◌∷◌, refl}
use Rattle.std.specs.Borrow.{Bor}
use Rattle.std.specs.Str.{chars}
use Rattle.graphql_grammar.specs.Tree.{TypeRef, NamedType, ListType, NonNullType}
use Rattle.graphql_nodes.specs.Types.{type_text}
use Rattle.juniper_values.specs.TypeLiteral as literal
use Rattle.juniper_values.specs.TypeLiteral.{TypeShape}
use Rattle.juniper_values.specs.declared.type_literal.TypeModifier.{TypeModifier}
use Rattle.juniper_values.specs.declared.type_literal.TypeModifier.TheVariants as modifier
use Rattle.juniper_tree.specs.View.{wrapped, view_type}

wrapped-text : (t : TypeRef) (ms : List TypeModifier) → type_text (wrapped t ms) ≡ literal.type_text (type_text t) ms
unfolding type_text
wrapped-text t [] = refl
wrapped-text t (modifier.NonNull ∷ ms) = wrapped-text (NonNullType t) ms
wrapped-text t (modifier.List size ∷ ms) = wrapped-text (ListType size t) ms

pub type-text : (t : TypeShape (Bor (List ℕ)))
    → type_text (view_type t) ≡ literal.type_text (chars t.name.now) t.modifiers
unfolding type_text
type-text t = wrapped-text (NamedType (chars t.name.now)) t.modifiers
