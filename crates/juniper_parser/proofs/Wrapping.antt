-- One more modifier round a type.
use Rattle.std.proofs.Common.{◌≡◌, ℕ, List, [], ◌∷◌, ◌++◌, Option, refl}
use Rattle.graphql_grammar.specs.Tree.{TypeRef, ListType, NonNullType}
use Rattle.juniper_values.specs.declared.type_literal.TypeModifier.{TypeModifier}
use Rattle.juniper_values.specs.declared.type_literal.TypeModifier.TheVariants as modifier
use Rattle.juniper_tree.specs.View.{wrapped}

pub wrapped_non_null : (type : TypeRef) (ms : List TypeModifier)
    → wrapped type (ms ++ modifier.NonNull ∷ []) ≡ NonNullType (wrapped type ms)
wrapped_non_null type [] = refl
wrapped_non_null type (modifier.NonNull ∷ ms) = wrapped_non_null (NonNullType type) ms
wrapped_non_null type (modifier.List size ∷ ms) = wrapped_non_null (ListType size type) ms

pub wrapped_list : (size : Option ℕ) (type : TypeRef) (ms : List TypeModifier)
    → wrapped type (ms ++ modifier.List size ∷ []) ≡ ListType size (wrapped type ms)
wrapped_list size type [] = refl
wrapped_list size type (modifier.NonNull ∷ ms) = wrapped_list size (NonNullType type) ms
wrapped_list size type (modifier.List other ∷ ms) = wrapped_list size (ListType other type) ms
