-- Types as they are written: a name, and modifiers, the innermost first.
use Rattle.std.specs.Prelude.{◌-◌, List, [], ◌∷◌, ◌++◌, length, slice_get, Bool, true, false, ◌==◌, ◌&&◌, Option, Some, None, if◌then◌else◌}
use Rattle.std.specs.Cmp.Lexicographic.{pointwise}
use Rattle.std.specs.List.{list_any}
use Rattle.std.specs.Option.{option_eq, option_map_or}
use Rattle.juniper_values.specs.Text.{Text, same_text}
use Rattle.juniper_values.specs.declared.type_literal.TypeModifier.{TypeModifier}
use Rattle.juniper_values.specs.declared.type_literal.TypeModifier.TheVariants.{NonNull, List as ListOf}
use Rattle.juniper_values.specs.declared.type_literal.TypeModifiers.{TypeModifiers}
use Rattle.juniper_values.specs.declared.type_literal.TypeModifiers.TheVariants.{Static, Dynamic}

-- the list that modifiers are, the innermost first
abbrev pub modifiers_of : TypeModifiers → List TypeModifier
modifiers_of (Static s) = s.now
modifiers_of (Dynamic v) = v.items

-- What a type is: its innermost name, and the modifiers around it, the innermost first. N is the type of the name.
pub record TypeShape (N : Type 0) : Type 0 where
  pub name : N
  pub modifiers : List TypeModifier

abbrev pub is_list_modifier : TypeModifier → Bool
is_list_modifier NonNull = false
is_list_modifier (ListOf size) = true

abbrev pub is_non_null_modifier : TypeModifier → Bool
is_non_null_modifier NonNull = true
is_non_null_modifier (ListOf size) = false

-- the last one, if there is one
abbrev pub outermost : List TypeModifier → Option TypeModifier
outermost ms = slice_get ms (length ms - 1)

-- the outermost is `!`
abbrev pub is_non_null : List TypeModifier → Bool
is_non_null ms = option_map_or is_non_null_modifier (outermost ms) false

-- a list is contained, anywhere
abbrev pub is_list : List TypeModifier → Bool
is_list ms = list_any is_list_modifier ms

-- the name of a type that is no list
abbrev pub name_unless_list : Text → List TypeModifier → Option Text
name_unless_list name ms = if is_list ms then None else Some name

-- `T`, `T!`, `[T]` and `[T!]`, their lists without a size
abbrev pub is_common : List TypeModifier → Bool
is_common [] = true
is_common (NonNull ∷ []) = true
is_common (ListOf None ∷ []) = true
is_common (NonNull ∷ (ListOf None ∷ [])) = true
is_common ms = false

abbrev pub same_modifier : TypeModifier → TypeModifier → Bool
same_modifier NonNull NonNull = true
same_modifier (ListOf m) (ListOf n) = option_eq ◌==◌ m n
same_modifier m n = false

-- equal in the names' texts and in the modifiers
abbrev pub same_type : {N : Type 0} → (N → Text) → TypeShape N → TypeShape N → Bool
same_type text_of a b = same_text (text_of a.name) (text_of b.name) && pointwise same_modifier a.modifiers b.modifiers

-- what a modifier writes before the type within, and after it
abbrev pub opening : TypeModifier → Text
opening NonNull = []
opening (ListOf size) = 91 ∷ []

abbrev pub closing : TypeModifier → Text
closing NonNull = 33 ∷ []
closing (ListOf size) = 93 ∷ []

-- The text of a type: `!` after what is not null, and `[` and `]` around the items of a list, whatever its size.
abbrev pub type_text : Text → List TypeModifier → Text
type_text inner [] = inner
type_text inner (m ∷ ms) = type_text (opening m ++ (inner ++ closing m)) ms
