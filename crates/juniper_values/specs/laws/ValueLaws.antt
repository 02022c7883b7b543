-- What the laws of this crate say.
use Rattle.std.specs.Prelude.{◌≡◌, ◌↔◌, ◌⊎◌, ◌∷◌, ◌++◌, ◌||◌, [], Bool, true, List, Option, None, Some, MatchOption}
use Rattle.juniper_values.specs.Text.{Text}
use Rattle.juniper_values.specs.Escapes.{unescape}
use Rattle.juniper_values.specs.Units.{StandsFor}
use Rattle.graphql_grammar.specs.Tree.{Value, Variable, ObjectFields, no_fields, object_field}
use Rattle.juniper_values.specs.Variables.{variables, HasNoVariable}
use Rattle.juniper_values.specs.Resolve.{Values, resolve}
use Rattle.juniper_values.specs.Same.{same_but_place, field_count}
use Rattle.juniper_values.specs.TypeLiteral.{outermost, is_list, is_list_modifier, type_text, opening, closing}
use Rattle.juniper_values.specs.declared.type_literal.TypeModifier.{TypeModifier}

-- ---- texts

-- replacing escapes gives what the text stands for, where it stands for something, and nothing else
abbrev pub IsExactlyUnescaped : Text → Type 0
IsExactlyUnescaped t = (u : Text) → (unescape t ≡ Some u) ↔ StandsFor t u

-- ---- variables

-- no variable's value has a variable
abbrev pub HaveNoVariables : {C : Type 0} → Values C → Type 0
HaveNoVariables {C} m = (t : Text) (w : Value C) → m t ≡ Some w → HasNoVariable w

-- nothing is left only of a variable that has no value, and what is left has no variable
abbrev pub LeavesNoVariable : {C : Type 0} → Values C → Value C → Option (Value C) → Type 0
LeavesNoVariable m v left = MatchOption left ((t : Text) × (v ≡ Variable t) × (m t ≡ None)) HasNoVariable

abbrev pub RemovesVariables : {C : Type 0} → Values C → Value C → Type 0
RemovesVariables m v = LeavesNoVariable m v (resolve m v)

-- the names of the variables are none exactly where there is no variable
abbrev pub IsEmptyWithoutVariables : {C : Type 0} → Value C → Type 0
IsEmptyWithoutVariables v = (variables v ≡ []) ↔ HasNoVariable v

-- ---- comparisons

pub record IsEqualityLike {A : Type 0} (eq : A → A → Bool) : Type 0 where
  pub reflexive : (a : A) → eq a a ≡ true
  pub symmetric : (a b : A) → eq a b ≡ eq b a
  pub transitive : (a b c : A) → eq a b ≡ true → eq b c ≡ true → eq a c ≡ true

-- among the fields is one with this key and this value
abbrev pub HasField : {C : Type 0} → ObjectFields C → Text → Value C → Type 0
HasField no_fields k v = ⊥
HasField (object_field l w t fs) k v = ((k ≡ l.item) × (v ≡ w)) ⊎ HasField fs k v

-- each field of the first has in the second one with its key, and with a value that is so
abbrev pub AreAmong : {C : Type 0} → (Value C → Value C → Type 0) → ObjectFields C → ObjectFields C → Type 0
AreAmong {C} R fs gs = (k : Text) (v : Value C) → HasField fs k v → (w : Value C) × HasField gs k w × R v w

-- two objects are so regardless of their places
pub record AreSameFields {C : Type 0} (eq : C → C → Bool) (fs gs : ObjectFields C) : Type 0 where
  pub count : field_count fs ≡ field_count gs
  pub forth : AreAmong (λ v w. same_but_place eq v w ≡ true) fs gs
  pub back : AreAmong (λ w v. same_but_place eq v w ≡ true) gs fs

-- ---- types

-- what one modifier more around a type does
pub record WrapsOnce (name : Text) (ms : List TypeModifier) (m : TypeModifier) : Type 0 where
  pub outside : outermost (ms ++ m ∷ []) ≡ Some m
  pub lists : is_list (ms ++ m ∷ []) ≡ (is_list ms || is_list_modifier m)
  pub written : type_text name (ms ++ m ∷ []) ≡ opening m ++ (type_text name ms ++ closing m)
