-- What the laws of this crate say.
use Rattle.std.specs.Prelude.{◌≡◌, ℕ, ◌≤◌, Bool, true, false, List, [], ◌∷◌, map, length, Option, Vec}
use Rattle.std.specs.Cmp.Lexicographic.{pointwise}
use Rattle.std.specs.Iterator.{Drains, Count, IsFinite, size}
use Rattle.std.specs.declared.alloc.Global.{Global}
use Rattle.graphql_lexical.specs.declared.kind.Kind.TheVariants.{Name, EndOfFile}
use Rattle.graphql_lexical.specs.Cutting.{Lexeme, Cut}
use Rattle.graphql_grammar.specs.Tree as input
use Rattle.juniper_values.specs.Make.{unlocated}
use Rattle.juniper_answers.specs.Same.{same_entries}
use Rattle.juniper_answers.specs.View.{pairs}
use Rattle.juniper_answers.specs.declared.value.Object.{Object}
use Rattle.juniper_answers.specs.declared.value.Value.{Value}
use Rattle.juniper_answers.specs.declared.value.Value as V

-- ---- names

-- the text is cut into a Name with this very text, and the end
pub record IsOneName (text : List ℕ) : Type 0 where
  pub name : Lexeme
  pub end : Lexeme
  pub cut : Cut text (name ∷ end ∷ [])
  pub kind : name.kind ≡ Name
  pub same : name.text ≡ text
  pub ends : end.kind ≡ EndOfFile

-- ---- input values

-- no enum, no variable, and unlocated spans only
abbrev mutual
  pub IsPlainInput : {C : Type 0} → input.Value C → Type 0
  IsPlainInput input.Null = Unit {0}
  IsPlainInput (input.Scalar s) = Unit {0}
  IsPlainInput (input.Enum t) = ⊥
  IsPlainInput (input.Variable t) = ⊥
  IsPlainInput (input.ListOf xs) = ArePlainItems xs
  IsPlainInput (input.Object fs) = ArePlainFields fs

  pub ArePlainItems : {C : Type 0} → input.Items C → Type 0
  ArePlainItems input.no_items = Unit {0}
  ArePlainItems (input.item v s xs) = IsPlainInput v × (s ≡ unlocated) × ArePlainItems xs

  pub ArePlainFields : {C : Type 0} → input.ObjectFields C → Type 0
  ArePlainFields input.no_fields = Unit {0}
  ArePlainFields (input.object_field k v t fs) = (k.span ≡ unlocated) × IsPlainInput v × (t ≡ unlocated) × ArePlainFields fs

-- ---- equality

-- Values are equal if they are of one kind and hold equal parts: lists place by place, objects in any order.
pub record ComparesParts {S : Type 0} (eq : S → S → Bool) (value_eq : Value S → Value S → Bool) : Type 0 where
  pub nulls : value_eq V.Null V.Null ≡ true
  pub scalars : (a b : S) → value_eq (V.Scalar a) (V.Scalar b) ≡ eq a b
  pub lists : (a b : Vec (Value S) Global) → value_eq (V.List a) (V.List b) ≡ pointwise value_eq a.items b.items
  pub objects : (a b : Object S) → value_eq (V.Object a) (V.Object b) ≡ same_entries value_eq (pairs a) (pairs b)

-- Values of different kinds are not equal.
pub record HasKindsApart {S : Type 0} (value_eq : Value S → Value S → Bool) : Type 0 where
  pub null_scalar : (s : S) → value_eq V.Null (V.Scalar s) ≡ false
  pub null_list : (a : Vec (Value S) Global) → value_eq V.Null (V.List a) ≡ false
  pub null_object : (o : Object S) → value_eq V.Null (V.Object o) ≡ false
  pub scalar_list : (s : S) (a : Vec (Value S) Global) → value_eq (V.Scalar s) (V.List a) ≡ false
  pub scalar_object : (s : S) (o : Object S) → value_eq (V.Scalar s) (V.Object o) ≡ false
  pub list_object : (a : Vec (Value S) Global) (o : Object S) → value_eq (V.List a) (V.Object o) ≡ false

-- ---- iterators

-- An iterator that has these items left shows them in order, no more and no fewer, and ends.
pub record ShowsAll {A X : Type 0} (shows : A → X) (steps : List X → Option A → List X → Type 0) (left : List X → Count) (items : List X) : Type 0 where
  pub all : (xs : List A) → Drains steps items xs → map shows xs ≡ items
  pub ends : IsFinite (left items)
  pub within : size (left items) ≤ length items
