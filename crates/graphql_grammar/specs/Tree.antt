-- The syntax tree. C is the type of a scalar's content.
use Rattle.std.specs.Prelude.{ℕ, Bool, List, [], ◌∷◌, Option, Result, codes}
use Rattle.graphql_lexical.specs.declared.kind.Kind.{Kind}
use Rattle.graphql_lexical.specs.Place.{Span}
use Rattle.graphql_grammar.specs.Tokens.{Text, Located, Word}
use Rattle.graphql_grammar.specs.declared.operation.OperationType.{OperationType}
use Rattle.graphql_grammar.specs.declared.operation.OperationType.TheVariants.{Query, Mutation, Subscription}

-- What a scalar type states: the content or the error that it reads from a scalar token's kind and text, and
-- the content of true and false. F is the type of its errors.
pub record Scalars (C F : Type 0) : Type 0 where
  pub read : Kind → Text → Result C F
  pub of_bool : Bool → C

-- An input value, without a place of its own. The fields of an object are in their order, repeated keys kept.
mutual
  pub data Value (C : Type 0) : Type 0 where
    Null : Value C
    Scalar : C → Value C
    Enum : Text → Value C
    Variable : Text → Value C
    ListOf : Items C → Value C
    Object : ObjectFields C → Value C

  -- a value, its span, and the items after it
  pub data Items (C : Type 0) : Type 0 where
    no_items : Items C
    item : Value C → Span → Items C → Items C

  -- a key, its value, the value's span, and the fields after it
  pub data ObjectFields (C : Type 0) : Type 0 where
    no_fields : ObjectFields C
    object_field : Word → Value C → Span → ObjectFields C → ObjectFields C

abbrev pub items_of : {C : Type 0} → List (Located (Value C)) → Items C
items_of [] = no_items
items_of (v ∷ vs) = item v.item v.span (items_of vs)

abbrev pub fields_of : {C : Type 0} → List (Word × Located (Value C)) → ObjectFields C
fields_of [] = no_fields
fields_of (x ∷ xs) = object_field x.0 x.1.item x.1.span (fields_of xs)

-- A list type can have a size, which no document writes.
pub data TypeRef : Type 0 where
  NamedType : Text → TypeRef
  ListType : Option ℕ → TypeRef → TypeRef
  NonNullType : TypeRef → TypeRef

pub record Argument (C : Type 0) : Type 0 where
  pub name : Word
  pub value : Located (Value C)

abbrev pub Arguments : Type 0 → Type 0
Arguments C = Located (List (Argument C))

pub record Directive (C : Type 0) : Type 0 where
  pub name : Word
  pub arguments : Option (Arguments C)

-- where there is no directive, None
abbrev pub Directives : Type 0 → Type 0
Directives C = Option (List (Located (Directive C)))

-- The span of the name has the `$` in it.
pub record VariableDefinition (C : Type 0) : Type 0 where
  pub name : Word
  pub of_type : Located TypeRef
  pub default : Option (Located (Value C))
  pub directives : Directives C

abbrev pub Variables : Type 0 → Type 0
Variables C = Located (List (VariableDefinition C))

mutual
  pub data Selection (C : Type 0) : Type 0 where
    -- alias, name, arguments, directives, selection set
    Field : Option Word → Word → Option (Arguments C) → Directives C → OptionalSelections C → Span → Selection C
    -- name, directives
    FragmentSpread : Word → Directives C → Span → Selection C
    -- type condition, directives, selection set
    InlineFragment : Option Word → Directives C → Selections C → Span → Selection C

  pub data Selections (C : Type 0) : Type 0 where
    no_selections : Selections C
    selection : Selection C → Selections C → Selections C

  -- a selection set that may be absent
  pub data OptionalSelections (C : Type 0) : Type 0 where
    absent : OptionalSelections C
    present : Selections C → OptionalSelections C

abbrev pub selections_of : {C : Type 0} → List (Selection C) → Selections C
selections_of [] = no_selections
selections_of (s ∷ ss) = selection s (selections_of ss)

abbrev pub operation_name : OperationType → Text
operation_name Query = codes "query"
operation_name Mutation = codes "mutation"
operation_name Subscription = codes "subscription"

pub data Definition (C : Type 0) : Type 0 where
  -- type, name, variable definitions, directives, selection set
  Operation : OperationType → Option Word → Option (Variables C) → Directives C → Selections C → Span → Definition C
  -- name, type condition, directives, selection set
  Fragment : Word → Word → Directives C → Selections C → Span → Definition C
