-- The outlines of a document's definitions, and the fragments that their spreads name.
use Rattle.std.specs.Borrow.{Bor}
use Rattle.std.specs.BTreeMap.{BTreeMap}
use Rattle.std.specs.List.{position_from}
use Rattle.std.specs.Prelude.{◌≡◌, ◌<◌, ◌++◌, ◌∷◌, ℕ, suc, Bool, false, List, [], length, map, slice_get, bytes_eq}
use Rattle.std.specs.Prelude.{Option, Some, None, is_none, if◌then◌else◌}
use Rattle.std.specs.Str.{chars}
use Rattle.graphql_lexical.specs.Characters.{Text}
use Rattle.juniper_outlines.specs.declared.complexity.Complexity.{Complexity}
use Rattle.juniper_outlines.specs.declared.operations.OperationComplexity.{OperationComplexity}
use Rattle.juniper_outlines.specs.declared.outline.DefinitionOutline.{DefinitionOutline}
use Rattle.juniper_outlines.specs.declared.outline.NamedSpread.{NamedSpread}
use Rattle.juniper_outlines.specs.Outlines.{Outline, Spread}
use Rattle.juniper_outlines.specs.Names.{Knows}

abbrev pub is_name : Text → Option (Bor (List ℕ)) → Bool
is_name name None = false
is_name name (Some own) = bytes_eq (chars own.now) name

abbrev pub is_named : Text → DefinitionOutline → Bool
is_named name o = is_name name o.fragment

-- the index of the first fragment of this name
abbrev pub place_of : List DefinitionOutline → Text → Option ℕ
place_of definitions name = position_from (is_named name) 0 definitions

-- Definitions with a map of their names, which is used where they are many.
abbrev pub AreNamed : List DefinitionOutline → BTreeMap (Bor (List ℕ)) ℕ → Type 0
AreNamed definitions names = 8 < length definitions → Knows names (place_of definitions)

-- a spread with the definition that its name stands for
abbrev pub resolved : (Text → Option ℕ) → NamedSpread → Spread
resolved place s = record { target = place (chars s.name.now); fields_around = s.fields_around; span = s.span }

abbrev pub outline_of : (Text → Option ℕ) → DefinitionOutline → Outline
outline_of place o = record {
  is_operation = is_none o.fragment;
  own = o.own;
  spreads = map (resolved place) o.spreads.items;
}

-- the outlines of these definitions, where each name stands for the first fragment that has it
abbrev pub outlines_of : List DefinitionOutline → List Outline
outlines_of definitions = map (outline_of (place_of definitions)) definitions

-- ---- definitions without spreads

-- no operation among these definitions has a spread
abbrev pub HaveNoSpreads : List DefinitionOutline → Type 0
HaveNoSpreads os = (i : ℕ) (o : DefinitionOutline) → slice_get os i ≡ Some o → o.fragment ≡ None → o.spreads.items ≡ []

-- an operation's complexity with no spread expanded; a fragment has none of its own
abbrev pub own_complexity : DefinitionOutline → Option Complexity
own_complexity o = if is_none o.fragment then Some o.own else None

abbrev pub one_complexity : ℕ → Option Complexity → List OperationComplexity
one_complexity i None = []
one_complexity i (Some c) = record { definition = i; complexity = c } ∷ []

-- those of the operations among these definitions, the first of which has this index
abbrev pub own_complexities : ℕ → List DefinitionOutline → List OperationComplexity
own_complexities i [] = []
own_complexities i (o ∷ os) = one_complexity i (own_complexity o) ++ own_complexities (suc i) os
