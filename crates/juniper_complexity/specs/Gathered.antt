-- The outline of a definition, as it is gathered while the definition is read.
use Rattle.std.specs.Prelude.{◌≡◌, ℕ, suc, List, [], ◌∷◌, ◌++◌, map, Option, Some, None, option_map, replicate}
use Rattle.std.specs.Str.{chars}
use Rattle.graphql_grammar.specs.Tokens.{Text, Word}
use Rattle.graphql_grammar.specs.Tree as tree
use Rattle.graphql_grammar.specs.Tree.{Directives, VariableDefinition, Variables, Selections, OptionalSelections}
use Rattle.graphql_grammar.specs.Tree.{Definition}
use Rattle.juniper_parser.specs.Building.{BuildsEach, BuildsList, BuildsOptional, BuildsOptionalSet, BuildsSet}
use Rattle.juniper_tokens.specs.Spans.{view_span}
use Rattle.juniper_values.specs.Scalar.{Content}
use Rattle.juniper_outlines.specs.Complexities.{nothing, plus, capped, capped_complexity}
use Rattle.juniper_outlines.specs.Sums.{at_level}
use Rattle.juniper_outlines.specs.declared.complexity.Complexity.{Complexity}
use Rattle.juniper_outlines.specs.declared.outline.DefinitionOutline.{DefinitionOutline}
use Rattle.juniper_outlines.specs.declared.outline.NamedSpread.{NamedSpread}
use Rattle.juniper_complexity.specs.Parts.{Reference, directives_complexity, field_complexity, only_directives}
use Rattle.juniper_complexity.specs.Parts.{spreads_of, spreads_of_definition}
use Rattle.juniper_complexity.specs.device.BySpreads.{own_of, own_of_definition}
use Rattle.juniper_complexity.specs.declared.outline_builder.DefinitionOutlines.{DefinitionOutlines}
use Rattle.juniper_complexity.specs.declared.outline_builder.OutlineBuilder.{OutlineBuilder}
use Rattle.juniper_complexity.specs.declared.outline_builder.PartCount.{PartCount}

-- ---- outlines

-- a spread of the code, as the definitions see it
abbrev pub seen_spread : NamedSpread → Reference
seen_spread s = record { name = chars s.name.now; fields_around = s.fields_around; span = view_span s.span }

-- the same spread, with a number of the code
abbrev pub capped_reference : Reference → Reference
capped_reference r = record { name = r.name; fields_around = capped r.fields_around; span = r.span }

abbrev pub fragment_name : Definition Content → Option Text
fragment_name (tree.Operation _ _ _ _ _ _) = None
fragment_name (tree.Fragment name _ _ _ _) = Some name.item

-- The outline is that of this definition: its name if it is a fragment, its complexity with no spread expanded, and its
-- spreads.
pub record IsGathered (o : DefinitionOutline) (d : Definition Content) : Type 0 where
  pub fragment : option_map (λ name. chars name.now) o.fragment ≡ fragment_name d
  pub own_complexity : o.own ≡ capped_complexity (own_of_definition d)
  pub own_spreads : map seen_spread o.spreads.items ≡ map capped_reference (spreads_of_definition d)

-- the outlines of these definitions
abbrev pub AreGathered : List DefinitionOutline → List (Definition Content) → Type 0
AreGathered [] [] = Unit {0}
AreGathered [] (d ∷ ds) = ⊥
AreGathered (o ∷ os) [] = ⊥
AreGathered (o ∷ os) (d ∷ ds) = IsGathered o d × AreGathered os ds

abbrev pub outlines_in : DefinitionOutlines → List DefinitionOutline
outlines_in definitions = definitions.items.items

-- ---- parts of a definition

-- From one state to another a builder gained what is inside as many fields as are around it.
pub record Gathers (old new : OutlineBuilder) (own : ℕ → Complexity) (spreads : ℕ → List Reference) : Type 0 where
  pub own_complexity : (l : ℕ) (x : Complexity) → old.level ≡ capped l → old.own ≡ capped_complexity x
      → new.own ≡ capped_complexity (plus x (own l))
  pub own_spreads : (l : ℕ) → old.level ≡ capped l
      → map seen_spread new.spreads.items ≡ map seen_spread old.spreads.items ++ map capped_reference (spreads l)
  pub same_level : new.level ≡ old.level

-- A field is opened: it is counted, and what is read next is in it.
pub record OpensField (old new : OutlineBuilder) (alias : Option Word) : Type 0 where
  pub own_complexity : (l : ℕ) (x : Complexity) → old.level ≡ capped l → old.own ≡ capped_complexity x
      → new.own ≡ capped_complexity (plus x (at_level l (field_complexity alias)))
  pub deeper : (l : ℕ) → old.level ≡ capped l → new.level ≡ capped (suc l)
  pub same_spreads : new.spreads ≡ old.spreads

-- A spread is opened: it comes after the others. Its span isn't known yet.
pub record OpensSpread (old new : OutlineBuilder) (name : Word) : Type 0 where
  pub spread : NamedSpread
  pub name_is : chars spread.name.now ≡ name.item
  pub around : spread.fields_around ≡ old.level
  pub more : new.spreads.items ≡ old.spreads.items ++ spread ∷ []
  pub same_own : new.own ≡ old.own
  pub same_level : new.level ≡ old.level

-- A definition is opened: nothing is counted yet.
pub record Begins (it : OutlineBuilder) : Type 0 where
  pub no_complexity : it.own ≡ nothing
  pub no_spread : it.spreads.items ≡ []
  pub no_field : it.level ≡ 0

-- ---- what is built

abbrev pub GathersSelection : OutlineBuilder → OutlineBuilder → Unit {0} → tree.Selection Content → Type 0
GathersSelection old new x s = Gathers old new (λ l. own_of l s) (λ l. spreads_of l s)

-- what a list of parts has gathered
abbrev pub gathered : PartCount → List (Unit {0})
gathered parts = replicate parts.count tt

-- the complexity of so many directives
abbrev pub counted_directives : Option PartCount → Complexity
counted_directives None = nothing
counted_directives (Some parts) = only_directives parts.count

module _ {B : Type 0} where
  -- a part that isn't reported leaves the builder as it is
  abbrev pub Keeps : {X A : Type 0} → B → B → X → A → Type 0
  Keeps old new x part = old ≡ new

  abbrev pub KeepsDirectives : B → B → Option PartCount → Directives Content → Type 0
  KeepsDirectives = BuildsOptional (BuildsList Keeps gathered)

  -- By what is gathered of a variable definition: what was gathered of those of an operation.
  abbrev pub GathersVariables : (B → B → Unit {0} → VariableDefinition Content → Type 0) → B → B → Unit {0}
      → Variables Content → Type 0
  GathersVariables gathers old new x vs = (parts : List (Unit {0})) × BuildsEach gathers old new parts vs.item

-- the directives of a variable definition are counted
abbrev pub GathersVariable : OutlineBuilder → OutlineBuilder → Unit {0} → VariableDefinition Content → Type 0
GathersVariable old new x v = Gathers old new (λ _. directives_complexity v.directives) (λ _. [])

abbrev pub GathersSet : OutlineBuilder → OutlineBuilder → PartCount → Selections Content → Type 0
GathersSet = BuildsSet GathersSelection gathered

abbrev pub GathersOptionalSet : OutlineBuilder → OutlineBuilder → Option PartCount → OptionalSelections Content → Type 0
GathersOptionalSet = BuildsOptionalSet GathersSelection gathered
