-- Nodes that are written, and what an outliner gathers, in one parse.
use Rattle.std.specs.Prelude.{◌≡◌, ◌+◌, ℕ, List, [], ◌∷◌, length, Option, chars}
use Rattle.graphql_grammar.specs.Tokens.{Located, Word}
use Rattle.graphql_grammar.specs.Tree.{Value, Arguments, Directives, VariableDefinition, Variables, Selection}
use Rattle.graphql_grammar.specs.Tree.{Selections, OptionalSelections, Definition}
use Rattle.graphql_nodes.specs.Nodes.{Node, value_nodes, arguments_nodes, directive_nodes, variable_nodes}
use Rattle.graphql_nodes.specs.Nodes.{variables_nodes, selection_nodes, definition_nodes, document_nodes}
use Rattle.juniper_parser.specs.Building.{BuildsList, BuildsOptional, BuildsOptionalSet, BuildsSet, Opened}
use Rattle.juniper_complexity.specs.Gathered.{GathersVariables, gathered}
use Rattle.juniper_complexity.specs.declared.outline_builder.PartCount.{PartCount}
use Rattle.juniper_outlines.specs.declared.outline.DefinitionOutline.{DefinitionOutline}
use Rattle.juniper_values.specs.Scalar.{Content}
use Rattle.firthnapkin_results.specs.Answers.{HasDocument}
use Rattle.firthnapkin_results.specs.ByteTables.{IsTableOf}
use Rattle.firthnapkin_results.specs.Builders.{Adds, Fit, Opens}
use Rattle.firthnapkin_results.specs.Outliners.{IsReported}
use Rattle.firthnapkin_results.specs.declared.builder.NodeBuilder.{NodeBuilder}
use Rattle.firthnapkin_results.specs.declared.builder.building.Building.{Building}
use Rattle.firthnapkin_results.specs.declared.builder.building.Part.{Part}
use Rattle.firthnapkin_results.specs.declared.limits.Limits.{Limits}

module _ {O : Type 0} where
  -- By what an outliner gathers of a field, a spread and a definition that begin: a part was opened.
  abbrev pub OpensPart : (O → O → ℕ → Option Word → Type 0) → (O → O → Word → Type 0) → (O → Type 0) → Building O
      → Building O → Part → Opened → Type 0
  OpensPart enters spreads begins old new part what = Opens old.nodes new.nodes part.node what
      × IsReported enters spreads begins old.outlines new.outlines part.around what

  -- the nodes of a part that isn't reported were written
  abbrev pub AddsPart : {X A : Type 0} → (A → List (Node Content)) → Building O → Building O → X → A → Type 0
  AddsPart nodes old new x part = Adds old.nodes new.nodes (nodes part) × (old.outlines ≡ new.outlines)

  -- the nodes of a variable definition were written, and it was gathered
  abbrev pub AddsVariable : (O → O → Unit {0} → VariableDefinition Content → Type 0) → Building O → Building O
      → Unit {0} → VariableDefinition Content → Type 0
  AddsVariable gathers old new x v =
      Adds old.nodes new.nodes (variable_nodes v) × gathers old.outlines new.outlines x v

  abbrev pub AddsVariableList : (O → O → Unit {0} → VariableDefinition Content → Type 0) → Building O → Building O
      → Unit {0} → Variables Content → Type 0
  AddsVariableList gathers old new x vs =
      Adds old.nodes new.nodes (variables_nodes vs) × GathersVariables gathers old.outlines new.outlines x vs

  -- the nodes of a selection were written, and it was gathered
  abbrev pub AddsSelection : (O → O → Unit {0} → Selection Content → Type 0) → Building O → Building O → Unit {0}
      → Selection Content → Type 0
  AddsSelection gathers old new x s =
      Adds old.nodes new.nodes (selection_nodes s) × gathers old.outlines new.outlines x s

  -- the nodes of a definition were written from its outline's mark on
  abbrev pub AddsDefinition : {D : Type 0} → (D → ℕ → Definition Content → Type 0) → Building O → Building O → D
      → Definition Content → Type 0
  AddsDefinition outlines old new outline d =
      Adds old.nodes new.nodes (definition_nodes d) × outlines outline old.nodes.nodes_length d

  -- ---- parts that may be absent

  abbrev pub AddsValue : Building O → Building O → Option (Unit {0}) → Option (Located (Value Content)) → Type 0
  AddsValue = BuildsOptional (AddsPart value_nodes)

  abbrev pub AddsArguments : Building O → Building O → Option (Unit {0}) → Option (Arguments Content) → Type 0
  AddsArguments = BuildsOptional (AddsPart arguments_nodes)

  abbrev pub AddsDirectives : Building O → Building O → Option PartCount → Directives Content → Type 0
  AddsDirectives = BuildsOptional (BuildsList (AddsPart directive_nodes) gathered)

  abbrev pub AddsVariables : (O → O → Unit {0} → VariableDefinition Content → Type 0) → Building O → Building O
      → Option (Unit {0}) → Option (Variables Content) → Type 0
  AddsVariables gathers = BuildsOptional (AddsVariableList gathers)

  abbrev pub AddsSet : (O → O → Unit {0} → Selection Content → Type 0) → Building O → Building O → PartCount
      → Selections Content → Type 0
  AddsSet gathers = BuildsSet (AddsSelection gathers) gathered

  abbrev pub AddsOptionalSet : (O → O → Unit {0} → Selection Content → Type 0) → Building O → Building O
      → Option PartCount → OptionalSelections Content → Type 0
  AddsOptionalSet gathers = BuildsOptionalSet (AddsSelection gathers) gathered

-- ---- a document

-- The marks of outlines are the indexes of the nodes of these definitions, the first of which has this one.
abbrev pub AreMarked : ℕ → List DefinitionOutline → List (Definition Content) → Type 0
AreMarked at [] [] = Unit {0}
AreMarked at [] (d ∷ ds) = ⊥
AreMarked at (o ∷ os) [] = ⊥
AreMarked at (o ∷ os) (d ∷ ds) = (o.mark ≡ at) × AreMarked (at + length (definition_nodes d)) os ds

module _ {D : Type 0} (outlines : D → ℕ → Definition Content → Type 0) where
  -- These are the outlines of these definitions. Their marks are the indexes of their nodes, which begin with this one.
  abbrev pub AreOutlined : ℕ → List D → List (Definition Content) → Type 0
  AreOutlined at [] [] = Unit {0}
  AreOutlined at [] (d ∷ ds) = ⊥
  AreOutlined at (o ∷ os) [] = ⊥
  AreOutlined at (o ∷ os) (d ∷ ds) = outlines o at d × AreOutlined (at + length (definition_nodes d)) os ds

  -- The source is a document within the limits, whose nodes were written, and whose definitions were outlined.
  pub record BuildsNodes (source : List ℕ) (limits : Limits) (old new : NodeBuilder) (gathered : List D) : Type 0 where
    pub tree : List (Definition Content)
    pub document : HasDocument source limits tree
    pub adds : Adds old new (document_nodes tree)
    pub outlined : IsTableOf (chars source) old.table.now → Fit old (document_nodes tree)
        → AreOutlined old.nodes_length gathered tree
