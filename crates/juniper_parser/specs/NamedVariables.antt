-- Definitions of variables with their names, as they are gathered.
use Rattle.std.specs.Prelude.{ℕ, List, map}
use Rattle.std.specs.Borrow.{Bor}
use Rattle.graphql_grammar.specs.Tree as tree
use Rattle.juniper_tokens.specs.declared.span.Spanning.{Spanning}
use Rattle.juniper_tree.specs.declared.ast.VariableDefinition.{VariableDefinition}
use Rattle.juniper_tree.specs.declared.ast.VariableDefinitions.{VariableDefinitions}
use Rattle.juniper_parser.specs.declared.parser.trees.NamedVariable.{NamedVariable}
use Rattle.juniper_tree.specs.View.{view_variable}

abbrev pub named : {S : Type 0} → Spanning (Bor (List ℕ)) × VariableDefinition S → NamedVariable S
named v = record { name = v.0; definition = v.1 }

abbrev pub gathered_variables : {S : Type 0} → VariableDefinitions S → List (NamedVariable S)
gathered_variables v = map named v.items.items

abbrev pub view_named : {S C : Type 0} → (S → C) → NamedVariable S → tree.VariableDefinition C
view_named content v = view_variable content (v.name, v.definition)
