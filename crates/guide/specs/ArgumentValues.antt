-- The value of an argument, its variables replaced.
use Rattle.std.specs.Prelude.{ℕ, List, Option, Some, None}
use Rattle.graphql_grammar.specs.Tree.{Value}
use Rattle.juniper_tokens.specs.declared.span.Spanning.{Spanning}
use Rattle.juniper_values.specs.Resolve.{Values, resolve}
use Rattle.juniper_values.specs.View.{view}
use Rattle.juniper_values.specs.declared.input_value.InputValue.{InputValue}
use Rattle.juniper_tree.specs.declared.ast.Arguments.{Arguments}
use Rattle.juniper_tree.specs.Named.{first_named}

module _ {S C : Type 0} (content : S → C) (values : Values C) where
  -- a value whose variables are replaced, if there is one
  abbrev pub replaced : Option (Spanning (InputValue S)) → Option (Value C)
  replaced None = None
  replaced (Some value) = resolve values (view content value.item)

  -- the first argument of this name, its variables replaced
  abbrev pub argument_value : List ℕ → Option (Spanning (Arguments S)) → Option (Value C)
  argument_value name None = None
  argument_value name (Some arguments) = replaced (first_named name arguments.item.items.items)
