-- What a scalar type states, as the grammar takes it.
use Rattle.std.specs.Prelude.{Bool, Result}
use Rattle.graphql_lexical.specs.declared.kind.Kind.{Kind}
use Rattle.graphql_grammar.specs.Tokens.{Text}
use Rattle.graphql_grammar.specs.Tree.{Scalars}
use Rattle.juniper_tokens.specs.Errors.{Error}
use Rattle.juniper_values.specs.Scalar.{Content, boolean}
use Rattle.juniper_values.specs.Default.{default_reading}

abbrev pub stated : (Kind → Text → Result Content Error) → (Bool → Content) → Scalars Content Error
stated reading of_bool = record { read = reading; of_bool = of_bool }

-- what the default scalar states
abbrev pub default_scalars : Scalars Content Error
default_scalars = stated default_reading boolean
