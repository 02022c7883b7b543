-- How a type is written.
use Rattle.std.specs.Prelude.{◌++◌, codes}
use Rattle.graphql_grammar.specs.Tokens.{Text}
use Rattle.graphql_grammar.specs.Tree.{TypeRef, NamedType, ListType, NonNullType}

-- a type, without spaces and without the size of a list, which no document writes
unfoldable pub type_text : TypeRef → Text
type_text (NamedType name) = name
type_text (ListType size of_type) = codes "[" ++ (type_text of_type ++ codes "]")
type_text (NonNullType of_type) = type_text of_type ++ codes "!"
