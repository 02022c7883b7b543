-- The names of the kinds of nodes.
use Rattle.std.specs.Prelude.{codes}
use Rattle.graphql_grammar.specs.Tokens.{Text}
use Rattle.graphql_nodes.specs.declared.kind.NodeKind.{NodeKind}
use Rattle.graphql_nodes.specs.declared.kind.NodeKind.TheVariants as kind

abbrev pub kind_name : NodeKind → Text
kind_name kind.Query = codes "query"
kind_name kind.Mutation = codes "mutation"
kind_name kind.Subscription = codes "subscription"
kind_name kind.FragmentDefinition = codes "fragment"
kind_name kind.VariableDefinitions = codes "variables"
kind_name kind.VariableDefinition = codes "variable"
kind_name kind.Type = codes "type"
kind_name kind.Field = codes "field"
kind_name kind.Alias = codes "alias"
kind_name kind.FragmentSpread = codes "spread"
kind_name kind.InlineFragment = codes "inline"
kind_name kind.Directive = codes "directive"
kind_name kind.Arguments = codes "arguments"
kind_name kind.Argument = codes "argument"
kind_name kind.Null = codes "null"
kind_name kind.Scalar = codes "scalar"
kind_name kind.Enum = codes "enum"
kind_name kind.Variable = codes "reference"
kind_name kind.List = codes "list"
kind_name kind.Object = codes "object"
kind_name kind.ObjectField = codes "key"
