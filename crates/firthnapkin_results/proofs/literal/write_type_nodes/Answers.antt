use Rattle.std.proofs.Common.{rules}
use Rattle.graphql_grammar.specs.Grammar.{IsLocated, IsType}
use Rattle.graphql_nodes.specs.Nodes.{type_nodes}
use Rattle.graphql_nodes.proofs.Public.{type_has_nodes}
use Rattle.firthnapkin_results.specs.Answers.{scalars}
use Rattle.firthnapkin_results.specs.Literals.{IsDeepType, IsOneType, IsTypeError}
use Rattle.firthnapkin_results.proofs.Bounds.{lengths_within}
use Rattle.firthnapkin_results.proofs.Sources.{literal_read}
use Rattle.firthnapkin_results.proofs.literal.write_type_nodes.Goals as goal

pub returns-clause-bounds : goal.returns-clause-bounds
returns-clause-bounds c =
    lengths_within (IsLocated IsType) type_nodes (type_has_nodes scalars) IsOneType IsTypeError IsDeepType
    (literal_read (IsLocated IsType)) c.args.source.now c.args.limits.now c.args.nodes.now
    c.write_type_of_text.new.nodes c.args.texts.now
    c.write_type_of_text.new.texts c.write_type_of_text.result (search rules)
