use Rattle.std.proofs.Common.{rules}
use Rattle.graphql_nodes.specs.Nodes.{document_nodes}
use Rattle.graphql_nodes.proofs.Public.{definitions_have_nodes}
use Rattle.firthnapkin_results.specs.Answers.{HasDocument, IsSyntaxError, IsTooDeep, scalars}
use Rattle.firthnapkin_results.proofs.Bounds.{lengths_within}
use Rattle.firthnapkin_results.proofs.Sources.{AreDefinitions, document_read}
use Rattle.firthnapkin_results.proofs.flat.write_nodes.Goals as goal

pub returns-clause-bounds : goal.returns-clause-bounds
returns-clause-bounds c =
    lengths_within AreDefinitions document_nodes (definitions_have_nodes scalars) HasDocument IsSyntaxError IsTooDeep
    document_read c.args.source.now c.args.limits.now c.args.nodes.now c.write_nodes_of_text.new.nodes c.args.texts.now
    c.write_nodes_of_text.new.texts c.write_nodes_of_text.result (search rules)
