use Rattle.std.proofs.Common.{◌∙◌, not, sym}
use Rattle.graphql_grammar.specs.Grammar.{IsLocated, IsValue}
use Rattle.graphql_nodes.specs.Nodes.{value_nodes}
use Rattle.graphql_nodes.proofs.Public.{value_has_nodes}
use Rattle.firthnapkin_results.specs.Answers.{scalars}
use Rattle.firthnapkin_results.proofs.Flats.{are_written, first_fit, written_as}
use Rattle.firthnapkin_results.proofs.Sources.{literal_read}
use Rattle.firthnapkin_results.proofs.literal.write_value.Goals as goal

pub returns-clause-written : goal.returns-clause-written
returns-clause-written c =
    let free = not c.args.is_const in
    let text = c.args.text.now in
    let limits = c.args.limits.now in
    let old_nodes = c.args.nodes.now in
    let old_texts = c.args.texts.now in
    let it = c.new-builder in
    let built = c.in_ok-build_value.ensures.built in
    let value = built.0 in
    let adds = built.2 in
    let last = c.build_value.new.builder in
    let ns = value_nodes value in
    let nodes = c.nodes-2-1.given.1.1 (sym (adds.keeps.nodes ∙ it.ensures.same_nodes)) in
    let texts = c.texts-2-1.given.1.1 (sym (adds.keeps.texts ∙ it.ensures.same_texts)) in
    let fit = first_fit (IsLocated (IsValue scalars free)) value_nodes (value_has_nodes scalars free) text
    c.requires.short it.result it.ensures.nodes.1 it.ensures.texts.1 it.ensures.table c.requires.table value
    (literal_read (IsLocated (IsValue scalars free)) text limits value built.1) in
    let written = are_written text it.result last old_nodes old_texts it.ensures.nodes it.ensures.texts ns fit adds in
    (value, built.1, written_as text ns old_nodes old_texts nodes texts c.lengths.ensures written)
