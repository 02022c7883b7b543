use Rattle.std.proofs.Common.{◌∙◌, sym}
use Rattle.graphql_grammar.specs.Grammar.{IsLocated, IsType}
use Rattle.graphql_nodes.specs.Nodes.{type_nodes}
use Rattle.graphql_nodes.proofs.Public.{type_has_nodes}
use Rattle.juniper_tree.specs.View.{view_spanned_type}
use Rattle.firthnapkin_results.specs.Answers.{scalars}
use Rattle.firthnapkin_results.specs.Literals.{IsOneType}
use Rattle.firthnapkin_results.proofs.Flats.{are_written, first_fit, written_as}
use Rattle.firthnapkin_results.proofs.Sources.{literal_read}
use Rattle.firthnapkin_results.proofs.literal.write_type.Goals as goal

pub returns-in-Ok-push_type_node-clause-written : goal.returns-in-Ok-push_type_node-clause-written
returns-in-Ok-push_type_node-clause-written c =
    let text = c.args.text.now in
    let limits = c.args.limits.now in
    let old_nodes = c.args.nodes.now in
    let old_texts = c.args.texts.now in
    let it = c.new-builder in
    let given = c.in-Ok.ensures in
    let value = view_spanned_type c.in-Ok.of_type in
    let adds = c.in-Ok-push_type_node.ensures in
    let last = c.push_type_node.new.self in
    let one : IsOneType text limits value =
    record { utf8 = c.utf8.text; has = given.accepted; within = given.within; few = given.few } in
    let ns = type_nodes value in
    let nodes = c.nodes-1.given.1.1 (sym (adds.keeps.nodes ∙ it.ensures.same_nodes)) in
    let texts = c.texts-1.given.1.1 (sym (adds.keeps.texts ∙ it.ensures.same_texts)) in
    let fit = first_fit (IsLocated IsType) type_nodes (type_has_nodes scalars) text
    c.requires.short it.result it.ensures.nodes.1 it.ensures.texts.1 it.ensures.table c.requires.table value
    (literal_read (IsLocated IsType) text limits value one) in
    let written = are_written text it.result last old_nodes old_texts it.ensures.nodes it.ensures.texts ns fit adds in
    (value, one, written_as text ns old_nodes old_texts nodes texts c.lengths.ensures written)

pub returns-clause-failed : goal.returns-clause-failed
returns-clause-failed c =
    c.failure_of.ensures.of_type c.args.text.now c.args.limits.now c.utf8.text c.requires.short c.requires.table
    c.in-Err.ensures.failed
