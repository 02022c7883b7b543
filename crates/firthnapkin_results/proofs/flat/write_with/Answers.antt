use Rattle.std.proofs.Common.{◌∙◌, sym}
use Rattle.graphql_nodes.specs.Nodes.{document_nodes}
use Rattle.firthnapkin_results.proofs.Flats.{nodes_written, written_as}
use Rattle.firthnapkin_results.proofs.flat.write_with.Goals as goal

pub returns-clause-written : goal.returns-clause-written
returns-clause-written g c =
    let it = c.new-builder in
    let built = c.in_ok-definitions.ensures.built in
    let text = c.args.text.now in
    let old_nodes = c.args.nodes.now in
    let old_texts = c.args.texts.now in
    let nodes = c.nodes-2-1.given.1.1 (sym (built.adds.keeps.nodes ∙ it.ensures.same_nodes)) in
    let texts = c.texts-2-1.given.1.1 (sym (built.adds.keeps.texts ∙ it.ensures.same_texts)) in
    let written = nodes_written g.O.Outliner.outlines text c.args.limits.now c.requires.short it.result
    c.build_with.new.builder old_nodes old_texts _ it.ensures.nodes it.ensures.texts it.ensures.table
    c.requires.table built in (
      built.tree,
      record {
        document = written.0.document;
        written = written_as text (document_nodes built.tree) old_nodes old_texts nodes texts c.lengths.ensures
            written.0.written;
      },
      written.1,
    )
