use Rattle.std.proofs.Common.{subst, sym}
use Rattle.std.specs.Str.{chars}
use Rattle.graphql_nodes.specs.Nodes.{each, document_nodes}
use Rattle.juniper_documents.specs.Limited.{FailsLimited}
use Rattle.firthnapkin_results.specs.Answers.{scalars}
use Rattle.firthnapkin_results.proofs.Buildings.{definitions_added, definitions_outlined}
use Rattle.firthnapkin_results.proofs.flat.build_nodes.Goals as goal

pub returns-in-Ok-clause-built : goal.returns-in-Ok-clause-built
unfolding each document_nodes
returns-in-Ok-clause-built g c =
    let given = c.in-Ok.ensures in
    let built = given.accepted in
    let outlines = g.O.Outliner.outlines in
    let old = c.args.building.now in
    let new = c.build_document_source.new.builder in
    record {
      tree = built.tree;
      document = record { utf8 = c.utf8.text; has_tree = built.has_tree; within = given.within; few = given.few };
      adds = definitions_added outlines old new _ built.tree built.are_built;
      outlined = λ table fit. definitions_outlined outlines (chars c.args.text.now) old new _ built.tree
          built.are_built table fit;
    }

pub returns-in-Err-clause-failed : goal.returns-in-Err-clause-failed
returns-in-Err-clause-failed g c =
    let text = c.args.text.now in
    let limits = c.args.limits.now in
    let given = c.in-Err.ensures.failed in
    c.failure_of.ensures.document text limits c.utf8.text c.requires.short c.requires.table
    (subst (FailsLimited scalars limits.depth limits.tokens (chars text)) (sym given.1) given.2)
