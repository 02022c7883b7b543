use Rattle.std.proofs.Common.{◌∙◌, ap, sym, refl, arith}
use Rattle.std.proofs.lemmas.Option.{slice_get_read}
use Rattle.graphql_nodes.specs.Nodes.{document_nodes}
use Rattle.juniper_outlines.specs.declared.outline.DefinitionOutline.{DefinitionOutline}
use Rattle.firthnapkin_results.proofs.OperationComplexities.{as_many_marks, few_before, mark_at}
use Rattle.firthnapkin_results.proofs.complexity.node_at.Goals as goal

pub returns-then-at-definitions : goal.returns-then-at-definitions
unfolding document_nodes
returns-then-at-definitions c tree marks few below =
    let os = c.args.definitions.now in
    let at = c.args.at in
    let o = c.index-definitions-at.result in
    let get = slice_get_read os _ at o refl (omega arith) c.index-definitions-at.is in
    let mark = mark_at 0 os tree marks at o get in
    let less = few_before tree at in
    let is = ap (λ (z : DefinitionOutline). z.mark) c.index-definitions-at.is in
    c.in_word.ensures (omega (arith, is, mark, less, few)) ∙ (sym is ∙ (mark ∙ omega arith))

pub returns-else-at-definitions : goal.returns-else-at-definitions
returns-else-at-definitions c tree marks few below =
    let many = as_many_marks 0 c.args.definitions.now tree marks in absurd (omega (arith, many, below))
