use Rattle.std.proofs.Common.{arith, rules}
use Rattle.std.specs.Str.{chars}
use Rattle.juniper_tokens.proofs.Public.{chars_within}
use Rattle.juniper_tree.specs.Scalars.{stated}
use Rattle.juniper_documents.proofs.DepthLimits.{deep_is_long}
use Rattle.juniper_documents.proofs.document.parse_document_source.Goals as goal

pub unreachable-requires : goal.unreachable-requires
unreachable-requires g c =
    let S = stated g.S.ParseScalarValue.reading g.S.ScalarValue.of_bool in
    let text = c.args.s.now in
    let deep = rw c.in-Err-TooDeep.field-0-is at c.in-Err-TooDeep.ensures.too_deep in
    let long = deep_is_long S _ (chars text) _ deep in
    let few = chars_within text c.utf8.s in
    search (rules, arith, long, few)
