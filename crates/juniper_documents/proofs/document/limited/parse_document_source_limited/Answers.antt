use Rattle.std.specs.Str.{chars}
use Rattle.juniper_tree.specs.Scalars.{stated}
use Rattle.juniper_tree.specs.View.{view_definition, view_document}
use Rattle.juniper_documents.proofs.BothLimits.{limited_returns}
use Rattle.juniper_parser.proofs.Public.{seen_trees}
use Rattle.juniper_documents.proofs.document.limited.parse_document_source_limited.Goals as goal

pub returns : goal.returns
returns g c =
    let S = stated g.S.ParseScalarValue.reading g.S.ScalarValue.of_bool in
    let content = g.S.ParseScalarValue.content in
    let limits = c.args.limits in
    let source = chars c.args.s.now in
    let built = c.build_document_source in
    let q = limited_returns S limits.depth limits.tokens source (view_document content) built.result
    (seen_trees (view_definition content) (λ ds. ds.items) S source _ _ built.result built.ensures.accepted)
    built.ensures.within built.ensures.few built.ensures.failed in
    record {
      accepted = q.accepted;
      refused = q.refused;
      within = q.within;
      too_deep = q.too_deep;
      few = q.few;
      too_many = q.too_many;
      limited = q.limited;
    }
