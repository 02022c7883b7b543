use Rattle.std.proofs.Common.{rules}
use Rattle.juniper_nodes.specs.NodeViews.{view_label}
use Rattle.juniper_tokens.specs.Spans.{view_span}
use Rattle.firthnapkin_results.specs.Builders.{counted}
use Rattle.firthnapkin_results.proofs.Builders.{adds_more, closes}
use Rattle.firthnapkin_results.proofs.builder.NodeBuilder.close.Goals as goal

pub returns : goal.returns
returns c first opened what inner none is_open added =
    let span = view_span c.args.span.now in
    let it = c.args.self.now in
    closes c.args.kind span (view_label span c.args.label) none first it c.put.new.self c.args.part _ is_open.index_is
    (adds_more (counted first) opened it _ _ is_open.adds added) c.put.ensures.puts
    (λ source table fits short inside. search rules)
