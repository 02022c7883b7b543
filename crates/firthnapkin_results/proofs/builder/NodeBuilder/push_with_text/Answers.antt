use Rattle.std.proofs.Common.{◌≡◌, subst, sym, option_map, arith}
use Rattle.juniper_tokens.specs.Spans.{view_span}
use Rattle.juniper_nodes.specs.NodeViews.{view_label}
use Rattle.firthnapkin_results.specs.Builders.{leaf}
use Rattle.firthnapkin_results.specs.Fits.{NodeFits}
use Rattle.firthnapkin_results.specs.Nodes.{written_node}
use Rattle.firthnapkin_results.specs.Scalars.{content_of}
use Rattle.firthnapkin_results.proofs.Builders.{adds_leaf}
use Rattle.firthnapkin_results.proofs.builder.NodeBuilder.push_with_text.Goals as goal

pub returns : goal.returns
returns c before text adds at =
    let span = view_span c.args.span.now in
    let content = option_map (λ form. content_of text form.now) c.args.form in
    let node = leaf c.args.kind span (view_label span c.args.label) content in
    adds_leaf before c.args.self.now c.open-part.new.self c.put.new.self node c.open-part.result
    c.written_node.result adds c.open-part.ensures.index c.open-part.ensures.adds c.put.ensures.puts c.put.ensures.node
    (λ source table fits count.
    subst (λ n. c.written_node.result ≡ written_node source n node) at
    (c.written_node.ensures source text table (subst (λ n. NodeFits n node) (sym at) fits)
    (omega (arith, c.saturating_sub-length.ensures, count, at))))
