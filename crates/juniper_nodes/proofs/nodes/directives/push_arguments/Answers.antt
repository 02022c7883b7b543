use Rattle.graphql_nodes.specs.Nodes.{argument_nodes, arguments_nodes}
use Rattle.juniper_tree.specs.View.{view_argument}
use Rattle.juniper_nodes.proofs.Growth.{closed, grown_on_error}
use Rattle.juniper_nodes.proofs.Places.{place_held, kept_on_error}
use Rattle.juniper_nodes.proofs.Rows.{each_seen}
use Rattle.juniper_nodes.proofs.nodes.directives.push_arguments.Goals as goal

pub returns : goal.returns
unfolding arguments_nodes
returns g c =
    let content = g.S.ParseScalarValue.content in
    rw (← c.deref.ensures.value, ← each_seen argument_nodes (view_argument content) c.deref.result.now)
    (closed content c.in_ok-place.ensures.opened c.in_ok-push_each.ensures c.close.ensures)

pub returns-in_err-push_each : goal.returns-in_err-push_each
returns-in_err-push_each g c =
    let content = g.S.ParseScalarValue.content in
    grown_on_error content _ _ c.from_residual-in_err-push_each.ensures.0 c.in_ok-place.ensures.opened.1
    c.in_err-push_each.ensures

pub close-requires : goal.close-requires
close-requires g c =
    place_held g.S.ParseScalarValue.content c.in_ok-place.ensures.opened c.in_ok-push_each.ensures

pub returns-in_err-place : goal.returns-in_err-place
returns-in_err-place g c =
    kept_on_error g.S.ParseScalarValue.content _ _ c.from_residual.ensures.0 c.in_err-place.ensures.kept
