use Rattle.graphql_nodes.specs.Nodes.{argument_nodes}
use Rattle.juniper_nodes.proofs.Growth.{closed, grown_on_error}
use Rattle.juniper_nodes.proofs.Places.{place_held, kept_on_error}
use Rattle.juniper_nodes.proofs.nodes.directives.push_argument.Goals as goal

pub returns : goal.returns
unfolding argument_nodes
returns g c =
    closed g.S.ParseScalarValue.content c.in_ok-place.ensures.opened c.in_ok-push_value.ensures c.close.ensures

pub returns-in_err-push_value : goal.returns-in_err-push_value
returns-in_err-push_value g c =
    let content = g.S.ParseScalarValue.content in
    grown_on_error content _ _ c.from_residual-in_err-push_value.ensures.0 c.in_ok-place.ensures.opened.1
    c.in_err-push_value.ensures

pub close-requires : goal.close-requires
close-requires g c =
    place_held g.S.ParseScalarValue.content c.in_ok-place.ensures.opened c.in_ok-push_value.ensures

pub returns-in_err-place : goal.returns-in_err-place
returns-in_err-place g c =
    kept_on_error g.S.ParseScalarValue.content _ _ c.from_residual.ensures.0 c.in_err-place.ensures.kept
