use Rattle.graphql_nodes.specs.Nodes.{directive_nodes}
use Rattle.juniper_nodes.proofs.Growth.{closed, grown_on_error}
use Rattle.juniper_nodes.proofs.Places.{place_held, kept_on_error}
use Rattle.juniper_nodes.proofs.nodes.directives.push_directive.Goals as goal

pub returns : goal.returns
unfolding directive_nodes
returns g c =
    closed g.S.ParseScalarValue.content c.in_ok-place.ensures.opened c.in_ok-push_optional_arguments.ensures
    c.close.ensures

pub returns-in_err-push_optional_arguments : goal.returns-in_err-push_optional_arguments
returns-in_err-push_optional_arguments g c =
    let content = g.S.ParseScalarValue.content in
    grown_on_error content _ _ c.from_residual-in_err-push_optional_arguments.ensures.0 c.in_ok-place.ensures.opened.1
    c.in_err-push_optional_arguments.ensures

pub close-requires : goal.close-requires
close-requires g c =
    place_held g.S.ParseScalarValue.content c.in_ok-place.ensures.opened c.in_ok-push_optional_arguments.ensures

pub returns-in_err-place : goal.returns-in_err-place
returns-in_err-place g c =
    kept_on_error g.S.ParseScalarValue.content _ _ c.from_residual.ensures.0 c.in_err-place.ensures.kept
