use Rattle.graphql_nodes.specs.Nodes.{definition_nodes}
use Rattle.juniper_nodes.proofs.Growth.{grown, closed, grown_on_error}
use Rattle.juniper_nodes.proofs.Places.{place_held, kept_on_error}
use Rattle.juniper_nodes.proofs.nodes.definition.push_fragment.Goals as goal

pub returns : goal.returns
unfolding definition_nodes
returns g c =
    let content = g.S.ParseScalarValue.content in
    let parts = grown content c.in_ok-push_directives.ensures c.in_ok-push_selections.ensures in
    rw (← c.deref.ensures.value) (closed content c.in_ok-place.ensures.opened parts c.close.ensures)

pub returns-in_err-push_directives : goal.returns-in_err-push_directives
returns-in_err-push_directives g c =
    let content = g.S.ParseScalarValue.content in
    let before = c.in_ok-place.ensures.opened.1 in
    grown_on_error content _ _ c.from_residual-in_err-push_directives.ensures.0 before c.in_err-push_directives.ensures

pub returns-in_err-push_selections : goal.returns-in_err-push_selections
returns-in_err-push_selections g c =
    let content = g.S.ParseScalarValue.content in
    let before = grown content c.in_ok-place.ensures.opened.1 c.in_ok-push_directives.ensures in
    grown_on_error content _ _ c.from_residual-in_err-push_selections.ensures.0 before c.in_err-push_selections.ensures

pub close-requires : goal.close-requires
close-requires g c =
    let content = g.S.ParseScalarValue.content in
    place_held content c.in_ok-place.ensures.opened
    (grown content c.in_ok-push_directives.ensures c.in_ok-push_selections.ensures)

pub returns-in_err-place : goal.returns-in_err-place
returns-in_err-place g c =
    kept_on_error g.S.ParseScalarValue.content _ _ c.from_residual.ensures.0 c.in_err-place.ensures.kept
