use Rattle.std.proofs.Common.{map, arith}
use Rattle.graphql_nodes.specs.Nodes.{value_nodes}
use Rattle.juniper_tree.specs.View.{view_value, view_object_field}
use Rattle.juniper_nodes.proofs.Growth.{closed, grown, grown_on_error}
use Rattle.juniper_nodes.proofs.Places.{place_held, kept_on_error}
use Rattle.juniper_nodes.proofs.Rows.{no_part_yet, next_part, no_part}
use Rattle.juniper_nodes.proofs.ValueNodes.{field_nodes, items_in_row, fields_in_row, null-nodes, scalar-nodes, enum-nodes, variable-nodes, list-nodes, object-nodes}
use Rattle.juniper_nodes.proofs.nodes.value.+value.Goals as goal

pub push_value-returns-in-Null : goal.push_value-returns-in-Null
push_value-returns-in-Null g t c =
    let content = g.S.ParseScalarValue.content in
    rw (null-nodes content c.values_are_seen.ensures c.args.value.now c.in-Null.is) c.push_leaf.ensures

pub push_value-returns-in-Scalar : goal.push_value-returns-in-Scalar
push_value-returns-in-Scalar g t c =
    let content = g.S.ParseScalarValue.content in
    rw (scalar-nodes content c.values_are_seen.ensures c.args.value.now _ c.in-Scalar.is) c.push_scalar.ensures

pub push_value-returns-in-Enum : goal.push_value-returns-in-Enum
push_value-returns-in-Enum g t c =
    let content = g.S.ParseScalarValue.content in
    let at = c.in-Enum in
    rw (enum-nodes content c.values_are_seen.ensures c.args.value.now at.name at.is, ← c.as_str.ensures.value)
    c.push_leaf-in-Enum.ensures

pub push_value-returns-in-Variable : goal.push_value-returns-in-Variable
push_value-returns-in-Variable g t c =
    let content = g.S.ParseScalarValue.content in
    let at = c.in-Variable in
    let name = c.as_str-in-Variable in
    rw (variable-nodes content c.values_are_seen.ensures c.args.value.now at.name at.is, ← name.ensures.value)
    c.push_leaf-in-Variable.ensures

pub push_value-returns-in_ok-push_items-in-List : goal.push_value-returns-in_ok-push_items-in-List
push_value-returns-in_ok-push_items-in-List g t c =
    let content = g.S.ParseScalarValue.content in
    let at = c.in-List in
    rw (list-nodes content c.values_are_seen.ensures c.args.value.now at.items at.is, ← c.deref.ensures.value)
    (closed content c.in_ok-place-in-List.ensures.opened c.in_ok-push_items-in-List.ensures c.close.ensures)

pub push_value-returns-in_ok-push_fields-in-Object : goal.push_value-returns-in_ok-push_fields-in-Object
push_value-returns-in_ok-push_fields-in-Object g t c =
    let content = g.S.ParseScalarValue.content in
    let at = c.in-Object in
    let fields = c.deref-in-Object in
    rw (object-nodes content c.values_are_seen.ensures c.args.value.now at.fields at.is, ← fields.ensures.value)
    (closed content c.in_ok-place-in-Object.ensures.opened c.in_ok-push_fields-in-Object.ensures
    c.close-in-Object.ensures)

pub push_items-loop-item-init : goal.push_items-loop-item-init
push_items-loop-item-init g t c = no_part_yet g.S.ParseScalarValue.content value_nodes
    (view_value g.S.ParseScalarValue.content) c.args.nodes.now c.args.items.now

pub push_items-loop-item-preserved : goal.push_items-loop-item-preserved
push_items-loop-item-preserved g t c =
    let content = g.S.ParseScalarValue.content in
    let l = c.loop-item in
    let xs = c.args.items.now in
    let x = c.item-item in
    let view = view_value content in
    next_part content value_nodes view c.args.nodes.now l.nodes _ xs l.item-index x.result (omega arith) x.is
    l.invariant c.in_ok-push_value.ensures

pub push_items-returns : goal.push_items-returns
push_items-returns g t c =
    let content = g.S.ParseScalarValue.content in
    let l = c.loop-item in
    let xs = c.args.items.now in
    let view = view_value content in
    rw (items_in_row (map view xs))
    (no_part content value_nodes view c.args.nodes.now l.nodes xs l.item-index (omega arith) l.invariant)

pub push_fields-loop-key-init : goal.push_fields-loop-key-init
push_fields-loop-key-init g t c = no_part_yet g.S.ParseScalarValue.content field_nodes
    (view_object_field g.S.ParseScalarValue.content) c.args.nodes.now c.args.fields.now

pub push_fields-loop-key-preserved : goal.push_fields-loop-key-preserved
push_fields-loop-key-preserved g t c =
    let content = g.S.ParseScalarValue.content in
    let l = c.loop-key in
    let xs = c.args.fields.now in
    let x = c.loop-key-item in
    let view = view_object_field content in
    let new = c.close.new.nodes in
    next_part content field_nodes view c.args.nodes.now l.nodes new xs l.key-index x.result (omega arith) x.is
    l.invariant
    (rw (← c.as_str.ensures.value) (closed content c.in_ok-place.ensures.opened c.in_ok-push_value.ensures
    c.close.ensures))

pub push_fields-returns : goal.push_fields-returns
push_fields-returns g t c =
    let content = g.S.ParseScalarValue.content in
    let l = c.loop-key in
    let xs = c.args.fields.now in
    let view = view_object_field content in
    rw (fields_in_row (map view xs))
    (no_part content field_nodes view c.args.nodes.now l.nodes xs l.key-index (omega arith) l.invariant)

pub push_value-returns-in_err-push_items-in-List : goal.push_value-returns-in_err-push_items-in-List
push_value-returns-in_err-push_items-in-List g t c =
    let content = g.S.ParseScalarValue.content in
    grown_on_error content _ _ c.from_residual-in_err-push_items-in-List.ensures.0
    c.in_ok-place-in-List.ensures.opened.1 c.in_err-push_items-in-List.ensures

pub push_value-returns-in_err-push_fields-in-Object : goal.push_value-returns-in_err-push_fields-in-Object
push_value-returns-in_err-push_fields-in-Object g t c =
    let content = g.S.ParseScalarValue.content in
    grown_on_error content _ _ c.from_residual-in_err-push_fields-in-Object.ensures.0
    c.in_ok-place-in-Object.ensures.opened.1 c.in_err-push_fields-in-Object.ensures

pub push_items-returns-in_err-push_value : goal.push_items-returns-in_err-push_value
push_items-returns-in_err-push_value g t c =
    let content = g.S.ParseScalarValue.content in
    grown_on_error content _ _ c.from_residual.ensures.0 c.loop-item.invariant c.in_err-push_value.ensures

pub push_fields-returns-in_err-push_value : goal.push_fields-returns-in_err-push_value
push_fields-returns-in_err-push_value g t c =
    let content = g.S.ParseScalarValue.content in
    grown_on_error content _ _ c.from_residual-in_err-push_value.ensures.0
    (grown content c.loop-key.invariant c.in_ok-place.ensures.opened.1) c.in_err-push_value.ensures

pub push_value-close-requires : goal.push_value-close-requires
push_value-close-requires g t c =
    place_held g.S.ParseScalarValue.content c.in_ok-place-in-List.ensures.opened c.in_ok-push_items-in-List.ensures

pub push_value-close-requires-in-Object : goal.push_value-close-requires-in-Object
push_value-close-requires-in-Object g t c =
    place_held g.S.ParseScalarValue.content c.in_ok-place-in-Object.ensures.opened c.in_ok-push_fields-in-Object.ensures

pub push_fields-close-requires : goal.push_fields-close-requires
push_fields-close-requires g t c =
    place_held g.S.ParseScalarValue.content c.in_ok-place.ensures.opened c.in_ok-push_value.ensures

pub push_value-returns-in_err-place-in-List : goal.push_value-returns-in_err-place-in-List
push_value-returns-in_err-place-in-List g t c =
    kept_on_error g.S.ParseScalarValue.content _ _ c.from_residual.ensures.0 c.in_err-place-in-List.ensures.kept

pub push_value-returns-in_err-place-in-Object : goal.push_value-returns-in_err-place-in-Object
push_value-returns-in_err-place-in-Object g t c =
    kept_on_error g.S.ParseScalarValue.content _ _ c.from_residual-in_err-place-in-Object.ensures.0
    c.in_err-place-in-Object.ensures.kept

pub push_fields-returns-in_err-place : goal.push_fields-returns-in_err-place
push_fields-returns-in_err-place g t c =
    let content = g.S.ParseScalarValue.content in
    grown_on_error content _ _ c.from_residual.ensures.0 c.loop-key.invariant c.in_err-place.ensures.kept
