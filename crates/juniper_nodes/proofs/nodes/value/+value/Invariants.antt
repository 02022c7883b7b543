-- The nodes so far are those of the parts so far.
use Rattle.std.proofs.Common.{◌+◌, ◌*◌}
use Rattle.graphql_nodes.specs.Nodes.{value_nodes}
use Rattle.juniper_tree.specs.View.{view_value, view_object_field}
use Rattle.juniper_nodes.proofs.Rows.{Goes}
use Rattle.juniper_nodes.proofs.ValueNodes.{field_nodes}
use Rattle.juniper_nodes.proofs.nodes.value.+value.Given as goal

abbrev pub invariant-push_items-loop-item : goal.invariant-push_items-loop-item
invariant-push_items-loop-item g l =
    let content = g.S.ParseScalarValue.content in
    Goes content value_nodes (view_value content) l.initial.nodes l.nodes l.items l.item-index

abbrev pub invariant-push_fields-loop-key : goal.invariant-push_fields-loop-key
invariant-push_fields-loop-key g l =
    let content = g.S.ParseScalarValue.content in
    Goes content field_nodes (view_object_field content) l.initial.nodes l.nodes l.fields l.key-index

-- A helper over a list ranks above its items, and below the value that the list is in.
abbrev pub decreases-push_value : goal.decreases-push_value
decreases-push_value g l = 2 * goal.size-push_value g l

abbrev pub decreases-push_items : goal.decreases-push_items
decreases-push_items g l = 2 * goal.size-push_items g l + 1

abbrev pub decreases-push_fields : goal.decreases-push_fields
decreases-push_fields g l = 2 * goal.size-push_fields g l + 1
