use Rattle.std.proofs.Common.{◌≡◌, drop}
use Rattle.juniper_values.specs.View.{view_items, view_fields}
use Rattle.juniper_values.proofs.Reading.{prepend}
use Rattle.juniper_values.proofs.Trees.{put_item, put_field}
use Rattle.juniper_values.proofs.input_value.copies.+copy.Given as goal

abbrev pub invariant-copy_items-loop-item : goal.invariant-copy_items-loop-item
invariant-copy_items-loop-item g l =
    prepend (put_item g.S.ParseScalarValue.content) l.copies.items
    (view_items g.S.ParseScalarValue.content (drop l.item-index l.item-items))
    ≡ view_items g.S.ParseScalarValue.content l.item-items

abbrev pub invariant-copy_fields-loop-field : goal.invariant-copy_fields-loop-field
invariant-copy_fields-loop-field g l =
    prepend (put_field g.S.ParseScalarValue.content) l.copies.items
    (view_fields g.S.ParseScalarValue.content (drop l.field-index l.field-items))
    ≡ view_fields g.S.ParseScalarValue.content l.field-items
